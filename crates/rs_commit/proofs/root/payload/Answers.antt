use Rattle.std.proofs.Common.{◌≡◌, ◌∷◌, [], List, ℕ, take, replicate, ◌∙◌, ap, arith}
use Rattle.rs_disk.specs.Medium.{over}
use Rattle.rs_commit.proofs.Payloads.{spelled}
use Rattle.rs_commit.proofs.root.payload.Goals as goal

pub returns-clause-lawful : goal.returns-clause-lawful
returns-clause-lawful c = record { version = c.requires; generation = omega arith; first = omega arith; blocks = omega arith; bytes = omega arith; digest = omega arith }

pub returns-clause-bytes : goal.returns-clause-bytes
returns-clause-bytes c =
    let b1 = c.put.new.bytes in
    let b2 = c.put-2.new.bytes in
    let b3 = c.put-3.new.bytes in
    let b4 = c.put-4.new.bytes in
    let b5 = c.put-5.new.bytes in
    let first : b1 ≡ over (replicate 53 0) 0 (c.args.root.version ∷ []) = c.put.ensures in
    spelled c.args.root b1 b2 b3 b4 b5 c.put-6.new.bytes (returns-clause-lawful c) (omega arith) (omega arith) (ap (λ (l : List ℕ). take 1 l) first)
    (c.put-2.ensures ∙ ap (λ (l : List ℕ). over b1 1 l) c.to_be_bytes.ensures) (c.put-3.ensures ∙ ap (λ (l : List ℕ). over b2 9 l) c.to_be_bytes-2.ensures)
    (c.put-4.ensures ∙ ap (λ (l : List ℕ). over b3 13 l) c.to_be_bytes-3.ensures) (c.put-5.ensures ∙ ap (λ (l : List ℕ). over b4 17 l) c.to_be_bytes-4.ensures) c.put-6.ensures
