use Rattle.std.proofs.Common.{rules, ◌≡◌, ◌+◌, ◌++◌, ℕ, List, length, take, length-take, refl, sym, ◌∙◌, ap, subst, arith}
use Rattle.std.specs.Result.{is_err}
use Rattle.rs_disk.specs.Medium.{Medium}
use Rattle.rs_fixity.specs.Hashed.{HasTakenSha256}
use Rattle.rs_body.specs.Blocks.{part}
use Rattle.rs_copy.proofs.FromBelow.{part_only}
use Rattle.rs_copy.proofs.Handed.{err_is}
use Rattle.rs_copy.proofs.Runs.{copies_as, copies_read, copies_write}
use Rattle.rs_copy.proofs.bodies.copy_pieces.Goals as goal

pub returns-in_err-read_piece-clause-copies : goal.returns-in_err-read_piece-clause-copies
returns-in_err-read_piece-clause-copies g c =
    copies_as (λ is. ap is_err (err_is c.from_residual.result c.in_err-read_piece.field-0.0 c.from_residual.ensures.1)) (λ is. refl)
    (copies_read (λ none. none) c.loop-at.invariant.copies c.in_err-read_piece.ensures.runs)

pub returns-in_err-write_piece-clause-copies : goal.returns-in_err-write_piece-clause-copies
returns-in_err-write_piece-clause-copies g c =
    copies_as (λ is. ap is_err (err_is c.from_residual-in_err-write_piece.result c.in_err-write_piece.field-0.0 c.from_residual-in_err-write_piece.ensures.1)) (λ is. refl)
    (copies_write (λ b is. is) (λ is. absurd cc) (copies_read (λ none. none) c.loop-at.invariant.copies c.in_ok-read_piece.ensures.runs)
    (part_only c.args.extent c.loop-at.at _ _ _ c.in_err-write_piece.ensures.writes))

pub loop-at-preserved : goal.loop-at-preserved
loop-at-preserved g c =
    let mid = g.D.Disk.state c.loop-at.from in
    let now = g.E.Disk.state c.loop-at.to in
    let new = g.E.Disk.state c.write_piece.new.disk in
    let inv = c.loop-at.invariant in
    let r = c.in_ok-read_piece.ensures in
    let w = c.in_ok-write_piece.ensures in
    let piece : List ℕ = c.read_piece.new.into in
    let at = c.loop-at.at in
    let size = c.min-size.result in
    let held = c.args.held.now.extent in
    let extent = c.args.extent in
    let asked : length (take size c.loop-at.buffer) ≡ size = omega (arith, length-take size c.loop-at.buffer, c.min-size.ensures, c.min-size.array_long) in
    let long : length piece ≡ size = c.read_piece.auto.into ∙ asked in
    let wrote : part extent (at + size) new.now.seen ≡ part extent at now.now.seen ++ piece =
    subst (λ (n : ℕ). part extent (at + n) new.now.seen ≡ part extent at now.now.seen ++ piece) long w.reads in
    record {
      within = omega (arith, c.min-size.ensures);
      whole = search rules;
      calls = search rules;
      hashed = subst (λ (l : List ℕ). HasTakenSha256 c.add.new.self l) (sym wrote) (c.add.ensures (part extent at now.now.seen) inv.hashed);
      copied = λ honest.
          let read : part held (at + size) mid.now.seen ≡ part held at mid.now.seen ++ piece =
          subst (λ (n : ℕ). part held (at + n) mid.now.seen ≡ part held at mid.now.seen ++ piece) asked (r.gives honest) in
          wrote ∙ ap (λ (l : List ℕ). l ++ piece) (inv.copied (r.runs.runs.lasts honest))
          ∙ sym (subst (λ (m : Medium). part held (at + size) m.seen ≡ part held at m.seen ++ piece) inv.copies.runs.rests.now read);
      copies = copies_as (λ is. absurd cc) (λ none. absurd none)
          (copies_write (λ b is. is) (λ is. absurd cc) (copies_read (λ none. none) inv.copies r.runs) (part_only extent at (length piece) now new w.writes));
    }
