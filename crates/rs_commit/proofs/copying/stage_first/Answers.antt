use Rattle.std.proofs.Common.{◌≡◌, ◌+◌, ℕ, List, take, drop, ◌∙◌}
use Rattle.std.proofs.lemmas.Result.{on_ok_weaker}
use Rattle.rs_disk.specs.Medium.{over, resting}
use Rattle.rs_commit.specs.Slots.{payload_of}
use Rattle.rs_commit.proofs.Closed.{rest_of, staged_bytes}
use Rattle.rs_commit.proofs.copying.stage_first.Goals as goal

pub returns-clause-written : goal.returns-clause-written
returns-clause-written g c =
    let root = c.args.root.now in
    let bytes : List ℕ = take 511 (drop 1 c.closed_slot-bytes.result) in
    let is : bytes ≡ rest_of (payload_of root) = staged_bytes root c.payload.ensures.lawful c.closed_slot-bytes.result c.payload.result c.closed_slot-bytes.ensures c.payload.ensures.bytes in
    let old = (g.D.Disk.state c.args.disk.now).now.seen in
    let new = (g.D.Disk.state c.write_settled.new.disk).now in
    on_ok_weaker {P = new ≡ resting (over old (c.offset.result + 1) bytes)} {Q = new ≡ resting (over old 1 (rest_of (payload_of root)))} c.write_settled.result
    (λ settled. settled ∙ (λ i. resting (over old (c.offset.ensures i + 1) (is i)))) c.write_settled.ensures.settled
