use Rattle.std.proofs.Common.{◌≡◌, ◌∙◌, replicate}
use Rattle.rs_disk.specs.Medium.{over}
use Rattle.rs_commit.proofs.Payloads.{closed_made}
use Rattle.rs_commit.proofs.format.closed_slot.Goals as goal

pub returns : goal.returns
returns c =
    let put : c.put.new.bytes ≡ over (replicate 512 0) 1 c.args.payload.now = c.put.ensures in
    put ∙ closed_made c.args.payload.now c.requires
