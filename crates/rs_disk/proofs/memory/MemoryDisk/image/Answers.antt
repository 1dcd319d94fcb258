use Rattle.std.proofs.Common.{sym, subst, List, ℕ, Result, Ok, Err, IfOk, ◌≡◌, length, Vec}
use Rattle.std.specs.declared.alloc.Global.{Global}
use Rattle.std.specs.declared.alloc.AllocError.{AllocError}
use Rattle.rs_disk.specs.Medium.{Medium, IsImage, image_of}
use Rattle.rs_disk.specs.Contents.{medium_of}
use Rattle.rs_disk.proofs.Choice.{image_of_image}
use Rattle.rs_disk.proofs.memory.MemoryDisk.image.Goals as goal

is_image : (m : Medium) (image : List ℕ) (r : Result (Vec ℕ Global) AllocError) → IsImage m image → IfOk r (λ v. v.items ≡ image) → IfOk r (λ v. IsImage m v.items)
is_image m image (Ok v) is same = subst (λ (l : List ℕ). IsImage m l) (sym same) is
is_image m image (Err e) is same = tt

pub returns-clause-image : goal.returns-clause-image
returns-clause-image c =
    let d = c.args.self.now.contents in
    let choice = c.args.choice.now in
    is_image (medium_of d) (image_of choice (medium_of d)) c.image.result (image_of_image (medium_of d) (length d.seen.items) d.sound choice) c.image.ensures
