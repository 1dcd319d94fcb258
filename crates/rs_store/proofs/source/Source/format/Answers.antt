use Rattle.std.proofs.Common.{◌≡◌, ◌≤◌, ◌∙◌, ℕ, length, ap, sym, subst, arith}
use Rattle.rs_commit.specs.Format.{formatted, fresh}
use Rattle.rs_commit.specs.Slots.{Standing}
use Rattle.rs_image.specs.Reach.{blocks_of_disk}
use Rattle.rs_store.specs.Formatting.{first_root, first_contents}
use Rattle.rs_store.proofs.Started.{first_holds}
use Rattle.rs_store.proofs.source.Source.format.Goals as goal

pub returns-in-Ok-write_blank-clause-holds : goal.returns-in-Ok-write_blank-clause-holds
returns-in-Ok-write_blank-clause-holds g c =
    let device = g.D.Disk.state in
    let disk = c.write_blank.new.disk in
    let medium = g.met.D.Disk.holds disk in
    let is = c.in-Ok-write_blank.ensures in
    let size : c.size.result ≡ length (device disk).now.seen = omega (arith, medium.image.size, medium.settled, is.runs.runs.size, c.size.ensures) in
    first_holds device disk c.in-Ok-write_blank.slots c.args.base.now c.args.limit c.args.now c.in-Ok.blank c.in-Ok.ensures.blank is.slots is.made.ready is.made.resting is.made.reads
    (subst (λ (n : ℕ). 16 ≤ blocks_of_disk n) size c.in-Ok.ensures.may.room)

pub returns-in-Ok-write_blank-clause-contents : goal.returns-in-Ok-write_blank-clause-contents
returns-in-Ok-write_blank-clause-contents g c = c.in-Ok.ensures.blank.contents

pub returns-in-Ok-write_blank-clause-slots : goal.returns-in-Ok-write_blank-clause-slots
returns-in-Ok-write_blank-clause-slots g c =
    let blank = c.in-Ok.ensures.blank in
    let root : c.in-Ok.blank.root ≡ first_root (first_contents c.args.base.now c.args.limit c.args.now) = blank.root ∙ ap first_root blank.contents in
    c.in-Ok-write_blank.ensures.slots ∙ ap fresh root

pub returns-in-Ok-write_blank-clause-front : goal.returns-in-Ok-write_blank-clause-front
returns-in-Ok-write_blank-clause-front g c =
    c.in-Ok-write_blank.ensures.made.front ∙ sym (ap (λ (slots : Standing). formatted slots.root) c.in-Ok-write_blank.ensures.slots)
