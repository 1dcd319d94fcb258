use Rattle.std.proofs.Common.{◌≡◌, ◌<◌, ℕ, length, take, drop, sym, ◌∙◌, ap, arith, length-take, length-drop, Ok}
use Rattle.std.proofs.lemmas.List.{length-take-le, take-take}
use Rattle.rs_commit.proofs.FromBelow.{reading_one}
use Rattle.rs_commit.specs.Slots.{offset, block}
use Rattle.rs_commit.proofs.Contents.{missing}
use Rattle.rs_commit.proofs.reading.read_slot.Goals as goal

pub returns-then-size-from-clause-content : goal.returns-then-size-from-clause-content
returns-then-size-from-clause-content g c _ =
    let is = g.met.D.Disk.holds c.args.disk.now in
    let image = (g.D.Disk.state c.args.disk.now).now.seen in
    let short : length (block image c.args.slot) < 512 =
    omega (arith, c.if-size-from.true, c.offset-from.ensures, c.size.ensures, is.settled, is.image.size, length-take 512 (drop (offset c.args.slot) image), length-drop (offset c.args.slot) image) in
    sym (missing (block image c.args.slot) short)

pub returns-clause-runs : goal.returns-clause-runs
returns-clause-runs g c = reading_one (g.D.Disk.state c.args.disk.now) (g.D.Disk.state c.read.new.self) (Ok c.in_ok-read.field-0) c.in_ok-read.ensures.counts c.in_ok-read.ensures.stays

pub returns-clause-content : goal.returns-clause-content
returns-clause-content g c honest =
    let is = g.met.D.Disk.holds c.args.disk.now in
    let image = (g.D.Disk.state c.args.disk.now).now.seen in
    let from = offset c.args.slot in
    let whole : length (block image c.args.slot) ≡ 512 =
    length-take-le 512 (drop from image) (omega (arith, c.if-size-from.false, c.offset-from.ensures, c.size.ensures, is.settled, is.image.size, length-drop from image)) in
    let are : c.read.new.into ≡ take 54 (block image c.args.slot) =
    c.in_ok-read.ensures.gives honest ∙ ap (λ (k : ℕ). take 54 (drop k image)) c.offset-from.ensures ∙ sym (take-take 54 512 (drop from image) (omega arith)) in
    c.content.ensures (block image c.args.slot) whole are
