use Rattle.std.proofs.Common.{◌≡◌, ◌≤◌, ◌+◌, ℕ, Bool, [], ◌∷◌, length, take, map, sym, ◌∙◌, ap, subst, arith}
use Rattle.std.specs.Prelude.{All}
use Rattle.std.proofs.lemmas.List.{take_all}
use Rattle.std.proofs.lemmas.List.Elements.{All-nil, All-cons, All-head, All-take}
use Rattle.std.proofs.lemmas.Slice.Zip.{AllZip-long}
use Rattle.rs_disk.specs.Medium.{Medium}
use Rattle.rs_extent.specs.Extents.{in_some}
use Rattle.rs_body.specs.Outside.{Keeps}
use Rattle.rs_record.specs.declared.record.Record.{Record}
use Rattle.rs_catalogue.specs.Catalogue.{records_of}
use Rattle.rs_image.specs.Reach.{bodies_of}
use Rattle.rs_image.specs.StateOfImage.{held_in}
use Rattle.rs_copy.proofs.FromBelow.{each_more, each_at_end}
use Rattle.rs_copy.specs.declared.faults.CopyFault.TheVariants.{Device}
use Rattle.rs_copy.specs.Laying.{IsMoved}
use Rattle.rs_copy.specs.Copies.{HasItsBody}
use Rattle.rs_copy.specs.Copying.{HasPlace}
use Rattle.rs_copy.proofs.MovedBodies.{ends_bodies, each_of, body_among, beside_before, moved_at, held_more, bodies_stay, read_once_more, read_among}
use Rattle.rs_copy.proofs.Runs.{copies_as, copies_handed, copies_then}
use Rattle.rs_copy.proofs.bodies.copy_bodies.Goals as goal

pub returns-in_err-copy_body-clause-copies : goal.returns-in_err-copy_body-clause-copies
returns-in_err-copy_body-clause-copies g c =
    let ms = records_of c.args.new.now in
    copies_handed c.from_residual.result c.in_err-copy_body.field-0.0 Device c.from_residual.ensures.1
    (copies_then (bodies_of ms) (λ b is. is) (body_among ms c.loop-i.i c.at-in-loop-i.result.now c.at-in-loop-i.ensures) (λ none. none) c.loop-i.invariant.copies c.in_err-copy_body.ensures.copies)

pub returns-in_err-copy_body-clause-bodies : goal.returns-in_err-copy_body-clause-bodies
returns-in_err-copy_body-clause-bodies g c =
    let r = c.at.result.now in
    let fault = c.in_err-copy_body.field-0.0 in
    let before = (g.D.Disk.state c.args.from.now).now.seen in
    ends_bodies c.from_residual.result fault c.from_residual.ensures.1
    (λ is honest all. c.in_err-copy_body.ensures.bodies.damaged is honest
    (subst (λ (k : Medium). All (HasItsBody k.seen) (r ∷ [])) (sym c.loop-i.invariant.copies.runs.rests.now)
    (All-cons (HasItsBody before) r [] (each_of (HasItsBody before) (records_of c.args.old.now) c.loop-i.i r c.at.ensures all) (All-nil (HasItsBody before)))))

pub returns-in_err-copy_body-clause-once : goal.returns-in_err-copy_body-clause-once
returns-in_err-copy_body-clause-once g c =
    let rs = records_of c.args.old.now in
    let i = c.loop-i.i in
    let before = g.D.Disk.state c.args.from.now in
    let new = g.D.Disk.state c.copy_body.new.from in
    read_among rs (i + 1) before new
    (read_once_more rs i c.at.result.now c.at.ensures before (g.D.Disk.state c.loop-i.from) new c.loop-i.invariant.once c.in_err-copy_body.ensures.once)

pub loop-i-preserved : goal.loop-i-preserved
loop-i-preserved g c =
    let before = g.D.Disk.state c.args.from.now in
    let old = g.E.Disk.state c.args.to.now in
    let now = g.E.Disk.state c.loop-i.to in
    let new = g.E.Disk.state c.copy_body.new.to in
    let inv = c.loop-i.invariant in
    let e = c.in_ok-copy_body.ensures in
    let rs = records_of c.args.old.now in
    let ms = records_of c.args.new.now in
    let i = c.loop-i.i in
    let r = c.at.result.now in
    let m = c.at-in-loop-i.result.now in
    let there = c.at-in-loop-i.ensures in
    let moved : IsMoved r m = moved_at rs ms i r m c.requires.alike c.at.ensures there in
    let first : ℕ → Bool = in_some (bodies_of (take i ms)) in
    let keeps : Keeps first now.now.seen new.now.seen = (e.copies.outside first (beside_before ms i m there c.requires.apart)).seen in
    let stay = bodies_stay first old.size (take i ms) now.now.seen new.now.seen (All-take (HasPlace old.size) i ms c.requires.rooms) (λ b is. is) keeps in
    record {
      copied = λ honest.
          held_more rs ms i r m before.now.seen now.now.seen new.now.seen c.at.ensures there stay.0 (inv.copied (e.copies.runs.rests.lasts honest))
          (ap (λ (x : Record). map (held_in new.now.seen) (x ∷ [])) moved
          ∙ subst (λ (k : Medium). map (held_in new.now.seen) (record r { extent = m.extent } ∷ []) ≡ map (held_in k.seen) (r ∷ [])) inv.copies.runs.rests.now (e.bodies.copied honest));
      intact = each_more (HasItsBody new.now.seen) ms i m there
          (stay.1 inv.intact) (subst (HasItsBody new.now.seen) (sym moved) (All-head (HasItsBody new.now.seen) (record r { extent = m.extent }) [] e.bodies.intact));
      once = read_once_more rs i r c.at.ensures before (g.D.Disk.state c.loop-i.from) (g.D.Disk.state c.copy_body.new.from) inv.once e.once;
      copies = copies_as (λ is. absurd cc) (λ none. absurd none)
          (copies_then (bodies_of ms) (λ b is. is) (body_among ms i m there) (λ none. none) inv.copies e.copies);
    }

pub returns-clause-bodies : goal.returns-clause-bodies
returns-clause-bodies g c =
    let rs = records_of c.args.old.now in
    let ms = records_of c.args.new.now in
    let i = c.loop-i.i in
    let past : length rs ≤ i = omega (arith, c.loop-i-test.false, c.len-i-end.ensures.value) in
    let past_new : length ms ≤ i = omega (arith, past, AllZip-long IsMoved rs ms c.requires.alike) in
    let new = (g.E.Disk.state c.loop-i.to).now.seen in
    record {
      copied = λ honest.
          ap (map (held_in new)) (sym (take_all i ms past_new)) ∙ c.loop-i.invariant.copied honest
          ∙ ap (map (held_in (g.D.Disk.state c.args.from.now).now.seen)) (take_all i rs past);
      intact = each_at_end (HasItsBody new) ms i past_new c.loop-i.invariant.intact;
      damaged = λ is. absurd cc;
    }

pub returns-clause-once : goal.returns-clause-once
returns-clause-once g c =
    read_among (records_of c.args.old.now) c.loop-i.i (g.D.Disk.state c.args.from.now) (g.D.Disk.state c.loop-i.from) c.loop-i.invariant.once
