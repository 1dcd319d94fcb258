use Rattle.std.proofs.Common.{◌≡◌, ◌+◌, ◌/◌, false, Option, Some, option_map, length, sym, ap, subst, refl, ◌∙◌, rules}
use Rattle.std.specs.Prelude.{IfSome}
use Rattle.std.proofs.lemmas.Bool.{false≢true}
use Rattle.std.proofs.lemmas.Result.{err_from_is_err_and}
use Rattle.rs_disk.specs.Runs.{CallsAtMost}
use Rattle.rs_body.specs.declared.read.LoadFault.TheVariants as faults
use Rattle.rs_model.specs.declared.value.Held.{Held}
use Rattle.rs_model.specs.Names.{value_of}
use Rattle.rs_model.specs.State.{body_of}
use Rattle.rs_catalogue.specs.Catalogue.{records_of}
use Rattle.rs_store.specs.declared.refusal.Refusal.TheVariants.{NotHeld, Damaged}
use Rattle.rs_store.specs.Source.{Stored, state_of}
use Rattle.rs_store.specs.Bodies.{refusal_of_body}
use Rattle.rs_store.specs.Shows.{AreAsRecorded, HasItsDigest}
use Rattle.rs_store.proofs.Found.{found_room, found_fits, held_found, holds_name, lacks_name, never_not_held, damaged_body}
use Rattle.rs_store.proofs.source.Source.read_held.Goals as goal

pub read_in_pieces-requires-clause-room : goal.read_in_pieces-requires-clause-room
read_in_pieces-requires-clause-room g c =
    found_room (g.D.Disk.state c.self.inside.disk).size c.self.inside.slots.root c.self.inside.contents c.args.name.now c.in-Some.record.now c.self.invariant.rooted.whole (sym c.in-Some.ensures)

pub read_in_pieces-requires-clause-fits : goal.read_in_pieces-requires-clause-fits
read_in_pieces-requires-clause-fits g c =
    found_fits (g.D.Disk.state c.self.inside.disk).size c.self.inside.slots.root c.self.inside.contents c.args.name.now c.in-Some.record.now c.self.invariant.rooted.whole (sym c.in-Some.ensures)

pub returns-in_default-clause-not_held : goal.returns-in_default-clause-not_held
returns-in_default-clause-not_held g c =
    let is_open : c.args.self.now.is_closed ≡ false = search rules in
    (λ _. (is_open, lacks_name g.D.Disk.state _ c.args.self.now c.args.name.now c.self.view_is (sym c.in_default.ensures)), λ _. refl)

pub returns-in_err-read_in_pieces-clause-not_held : goal.returns-in_err-read_in_pieces-clause-not_held
returns-in_err-read_in_pieces-clause-not_held g c =
    let held = holds_name g.D.Disk.state _ c.args.self.now c.args.name.now c.in-Some.record.now c.self.view_is (sym c.in-Some.ensures) in
    let p = err_from_is_err_and c.from_residual.result c.from_residual.ensures.1 in
    let fault = c.in_err-read_in_pieces.field-0.0 in (
      λ is. let named : refusal_of_body fault ≡ NotHeld = cc in absurd (never_not_held fault named),
      λ none. absurd (false≢true (sym none.1 ∙ held)),
    )

pub returns-in_err-read_in_pieces-clause-damaged : goal.returns-in_err-read_in_pieces-clause-damaged
returns-in_err-read_in_pieces-clause-damaged g c is honest =
    let name = c.args.name.now in
    let seen = (g.D.Disk.state c.self.inside.disk).now.seen in
    let P : Stored g.row.D.Denot → Type 0 = λ s. IfSome (value_of name (state_of g.D.Disk.state s).held) (λ held. HasItsDigest held → ⊥) in
    let Q : Option Held → Type 0 = λ o. IfSome o (λ held. HasItsDigest held → ⊥) in
    let p = err_from_is_err_and c.from_residual.result c.from_residual.ensures.1 in
    let fault = c.in_err-read_in_pieces.field-0.0 in
    let answered : refusal_of_body fault ≡ Damaged = cc in
    let only : fault ≡ faults.Damaged = damaged_body fault answered in
    subst P c.self.view_is
    (subst Q (sym (held_found seen name (records_of c.self.inside.contents.catalogue) c.in-Some.record.now (sym c.in-Some.ensures)))
    (λ digest. c.in_err-read_in_pieces.ensures.body.damaged (cc) honest digest))

pub returns-in_err-read_in_pieces-clause-once : goal.returns-in_err-read_in_pieces-clause-once
returns-in_err-read_in_pieces-clause-once g c =
    let name = c.args.name.now in
    let seen = (g.D.Disk.state c.self.inside.disk).now.seen in
    let new = g.D.Disk.state c.read_in_pieces.new.disk in
    let P : Stored g.row.D.Denot → Type 0 = λ s.
    IfSome (value_of name (state_of g.D.Disk.state s).held) (λ held. CallsAtMost ((held.entry.facts.length + 262143) / 262144) (g.D.Disk.state s.disk) new) in
    let Q : Option Held → Type 0 = λ o. IfSome o (λ held. CallsAtMost ((held.entry.facts.length + 262143) / 262144) (g.D.Disk.state c.self.inside.disk) new) in
    subst P c.self.view_is
    (subst Q (sym (held_found seen name (records_of c.self.inside.contents.catalogue) c.in-Some.record.now (sym c.in-Some.ensures)))
    c.in_err-read_in_pieces.ensures.calls)

pub returns-clause-reads : goal.returns-clause-reads
returns-clause-reads g c honest =
    let name = c.args.name.now in
    let seen = (g.D.Disk.state c.self.inside.disk).now.seen in
    let P : Stored g.row.D.Denot → Type 0 = λ s. body_of name (state_of g.D.Disk.state s) ≡ Some c.read_in_pieces.new.into.items in
    subst P c.self.view_is
    (ap (λ (o : Option Held). option_map (λ held. held.bytes) o) (held_found seen name (records_of c.self.inside.contents.catalogue) c.in-Some.record.now (sym c.in-Some.ensures))
    ∙ ap Some (sym (c.in_ok-read_in_pieces.ensures.body.found honest)))

pub returns-clause-recorded : goal.returns-clause-recorded
returns-clause-recorded g c =
    let name = c.args.name.now in
    let bytes = c.read_in_pieces.new.into.items in
    let seen = (g.D.Disk.state c.self.inside.disk).now.seen in
    let P : Stored g.row.D.Denot → Type 0 = λ s. IfSome (value_of name (state_of g.D.Disk.state s).held) (λ held. AreAsRecorded held.entry.facts bytes) in
    let Q : Option Held → Type 0 = λ o. IfSome o (λ held. AreAsRecorded held.entry.facts bytes) in
    let long : length bytes ≡ c.in-Some.record.now.length = c.in_ok-read_in_pieces.ensures.body.long in
    subst P c.self.view_is
    (subst Q (sym (held_found seen name (records_of c.self.inside.contents.catalogue) c.in-Some.record.now (sym c.in-Some.ensures)))
    (record { len = long; sha256 = c.in_ok-read_in_pieces.ensures.body.digest }))

pub returns-clause-not_held : goal.returns-clause-not_held
returns-clause-not_held g c =
    let held = holds_name g.D.Disk.state _ c.args.self.now c.args.name.now c.in-Some.record.now c.self.view_is (sym c.in-Some.ensures) in
    (λ is. cc, λ none. absurd (false≢true (sym none.1 ∙ held)))

pub returns-clause-once : goal.returns-clause-once
returns-clause-once g c =
    let name = c.args.name.now in
    let seen = (g.D.Disk.state c.self.inside.disk).now.seen in
    let new = g.D.Disk.state c.read_in_pieces.new.disk in
    let P : Stored g.row.D.Denot → Type 0 = λ s.
    IfSome (value_of name (state_of g.D.Disk.state s).held) (λ held. CallsAtMost ((held.entry.facts.length + 262143) / 262144) (g.D.Disk.state s.disk) new) in
    let Q : Option Held → Type 0 = λ o. IfSome o (λ held. CallsAtMost ((held.entry.facts.length + 262143) / 262144) (g.D.Disk.state c.self.inside.disk) new) in
    subst P c.self.view_is
    (subst Q (sym (held_found seen name (records_of c.self.inside.contents.catalogue) c.in-Some.record.now (sym c.in-Some.ensures)))
    c.in_ok-read_in_pieces.ensures.calls)
