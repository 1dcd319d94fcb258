use Rattle.std.proofs.Common.{◌≡◌, false, Option, Some, option_map, sym, ap, subst, refl, ◌∙◌, rules}
use Rattle.std.proofs.lemmas.Bool.{false≢true}
use Rattle.std.proofs.lemmas.Result.{err_from_is_err_and}
use Rattle.rs_model.specs.declared.value.Held.{Held}
use Rattle.rs_catalogue.specs.Catalogue.{records_of}
use Rattle.rs_store.specs.declared.refusal.Refusal.TheVariants.{NotHeld, NoMemory}
use Rattle.rs_store.specs.Source.{Stored, state_of}
use Rattle.rs_store.specs.Shows.{kind_of}
use Rattle.rs_store.proofs.Found.{held_found, holds_name, lacks_name}
use Rattle.rs_store.proofs.source.Source.kind.Goals as goal

other : NoMemory ≡ NotHeld → ⊥
other e = cc

pub returns-in_default-clause-not_held : goal.returns-in_default-clause-not_held
returns-in_default-clause-not_held g c =
    let is_open : c.args.self.now.is_closed ≡ false = search rules in
    (λ _. (is_open, lacks_name g.D.Disk.state _ c.args.self.now c.args.name.now c.self.view_is (sym c.in_default.ensures)), λ _. refl)

pub returns-in_err-copy-clause-not_held : goal.returns-in_err-copy-clause-not_held
returns-in_err-copy-clause-not_held g c =
    let held = holds_name g.D.Disk.state _ c.args.self.now c.args.name.now c.in-Some.record.now c.self.view_is (sym c.in-Some.ensures) in
    let p = err_from_is_err_and c.from_residual.result c.from_residual.ensures.1 in (
      λ is. let named : NoMemory ≡ NotHeld = cc in absurd (other named),
      λ none. absurd (false≢true (sym none.1 ∙ held)),
    )

pub returns-clause-kind : goal.returns-clause-kind
returns-clause-kind g c =
    let name = c.args.name.now in
    let seen = (g.D.Disk.state c.self.inside.disk).now.seen in
    let P : Stored g.row.D.Denot → Type 0 = λ s. kind_of name (state_of g.D.Disk.state s) ≡ Some c.in-Some.record.now.kind in
    let same : c.in_ok-copy.field-0 ≡ c.in-Some.record.now.kind = search rules in
    subst P c.self.view_is
    (ap (λ (o : Option Held). option_map (λ held. held.entry.facts.kind) o) (held_found seen name (records_of c.self.inside.contents.catalogue) c.in-Some.record.now (sym c.in-Some.ensures)))
    ∙ ap Some (sym same)

pub returns-clause-not_held : goal.returns-clause-not_held
returns-clause-not_held g c =
    let held = holds_name g.D.Disk.state _ c.args.self.now c.args.name.now c.in-Some.record.now c.self.view_is (sym c.in-Some.ensures) in
    (λ is. cc, λ none. absurd (false≢true (sym none.1 ∙ held)))
