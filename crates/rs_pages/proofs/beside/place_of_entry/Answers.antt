use Rattle.std.proofs.Common.{rules, ◌≡◌, true, get_or, ◌∙◌, subst}
use Rattle.std.specs.List.{Contains}
use Rattle.std.proofs.lemmas.List.{get_or_default}
use Rattle.std.specs.Prelude.{nat_eq, bytes_eq, ◌&&◌}
use Rattle.std.proofs.lemmas.List.Sorted.{answers_always}
use Rattle.rs_page.specs.declared.place.PageRef.{PageRef}
use Rattle.rs_page.specs.contracts.place.PageRefOrd.TheImpl.Laws.{total-law, matches_eq-law}
use Rattle.rs_page.specs.Pages.{same_page}
use Rattle.rs_pages.specs.declared.beside.EntryAt.{EntryAt}
use Rattle.rs_pages.proofs.ByEntry.{level, grouped, none_found, found_level, told}
use Rattle.rs_pages.proofs.beside.place_of_entry.Goals as goal

pub returns-in-Ok-clause-some : goal.returns-in-Ok-clause-some
returns-in-Ok-clause-some c =
    let entry : PageRef = c.args.entry.now in
    let d : EntryAt = record { entry = entry; place = 0 } in
    let found : EntryAt = get_or c.args.sorted.now c.in-Ok.found d in
    let same : same_page entry found.entry ≡ true =
    grouped (nat_eq entry.extent.first found.entry.extent.first && nat_eq entry.extent.blocks found.entry.extent.blocks) (nat_eq entry.length found.entry.length)
    (bytes_eq entry.sha256 found.entry.sha256)
    ∙ found_level total-law matches_eq-law (λ (at : EntryAt). at.entry) entry c.args.sorted.now c.in-Ok.found d
    (c.in-Ok.ensures.position (λ at. at.entry) (answers_always _ _ _ (λ f a r g called. search rules))) in
    subst (λ (at : EntryAt). Contains c.args.sorted.now (record { entry = entry; place = at.place }))
    (get_or_default c.args.sorted.now c.in-Ok.found d _ c.in-Ok.ensures.bound)
    (told c.args.sorted.now c.in-Ok.found d entry c.in-Ok.ensures.bound same)

pub returns-in-Err-clause-none : goal.returns-in-Err-clause-none
returns-in-Err-clause-none c none =
    let entry : PageRef = c.args.entry.now in
    let tests = λ (other : PageRef).
    grouped (nat_eq entry.extent.first other.extent.first && nat_eq entry.extent.blocks other.extent.blocks) (nat_eq entry.length other.length)
    (bytes_eq entry.sha256 other.sha256) ∙ level total-law matches_eq-law entry other in
    none_found _ total-law (λ (at : EntryAt). at.entry) (same_page entry) entry tests c.args.sorted.now c.in-Err.field-0 c.requires
    (c.in-Err.ensures.position (λ at. at.entry) (answers_always _ _ _ (λ f a r g called. search rules)))
