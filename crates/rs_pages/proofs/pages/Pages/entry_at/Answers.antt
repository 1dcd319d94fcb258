use Rattle.std.proofs.Common.{◌≡◌, Some, None, ap, ◌∙◌, sym, refl, length}
use Rattle.std.specs.Prelude.{slice_get}
use Rattle.std.proofs.lemmas.Option.{slice_get_read, slice_get_past}
use Rattle.rs_pages.specs.Entries.{entry_at}
use Rattle.rs_pages.proofs.FoundEntries.{entry_at_some, entry_at_none}
use Rattle.rs_pages.proofs.pages.Pages.entry_at.Goals as goal

pub returns-in-Some : goal.returns-in-Some
returns-in-Some g c =
    let pages = c.deref.result.now in
    let there = c.in-Some.ensures.lookup in
    let at : slice_get pages c.args.i ≡ Some c.in-Some.page.now = slice_get_read pages (length pages) c.args.i c.in-Some.page.now refl there.3.0 there.1 in
    c.entry_of.ensures ∙ (sym (entry_at_some c.args.i pages c.in-Some.page.now at) ∙ ap (entry_at c.args.i) (c.deref.ensures.value ∙ c.self.view_is))

pub returns-in-None : goal.returns-in-None
returns-in-None g c =
    let pages = c.deref.result.now in
    let past : slice_get pages c.args.i ≡ None = slice_get_past pages c.args.i c.in-None.ensures.lookup.3 in
    sym (entry_at_none c.args.i pages past) ∙ ap (entry_at c.args.i) (c.deref.ensures.value ∙ c.self.view_is)
