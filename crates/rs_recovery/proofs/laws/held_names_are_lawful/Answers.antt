use Rattle.std.proofs.Common.{List, ℕ, [], ◌∷◌, All, IsTrue, subst}
use Rattle.std.proofs.lemmas.List.Elements.{All-nil, All-append, All-map, All-weaker}
use Rattle.rs_record.specs.Lawful.{IsLawfulRecord}
use Rattle.rs_record.specs.Name.{is_name}
use Rattle.rs_record.specs.declared.record.Record.{Record}
use Rattle.rs_model.specs.State.{Source}
use Rattle.rs_model.specs.declared.value.Held.{Held}
use Rattle.rs_page.specs.DiskPages.{ArePages}
use Rattle.rs_page.specs.Items.{record_format}
use Rattle.rs_page.specs.Pages.{Page, stored_refs}
use Rattle.rs_page.specs.declared.place.PageRef.{PageRef}
use Rattle.rs_pages.specs.Storing.{items_by_page}
use Rattle.rs_catalogue.specs.Catalogue.{records_of}
use Rattle.rs_image.specs.StateOfImage.{held_in}
use Rattle.rs_recovery.proofs.laws.held_names_are_lawful.Goals as goal

-- the records of pages that an image has are lawful
records_lawful : (refs : List PageRef) (image : List ℕ) (pages : List (Page Record)) → ArePages record_format refs image (items_by_page pages) → All IsLawfulRecord (records_of pages)
records_lawful [] image [] are = All-nil IsLawfulRecord
records_lawful [] image (page ∷ pages) are = absurd are
records_lawful (ref ∷ refs) image [] are = absurd are
records_lawful (ref ∷ refs) image (page ∷ pages) are =
    All-append IsLawfulRecord page.items (records_of pages) are.0.lawful.lawful (records_lawful refs image pages are.1)

abbrev HasName : List ℕ × Held → Type 0
HasName held = IsTrue (is_name held.0)

pub returns : goal.returns
returns c image s stands =
    let lists = stands.2.0 in
    let tells = stands.2.1 in
    let records = records_of lists.catalogue in
    let lawful = records_lawful (stored_refs lists.catalogue) image lists.catalogue tells.catalogue.hold in
    subst (λ (t : Source). All HasName t.held) tells.state
    (All-map HasName (held_in image) records (All-weaker IsLawfulRecord (λ r. HasName (held_in image r)) (λ r is. is.name) records lawful))
