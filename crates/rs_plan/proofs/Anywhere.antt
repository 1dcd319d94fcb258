-- The lists after a command need as many blocks wherever its bodies lie.
use Rattle.std.proofs.Common.{◌≡◌, ℕ, ◌+◌, Bool, true, false, if◌then◌else◌, List, [], ◌∷◌, refl, sym, ◌∙◌, ap, ap₂}
use Rattle.std.specs.Prelude.{is_some}
use Rattle.std.specs.List.{AllByRecursion}
use Rattle.rs_extent.specs.declared.Extent.{Extent}
use Rattle.rs_record.specs.declared.record.Record.{Record}
use Rattle.rs_record.specs.Changes.{bound, deleted}
use Rattle.rs_page.specs.Items.{record_format}
use Rattle.rs_page.specs.Pages.{Page}
use Rattle.rs_catalogue.specs.Catalogue.{records_of}
use Rattle.rs_catalogue.specs.Named.{named}
use Rattle.rs_model.specs.Names.{value_of}
use Rattle.rs_model.specs.State.{facts_of}
use Rattle.rs_model.specs.declared.command.Command.{Command}
use Rattle.rs_model.specs.declared.command.Command.TheVariants.{Put, Delete, Publish, Group}
use Rattle.rs_model.specs.declared.command.Item.{Item}
use Rattle.rs_model.specs.declared.command.Item.TheVariants as single
use Rattle.rs_image.specs.declared.contents.Contents.{Contents}
use Rattle.rs_plan.specs.Plans.{lists_after}
use Rattle.rs_plan.specs.Room.{lists_needed}
use Rattle.rs_plan.specs.Turned.{no_body, first_of, lists_with, lists_after_item, lists_after_items, is_written, extent_for, extents_left}
use Rattle.rs_plan.proofs.Drafts.{StaysLong, each_refilled, same_count, same_needed}
use Rattle.rs_plan.proofs.FromBelow.{length-record_bytes, each_page, items_of-each, found-each, bound-each, unbound-each}

-- a record, and lists, of which no body has blocks
abbrev nowhere : Record → Record
nowhere r = record r { extent = no_body }

abbrev all_nowhere : Contents → Contents
all_nowhere c = record c { catalogue = each_page nowhere c.catalogue }

-- they need as many blocks
all_long : (records : List Record) → AllByRecursion (StaysLong record_format nowhere) records
all_long [] = tt
all_long (r ∷ records) = (length-record_bytes (nowhere r) ∙ sym (length-record_bytes r), all_long records)

need_alike : (c : Contents) → lists_needed (all_nowhere c) ≡ lists_needed c
need_alike c =
    let alike = each_refilled record_format nowhere c.catalogue (all_long (records_of c.catalogue)) in
    rw (same_needed record_format c.catalogue (each_page nowhere c.catalogue) alike, same_count record_format c.catalogue (each_page nowhere c.catalogue) alike) refl

-- An item of these lists is an item of those, wherever its body lies, ..
item_nowhere : (old : Contents) (item : Item) (moment : ℕ) (body : Extent)
    → all_nowhere (lists_after_item old item moment body) ≡ lists_after_item (all_nowhere old) item moment no_body
item_nowhere old (single.Put name kind bytes) moment body =
    ap₂ (λ (pages : List (Page Record)) (again : Bool). lists_with (all_nowhere old) pages (bound name again moment (facts_of kind bytes)) moment)
    (bound-each (λ r. r.name) nowhere (λ r. refl) _ old.catalogue)
    (sym (ap (λ records. is_some (value_of name (named records))) (items_of-each nowhere old.catalogue) ∙ found-each (λ r. r.name) nowhere (λ r. refl) name (records_of old.catalogue)))
item_nowhere old (single.Delete name) moment body =
    ap (λ (pages : List (Page Record)). lists_with (all_nowhere old) pages (deleted name moment) moment) (unbound-each (λ r. r.name) nowhere (λ r. refl) name old.catalogue)

-- .. and so are items.
either : {A : Type 0} (b : Bool) (x : A) → (if b then x else x) ≡ x
either true x = refl
either false x = refl

items_nowhere : (items : List Item) (old : Contents) (moment : ℕ) (bodies : List Extent)
    → all_nowhere (lists_after_items old items moment bodies) ≡ lists_after_items (all_nowhere old) items moment []
items_nowhere [] old moment bodies = refl
items_nowhere (item ∷ items) old moment bodies =
    let body = extent_for item items bodies in
    items_nowhere items (lists_after_item old item moment body) (moment + 1) (extents_left item items bodies)
    ∙ ap (λ c. lists_after_items c items (moment + 1) []) (item_nowhere old item moment body)
    ∙ ap₂ (λ (e : Extent) (left : List Extent). lists_after_items (lists_after_item (all_nowhere old) item moment e) items (moment + 1) left)
    (sym (either (is_written item items) no_body)) (sym (either (is_written item items) []))

alike_nowhere : (a b : Contents) → all_nowhere a ≡ all_nowhere b → lists_needed a ≡ lists_needed b
alike_nowhere a b same = sym (need_alike a) ∙ ap lists_needed same ∙ need_alike b

pub needed_anywhere : (old : Contents) (command : Command) (moment : ℕ) (bodies : List Extent)
    → lists_needed (lists_after old command moment bodies) ≡ lists_needed (lists_after old command moment [])
needed_anywhere old (Put name kind bytes) moment bodies =
    let item = single.Put name kind bytes in
    alike_nowhere (lists_after_item old item moment (first_of bodies)) (lists_after_item old item moment no_body)
    (item_nowhere old item moment (first_of bodies) ∙ sym (item_nowhere old item moment no_body))
needed_anywhere old (Delete name) moment bodies = refl
needed_anywhere old Publish moment bodies = refl
needed_anywhere old (Group items) moment bodies =
    alike_nowhere (lists_after_items old items moment bodies) (lists_after_items old items moment [])
    (items_nowhere items old moment bodies ∙ sym (items_nowhere items old moment []))
