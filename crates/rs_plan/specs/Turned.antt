-- The lists after the items of a group, before their pages have places.
use Rattle.std.specs.Prelude.{ℕ, ◌+◌, Bool, false, not, if◌then◌else◌, List, [], ◌∷◌, ◌++◌, is_some}
use Rattle.rs_extent.specs.declared.Extent.{Extent}
use Rattle.rs_record.specs.declared.record.Record.{Record}
use Rattle.rs_record.specs.declared.change.Change.{Change}
use Rattle.rs_record.specs.Changes.{bound, deleted}
use Rattle.rs_model.specs.Names.{value_of}
use Rattle.rs_model.specs.State.{facts_of}
use Rattle.rs_model.specs.declared.command.Item.{Item}
use Rattle.rs_model.specs.declared.command.Item.TheVariants as single
use Rattle.rs_model.specs.Grouping.{name_of}
use Rattle.rs_page.specs.Pages.{Page}
use Rattle.rs_pages.specs.Rule.{bound_in, unbound_in, appended_to}
use Rattle.rs_changes.specs.History.{with_pages}
use Rattle.rs_catalogue.specs.Catalogue.{records_of}
use Rattle.rs_catalogue.specs.Named.{named}
use Rattle.rs_image.specs.declared.contents.Contents.{Contents}
use Rattle.rs_image.specs.Whole.{AreMoments}
use Rattle.rs_time.specs.Moment.{IsMoment}
use Rattle.rs_plan.specs.Allowed.{MayDoItem}
use Rattle.rs_plan.specs.Placed.{record_made, facts_of_body}
use Rattle.rs_plan.specs.Room.{is_named_in}

-- the extent of a body that is not written
abbrev pub no_body : Extent
no_body = record { first = 0; blocks = 0 }

-- the first of these extents, `no_body` if there is none; and the extents after it
abbrev pub first_of : List Extent → Extent
first_of [] = no_body
first_of (extent ∷ extents) = extent

abbrev pub others_of : List Extent → List Extent
others_of [] = []
others_of (extent ∷ extents) = extents

-- the change that a put of these bytes makes, where these are the lists before it
abbrev pub change_put : Contents → List ℕ → List ℕ → List ℕ → ℕ → Change
change_put old name kind bytes moment = bound name (is_some (value_of name (named (records_of old.catalogue)))) moment (facts_of kind bytes)

-- the change that an item makes, where these are the lists before it
abbrev pub change_of_item : Contents → Item → ℕ → Change
change_of_item old (single.Put name kind bytes) moment = change_put old name kind bytes moment
change_of_item old (single.Delete name) moment = deleted name moment

-- the pages of a catalogue after an item at its moment, whose body lies in an extent: a record is bound or unbound
abbrev pub catalogue_after : Item → ℕ → Extent → List (Page Record) → List (Page Record)
catalogue_after (single.Put name kind bytes) moment body pages = bound_in (λ (r : Record). r.name) (record_made name kind bytes body moment) pages
catalogue_after (single.Delete name) moment body pages = unbound_in (λ (r : Record). r.name) name pages

-- the lists with these pages of the catalogue, and with a change after all others, after a command at this moment
abbrev pub lists_with : Contents → List (Page Record) → Change → ℕ → Contents
lists_with old catalogue change moment =
    record {
      header = record old.header { last = moment };
      catalogue = catalogue;
      history = with_pages old.history (appended_to change old.history.pages);
      published = old.published;
    }

-- the lists after one item at its moment, whose body lies in an extent
abbrev pub lists_after_item : Contents → Item → ℕ → Extent → Contents
lists_after_item old item moment body =
    lists_with old (catalogue_after item moment body old.catalogue) (change_of_item old item moment) moment

-- the change that binds a record to its name, where these are the lists before it
abbrev pub change_of_record : Contents → Record → Change
change_of_record old r =
    bound r.name (is_some (value_of r.name (named (records_of old.catalogue)))) r.moment (facts_of_body r.kind r.length r.digests)

-- the lists after a put that binds this record to its name, at its moment
abbrev pub lists_after_put : Contents → Record → Contents
lists_after_put old r = lists_with old (bound_in (λ (r : Record). r.name) r old.catalogue) (change_of_record old r) r.moment

-- the item has a body that no later item replaces or deletes
abbrev pub is_written : Item → List Item → Bool
is_written (single.Put name kind bytes) items = not (is_named_in name items)
is_written (single.Delete name) items = false

-- The extent of an item's body among those of the bodies that are written from this item on; a body that is not written
-- has no blocks.
abbrev pub extent_for : Item → List Item → List Extent → Extent
extent_for item items bodies = if is_written item items then first_of bodies else no_body

-- the extents of the later items' bodies
abbrev pub extents_left : Item → List Item → List Extent → List Extent
extents_left item items bodies = if is_written item items then others_of bodies else bodies

-- The lists after these items, the first at this moment and every later one a millisecond after the one before it. The
-- bodies that no later item replaces or deletes lie in these extents, in their order; the others have no blocks.
abbrev pub lists_after_items : Contents → List Item → ℕ → List Extent → Contents
lists_after_items old [] moment bodies = old
lists_after_items old (item ∷ items) moment bodies =
    lists_after_items (lists_after_item old item moment (extent_for item items bodies)) items (moment + 1) (extents_left item items bodies)

-- the extents that a function of the lists and a name gives for every item, in the lists before it
abbrev pub of_each_item : (Contents → List ℕ → List Extent) → Contents → List Item → ℕ → List Extent → List Extent
of_each_item f old [] moment bodies = []
of_each_item f old (item ∷ items) moment bodies =
    f old (name_of item)
    ++ of_each_item f (lists_after_item old item moment (extent_for item items bodies)) items (moment + 1) (extents_left item items bodies)

-- Every one of these items may be done in the lists before it.
abbrev pub MayDoEach : Contents → List Item → ℕ → List Extent → Type 0
MayDoEach old [] moment bodies = Unit {0}
MayDoEach old (item ∷ items) moment bodies =
    IsMoment moment × AreMoments old.header old × MayDoItem old item moment
    × MayDoEach (lists_after_item old item moment (extent_for item items bodies)) items (moment + 1) (extents_left item items bodies)
