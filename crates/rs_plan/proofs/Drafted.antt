-- The plan of a draft, with the digests of the body filled in, is a plan of the put.
use Rattle.std.proofs.Common.{◌≡◌, ℕ, ◌+◌, Bool, List, [], ◌∷◌, ◌++◌, length, refl, sym, ◌∙◌, ap, ap₂, subst, arith}
use Rattle.std.specs.Prelude.{IsTrue, is_some}
use Rattle.std.specs.List.{AllByRecursion}
use Rattle.rs_fixity.specs.declared.Digests.{Digests}
use Rattle.rs_fixity.specs.Digests.{digests}
use Rattle.rs_plan.proofs.FromBelow.{md5-bytes, sha256-bytes, same_change, value-bind}
use Rattle.rs_extent.specs.declared.Extent.{Extent}
use Rattle.rs_extent.specs.Extents.{AreTaken}
use Rattle.rs_body.specs.Blocks.{blocks_of}
use Rattle.rs_record.specs.declared.record.Record.{Record}
use Rattle.rs_record.specs.declared.change.Change.{Change}
use Rattle.rs_record.specs.declared.facts.Facts.{Facts}
use Rattle.rs_record.specs.Changes.{bound}
use Rattle.rs_page.specs.Items.{record_format, change_format, record_filled, change_filled, facts_filled}
use Rattle.rs_page.specs.Pages.{Page, placed_extents}
use Rattle.rs_pages.specs.Rule.{appended_to}
use Rattle.rs_pages.specs.Laws.{Ascend}
use Rattle.rs_catalogue.specs.Catalogue.{records_of}
use Rattle.rs_catalogue.specs.Named.{named}
use Rattle.rs_changes.specs.History.{changes_of, with_pages}
use Rattle.rs_directory.specs.Directory.{directory_length}
use Rattle.rs_model.specs.Names.{value_of}
use Rattle.rs_model.specs.Regular.{is_rising}
use Rattle.rs_model.specs.State.{facts_of}
use Rattle.rs_model.specs.declared.command.Item.TheVariants as single
use Rattle.rs_model.specs.declared.command.Reply.{Reply}
use Rattle.rs_image.specs.declared.contents.Contents.{Contents}
use Rattle.rs_image.specs.StateOfImage.{AreLists, directory_bytes_of}
use Rattle.rs_plan.specs.declared.plan.Plan.{Plan}
use Rattle.rs_plan.specs.Room.{Takes, HasNoRoom, lists_needed}
use Rattle.rs_plan.specs.Plans.{places}
use Rattle.rs_plan.specs.Turned.{change_put, lists_after_item, lists_after_put}
use Rattle.rs_plan.specs.Placed.{HasItsPlaces, record_of_body, record_made, facts_of_body}
use Rattle.rs_plan.specs.PlacedFrom.{IsPlacedFrom, HasNoRoomFrom}
use Rattle.rs_plan.specs.Drafts.{IsPageRuleKept, lists_filled, plan_filled}
use Rattle.rs_plan.proofs.Placing.{places_items}
use Rattle.rs_plan.proofs.Drafts.{AreLong, AreRefilled, HoldsOfLast, StaysLong, StaysAsLong, filling, of_last, change_long, records_long, rising_again, each_refilled, each_placed, last_refilled, last_placed, same_count, same_many, same_extents, same_needed, still_some, still_untouched}

-- the digests of bytes
digests_long : (bytes : List ℕ) → AreLong (digests bytes)
digests_long bytes = record { md5 = (md5-bytes bytes).0; sha256 = (sha256-bytes bytes).0 }

-- a change that binds a name, with other digests
filled_bound : (digests : Digests) (name : List ℕ) (again : Bool) (moment : ℕ) (facts : Facts)
    → change_filled digests (bound name again moment facts) ≡ bound name again moment (facts_filled digests facts)
filled_bound digests name again moment facts =
    same_change (change_filled digests (bound name again moment facts)) (bound name again moment (facts_filled digests facts)) refl refl refl refl

module _ (law : IsPageRuleKept) (old : Contents) (in_order : Ascend (λ (r : Record). r.name) old.catalogue) (blank : Digests) (long : AreLong blank)
    (name kind bytes : List ℕ) (body : Extent) (moment : ℕ) where
  abbrev again : Bool
  again = is_some (value_of name (named (records_of old.catalogue)))

  abbrev blank_record : Record
  blank_record = record_of_body name kind (length bytes) blank body moment

  abbrev made : Record
  made = record_made name kind bytes body moment

  abbrev blank_facts : Facts
  blank_facts = facts_of_body kind (length bytes) blank

  abbrev blank_change : Change
  blank_change = bound name again moment blank_facts

  -- the lists of the draft, the same with the digests, and those of the put
  abbrev draft : Contents
  draft = lists_after_put old blank_record

  abbrev filled : Contents
  filled = lists_filled name (digests bytes) draft

  abbrev put : Contents
  put = lists_after_item old (single.Put name kind bytes) moment body

  -- the pages are those of the page rule with the digests
  catalogue_ruled : filled.catalogue ≡ put.catalogue
  catalogue_ruled = law.filled (record_filled (digests bytes)) (λ r. refl) blank_record old.catalogue in_order

  history_ruled : filled.history.pages ≡ put.history.pages
  history_ruled =
      law.filled_last (change_filled (digests bytes)) blank_change old.history.pages
      ∙ ap (λ (change : Change). appended_to change old.history.pages) (filled_bound (digests bytes) name again moment blank_facts)

  filled_is : filled ≡ put
  filled_is =
      ap₂ (λ (a : List (Page Record)) (b : List (Page Change)). let c : Contents = record { header = put.header; catalogue = a; history = with_pages old.history b; published = old.published } in c)
      catalogue_ruled history_ruled

  -- the pages of the draft
  stay_long : AllByRecursion (StaysAsLong name (digests bytes) (digests_long bytes)) (records_of draft.catalogue)
  stay_long =
      records_long name (digests bytes) (digests_long bytes) (records_of draft.catalogue) blank_record long (law.bound blank_record old.catalogue in_order).1
      (ap (value_of name) (law.bound blank_record old.catalogue in_order).0 ∙ value-bind name blank_record (named (records_of old.catalogue)))

  abbrev LastStaysLong : List Change → Type 0
  LastStaysLong changes = HoldsOfLast (StaysLong change_format (change_filled (digests bytes))) changes

  last_stays_long : LastStaysLong (changes_of draft.history.pages)
  last_stays_long =
      subst LastStaysLong (sym (law.appended blank_change old.history.pages))
      (of_last (StaysLong change_format (change_filled (digests bytes))) (changes_of old.history.pages) blank_change
      (change_long (digests bytes) name again moment blank_facts (digests_long bytes) long))

  catalogue_is : AreRefilled record_format draft.catalogue filled.catalogue
  catalogue_is = each_refilled record_format (filling name (digests bytes) (digests_long bytes)) draft.catalogue stay_long

  history_is : AreRefilled change_format draft.history.pages filled.history.pages
  history_is = last_refilled change_format (change_filled (digests bytes)) draft.history.pages last_stays_long

  -- so they need as many blocks
  needed_is : lists_needed filled ≡ lists_needed draft
  needed_is =
      rw (
        same_needed record_format draft.catalogue filled.catalogue catalogue_is,
        same_needed change_format draft.history.pages filled.history.pages history_is,
        same_count record_format draft.catalogue filled.catalogue catalogue_is,
        same_count change_format draft.history.pages filled.history.pages history_is,
      ) refl

  pub filled_lacks : (used : List Bool) (bodies : List Extent) → HasNoRoomFrom used bodies draft → HasNoRoomFrom used bodies put
  filled_lacks used bodies room =
      subst (HasNoRoomFrom used bodies) filled_is
      (record { after_bodies = room.after_bodies; takes = room.takes; fails = subst (HasNoRoom room.after_bodies) (sym needed_is) room.fails })

  -- and are lists of a disk
  lists_filled_are : AreLists draft → AreLists filled
  lists_filled_are lists = record {
    catalogue = record {
      some = still_some record_format draft.catalogue filled.catalogue catalogue_is lists.catalogue.some;
      held = record {
        ordered = subst (Ascend (λ (r : Record). r.name)) (sym catalogue_ruled) (law.bound made old.catalogue in_order).1;
        room = omega (arith, same_many record_format draft.catalogue filled.catalogue catalogue_is, lists.catalogue.held.room);
      };
    };
    history = record {
      some = still_some change_format draft.history.pages filled.history.pages history_is lists.history.some;
      kept = record {
        rising = subst (λ (changes : List Change). IsTrue (is_rising changes))
            (sym (ap (λ (pages : List (Page Change)). changes_of pages) history_ruled ∙ law.appended (change_put old name kind bytes moment) old.history.pages))
            (rising_again (changes_of old.history.pages) name again moment blank_facts (facts_of kind bytes)
            (subst (λ (changes : List Change). IsTrue (is_rising changes)) (law.appended blank_change old.history.pages) lists.history.kept.rising));
        room = omega (arith, same_many change_format draft.history.pages filled.history.pages history_is, lists.history.kept.room);
      };
    };
    published = lists.published;
  }

  -- A plan of the draft, once it is filled, is a plan of the filled lists, and has the same places.
  module _ (used : List Bool) (bodies : List Extent) (p : Plan) (placed : HasItsPlaces used bodies draft p) where
    abbrev after : Contents
    after = lists_filled name (digests bytes) p.contents

    of_catalogue : AreRefilled record_format p.contents.catalogue after.catalogue
    of_catalogue =
        each_refilled record_format (filling name (digests bytes) (digests_long bytes)) p.contents.catalogue
        (subst (AllByRecursion (StaysAsLong name (digests bytes) (digests_long bytes)))
        (sym (places_items record_format used placed.lists.after_catalogue draft.catalogue p.contents.catalogue placed.lists.catalogue)) stay_long)

    of_history : AreRefilled change_format p.contents.history.pages after.history.pages
    of_history =
        last_refilled change_format (change_filled (digests bytes)) p.contents.history.pages
        (subst LastStaysLong (sym (places_items change_format placed.lists.after_catalogue placed.lists.after_history draft.history.pages p.contents.history.pages placed.lists.history))
        last_stays_long)

    same_catalogue : placed_extents after.catalogue ≡ placed_extents p.contents.catalogue
    same_catalogue = same_extents record_format p.contents.catalogue after.catalogue of_catalogue

    same_history : placed_extents after.history.pages ≡ placed_extents p.contents.history.pages
    same_history = same_extents change_format p.contents.history.pages after.history.pages of_history

    places_are : places p ≡ places (plan_filled name (digests bytes) p)
    places_are = ap₂ (λ (a b : List Extent). p.bodies.items ++ a ++ b ++ p.directory ∷ []) (sym same_catalogue) (sym same_history)

    placed_is : HasItsPlaces used bodies filled (plan_filled name (digests bytes) p)
    placed_is =
        let bytes_of : directory_bytes_of filled ≡ directory_bytes_of draft =
        ap₂ (λ (a b : ℕ). directory_length draft.header (a + b + length draft.published))
        (same_count record_format draft.catalogue filled.catalogue catalogue_is) (same_count change_format draft.history.pages filled.history.pages history_is) in
        record {
          after = placed.after;
          lists = record {
            after_catalogue = placed.lists.after_catalogue;
            after_history = placed.lists.after_history;
            catalogue = each_placed record_format (filling name (digests bytes) (digests_long bytes)) used placed.lists.after_catalogue draft.catalogue p.contents.catalogue stay_long
                placed.lists.catalogue;
            history = last_placed change_format (change_filled (digests bytes)) placed.lists.after_catalogue placed.lists.after_history draft.history.pages p.contents.history.pages
                last_stays_long placed.lists.history;
            takes_catalogue = subst (AreTaken used placed.lists.after_catalogue) (sym same_catalogue) placed.lists.takes_catalogue;
            takes_history = subst (AreTaken placed.lists.after_catalogue placed.lists.after_history) (sym same_history) placed.lists.takes_history;
            untouched_catalogue = still_untouched record_format p.contents.catalogue after.catalogue of_catalogue placed.lists.untouched_catalogue;
            untouched_history = still_untouched change_format p.contents.history.pages after.history.pages of_history placed.lists.untouched_history;
            directory = subst (λ (n : ℕ). Takes placed.lists.after_history (blocks_of n) p.directory placed.after) (sym bytes_of) placed.lists.directory;
            header = placed.lists.header;
            first = placed.lists.first;
            published = placed.lists.published;
          };
          bodies_are = placed.bodies_are;
        }

  pub filled_from : (used : List Bool) (bodies : List Extent) (told : Reply) (gone : List Extent) (p : Plan) → IsPlacedFrom used bodies draft told gone p
      → IsPlacedFrom used bodies put told gone (plan_filled name (digests bytes) p)
  filled_from used bodies told gone p from =
      subst (λ (c : Contents). IsPlacedFrom used bodies c told gone (plan_filled name (digests bytes) p)) filled_is
      (record {
        after_bodies = from.after_bodies;
        takes = from.takes;
        placed = placed_is from.after_bodies bodies p from.placed;
        taken = from.taken ∙ places_are from.after_bodies bodies p from.placed;
        reply = from.reply;
        freed = from.freed;
        lists = lists_filled_are from.lists;
      })
