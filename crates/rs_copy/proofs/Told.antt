-- The pages and the directory of a copy determine the copied state.
use Rattle.std.proofs.Common.{◌≡◌, ℕ, Bool, List, [], ◌∷◌, length, map, refl, sym, ◌∙◌, ap, subst}
use Rattle.std.specs.Prelude.{All}
use Rattle.rs_disk.specs.Medium.{DiskState}
use Rattle.rs_extent.specs.declared.Extent.{Extent}
use Rattle.rs_extent.specs.Extents.{in_some}
use Rattle.rs_copy.proofs.FromBelow.{in_one, none_front, none_behind, apart_between, outside_on, written_stand, written_stay, standing_are_pages, joined, joined as joined_changes, stored_items}
use Rattle.rs_body.specs.Outside.{Keeps, WritesOnly}
use Rattle.rs_record.specs.declared.record.Record.{Record}
use Rattle.rs_record.specs.declared.change.Change.{Change}
use Rattle.rs_model.specs.State.{Source}
use Rattle.rs_model.specs.Listed.{entry_of}
use Rattle.rs_page.specs.Items.{record_format, change_format}
use Rattle.rs_page.specs.Pages.{Page, IsStored, stored, stored_refs}
use Rattle.rs_page.specs.DiskPages.{Stands as PageStands}
use Rattle.rs_catalogue.specs.Catalogue.{AreHeld, records_of, IsCatalogue, HoldsCatalogue}
use Rattle.rs_changes.specs.History.{AreKept, changes_of, IsHistory, HoldsHistory}
use Rattle.rs_image.specs.declared.contents.Contents.{Contents}
use Rattle.rs_image.specs.Reach.{bodies_of}
use Rattle.rs_image.specs.StateOfImage.{Tells, held_in, state_in}
use Rattle.rs_image.specs.Whole.{IsWhole}
use Rattle.rs_copy.specs.Laying.{as_published, with_extents, IsLaidOut, all_stored}
use Rattle.rs_copy.specs.Copies.{HasItsBody}
use Rattle.rs_copy.specs.Copying.{HasRoom, ArePagesWritten, CopyStands, copied_root, pages_in}
use Rattle.rs_copy.proofs.FullPages.{full_stand}
use Rattle.rs_copy.proofs.Laid.{among_first, among_second, among_last, changes_are, listed_are}
use Rattle.rs_copy.proofs.MovedBodies.{bodies_stay}
use Rattle.rs_copy.proofs.Records.{entries_moved, published_moved}

-- Bodies, then pages, then the directory: all of them are on the disk at the end.
module _ {A B : Type 0} (size : ℕ) (c : Contents) (directory : Extent) (room : HasRoom size c directory) (one two three : DiskState)
    (pages : WritesOnly (pages_in c) A one two) (last : WritesOnly (directory ∷ []) B two three) where
  bodies_kept : Keeps (in_some (bodies_of (records_of c.catalogue))) one.now.seen three.now.seen
  bodies_kept =
      let bodies = bodies_of (records_of c.catalogue) in
      (outside_on (in_some bodies) one two three (pages.outside (in_some bodies) (apart_between (pages_in c) bodies room.apart.1))
      (last.outside (in_some bodies) (λ b is. none_behind (pages_in c) bodies b (room.apart.0 b (in_one directory b is))))).seen

  pages_kept : Keeps (in_some (pages_in c)) two.now.seen three.now.seen
  pages_kept = (last.outside (in_some (pages_in c)) (λ b is. none_front (pages_in c) (bodies_of (records_of c.catalogue)) b (room.apart.0 b (in_one directory b is)))).seen

  pub bodies_at_end : (map (held_in three.now.seen) (records_of c.catalogue) ≡ map (held_in one.now.seen) (records_of c.catalogue))
      × (All (HasItsBody one.now.seen) (records_of c.catalogue) → All (HasItsBody three.now.seen) (records_of c.catalogue))
  bodies_at_end = bodies_stay (in_some (bodies_of (records_of c.catalogue))) size (records_of c.catalogue) one.now.seen three.now.seen room.bodies (λ b is. is) bodies_kept

  pub stands_at_end : ArePagesWritten two.now.seen c → ArePagesWritten three.now.seen c
  stands_at_end written =
      let all = in_some (pages_in c) in
      record {
        catalogue = written_stay record_format all c.catalogue two.now.seen three.now.seen (among_first c) pages_kept written.catalogue;
        history = written_stay change_format all c.history.pages two.now.seen three.now.seen (among_second c) pages_kept written.history;
        published = written_stay record_format all c.published two.now.seen three.now.seen (among_last c) pages_kept written.published;
      }

-- The lists are on the disk.
pub held_catalogue : (pages : List (Page Record)) (image : List ℕ) → IsCatalogue pages → All IsStored pages
    → All (PageStands record_format image) pages → HoldsCatalogue (stored_refs pages) image (map (λ page. page.items) pages)
held_catalogue pages image is all stand =
    record { hold = standing_are_pages record_format pages image all stand; held = subst AreHeld (sym (joined pages)) is.held }

pub held_history : (pages : List (Page Change)) (image : List ℕ) → IsHistory pages → All IsStored pages
    → All (PageStands change_format image) pages → HoldsHistory (stored_refs pages) image (map (λ page. page.items) pages)
held_history pages image is all stand =
    record { hold = standing_are_pages change_format pages image all stand; kept = subst AreKept (sym (joined_changes pages)) is.kept }

module _ (size : ℕ) (c placed : Contents) (directory : Extent) (used : List Bool) (laid : IsLaidOut size c placed directory used) where
  same_state : (before image : List ℕ) → map (held_in image) (records_of placed.catalogue) ≡ map (held_in before) (records_of c.catalogue)
      → state_in image (all_stored placed) ≡ state_in before c
  same_state before image held =
      let header : placed.header ≡ c.header = laid.lists.header in
      let records : map (held_in image) (records_of (stored record_format placed.catalogue)) ≡ map (held_in before) (records_of c.catalogue) =
      ap (map (held_in image)) (stored_items record_format placed.catalogue) ∙ held in
      let changes : changes_of (stored change_format placed.history.pages) ≡ changes_of c.history.pages =
      stored_items change_format placed.history.pages ∙ changes_are size c placed directory used laid in
      let listed : map entry_of (records_of (stored record_format placed.published)) ≡ map entry_of (records_of c.published) =
      ap (map entry_of) (stored_items record_format placed.published ∙ listed_are size c placed directory used laid)
      ∙ entries_moved (records_of c.published) (map (as_published (records_of placed.catalogue)) (records_of c.published))
      (published_moved (records_of placed.catalogue) (records_of c.published)) in
      λ i. record {
        base = (header i).base;
        limit = (header i).limit;
        start = (header i).start;
        last = (header i).last;
        held = records i;
        changes = changes i;
        number = (header i).number;
        at = (header i).at;
        listed = listed i;
        first = (header i).first;
        begin = (header i).begin;
      }

  pub tells_copied : (before image : List ℕ) (s : Source) → IsWhole (length image) (copied_root directory (all_stored placed)) (all_stored placed)
      → CopyStands placed directory image → map (held_in image) (records_of placed.catalogue) ≡ map (held_in before) (records_of c.catalogue) → state_in before c ≡ s
      → Tells (copied_root directory (all_stored placed)) (all_stored placed) image s
  tells_copied before image s whole stands held state =
      record {
        listable = stands.listed.listable;
        directory = stands.listed.reads;
        digest = refl;
        catalogue = held_catalogue (stored record_format placed.catalogue) image stands.listed.lists.catalogue whole.catalogue
            (written_stand record_format placed.catalogue image
            (full_stand record_format image laid.after_bodies laid.lists.after_catalogue (with_extents (records_of c.catalogue) laid.bodies) placed.catalogue laid.lists.catalogue)
            stands.pages.catalogue);
        history = held_history (stored change_format placed.history.pages) image stands.listed.lists.history whole.history
            (written_stand change_format placed.history.pages image
            (full_stand change_format image laid.lists.after_catalogue laid.lists.after_history (changes_of c.history.pages) placed.history.pages laid.lists.history)
            stands.pages.history);
        published = held_catalogue (stored record_format placed.published) image stands.listed.lists.published whole.published
            (written_stand record_format placed.published image
            (full_stand record_format image laid.lists.after_history laid.lists.after_published
            (map (as_published (with_extents (records_of c.catalogue) laid.bodies)) (records_of c.published)) placed.published laid.lists.published)
            stands.pages.published);
        whole = whole;
        state = same_state before image held ∙ state;
      }
