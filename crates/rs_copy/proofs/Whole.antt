-- Everything that the root of a copy reaches follows all rules, and its blocks are the used blocks.
use Rattle.std.proofs.Common.{◌≡◌, ◌≤◌, ◌||◌, ℕ, Bool, true, false, max, nat_lt, List, ◌∷◌, ◌++◌, length, map, refl, sym, ◌∙◌, ap, subst, arith}
use Rattle.std.specs.Prelude.{All, MatchOption}
use Rattle.std.proofs.lemmas.Bool.{or_right}
use Rattle.rs_extent.specs.declared.Extent.{Extent}
use Rattle.rs_extent.specs.Blocks.{is_used}
use Rattle.rs_extent.specs.Extents.{in_some, AreApart, AreDisjoint}
use Rattle.rs_copy.proofs.FromBelow.{none_front, some_behind, apart_front, apart_behind, beside_between, stored_items, length_stored, pages_stored}
use Rattle.rs_commit.specs.declared.root.Root.{Root}
use Rattle.rs_record.specs.declared.change.Change.{Change}
use Rattle.rs_page.specs.Items.{record_format, change_format}
use Rattle.rs_page.specs.Pages.{placed_extents, extents_of, stored_refs, stored}
use Rattle.rs_pages.specs.Storing.{unshared}
use Rattle.rs_catalogue.specs.Catalogue.{records_of}
use Rattle.rs_changes.specs.History.{changes_of, last_of}
use Rattle.rs_directory.specs.declared.header.Header.{Header}
use Rattle.rs_directory.specs.Directory.{written_format, directory_length}
use Rattle.rs_image.specs.declared.contents.Contents.{Contents}
use Rattle.rs_image.specs.Reach.{bodies_of, reach, AreInside}
use Rattle.rs_image.specs.Whole.{AreMoments, IsWhole, IsSoundRecord, IsSoundChange}
use Rattle.rs_image.specs.Rooted.{rooted, AreUsed, MemoryIsSound}
use Rattle.rs_image.specs.StateOfImage.{AreListable, listing, directory_bytes_of}
use Rattle.rs_body.specs.Blocks.{IsSized}
use Rattle.rs_copy.specs.Laying.{as_published, with_extents, IsLaidOut, all_stored}
use Rattle.rs_copy.specs.Copying.{HasPlace, pages_in, copied_root, written_in}
use Rattle.rs_copy.proofs.FullPages.{full_extents, full_blocks, none_shared}
use Rattle.rs_copy.proofs.Laid.{block_fits, places_among, changes_are, listed_are, records_moved, records_sized, taken, inside, room}
use Rattle.rs_copy.proofs.Records.{published_moved, sized_among, sized_published, sound_moved}

-- the moments stay in order if the header and the changes stay
moments_stay : (c c' : Contents) (h : Header) → c.header ≡ h → changes_of c'.history.pages ≡ changes_of c.history.pages → AreMoments c.header c → AreMoments h c'
moments_stay c c' h header changes moments =
    subst (λ (x : Header). AreMoments x c') header
    (record {
      start = moments.start;
      at = moments.at;
      last = subst (λ (l : List Change). MatchOption (last_of l) (c.header.last ≡ c.header.at) (λ change. c.header.last ≡ max c.header.at change.moment)) (sym changes) moments.last;
      kept = moments.kept;
      history = moments.history;
    })

-- a test that is one of two
kept_as : (slot some used start : Bool) → (some ≡ true → used ≡ true) → (some ≡ false → used ≡ start) → start ≡ slot → used ≡ (slot || some)
kept_as slot true used start here there is = here refl ∙ sym (or_right slot true refl)
kept_as true false used start here there is = there refl ∙ is
kept_as false false used start here there is = there refl ∙ is

module _ (size : ℕ) (c placed : Contents) (directory : Extent) (used : List Bool) (laid : IsLaidOut size c placed directory used) where
  -- the places of the pages
  catalogue_at : extents_of (stored_refs (stored record_format placed.catalogue)) ≡ placed_extents placed.catalogue
  catalogue_at = full_extents record_format laid.after_bodies laid.lists.after_catalogue (with_extents (records_of c.catalogue) laid.bodies) placed.catalogue laid.lists.catalogue

  history_at : extents_of (stored_refs (stored change_format placed.history.pages)) ≡ placed_extents placed.history.pages
  history_at = full_extents change_format laid.lists.after_catalogue laid.lists.after_history (changes_of c.history.pages) placed.history.pages laid.lists.history

  published_at : extents_of (stored_refs (stored record_format placed.published)) ≡ placed_extents placed.published
  published_at =
      full_extents record_format laid.lists.after_history laid.lists.after_published
      (map (as_published (with_extents (records_of c.catalogue) laid.bodies)) (records_of c.published)) placed.published laid.lists.published

  -- no two pages share a block
  apart_pages : AreApart (pages_in placed)
  apart_pages = apart_front (pages_in placed) (bodies_of (records_of placed.catalogue)) (taken size c placed directory used laid).apart.1

  not_shared : unshared (stored_refs (stored record_format placed.published)) (stored_refs (stored record_format placed.catalogue)) ≡ stored_refs (stored record_format placed.published)
  not_shared =
      let first = placed_extents placed.catalogue in
      let second = placed_extents placed.history.pages in
      let last = placed_extents placed.published in
      let beside : AreDisjoint (in_some last) (in_some first) = λ b is. none_front first second b (beside_between (first ++ second) last apart_pages b is) in
      none_shared (stored_refs (stored record_format placed.published)) (stored_refs (stored record_format placed.catalogue))
      (full_blocks record_format laid.lists.after_history laid.lists.after_published
      (map (as_published (with_extents (records_of c.catalogue) laid.bodies)) (records_of c.published)) placed.published laid.lists.published)
      (subst (λ (es : List Extent). AreDisjoint (in_some es) (in_some (extents_of (stored_refs (stored record_format placed.catalogue))))) (sym published_at)
      (subst (λ (es : List Extent). AreDisjoint (in_some last) (in_some es)) (sym catalogue_at) beside))

  -- so the root reaches exactly the extents of the layout
  reach_is : reach (copied_root directory (all_stored placed)) (all_stored placed) ≡ written_in placed directory
  reach_is =
      let published : extents_of (unshared (stored_refs (stored record_format placed.published)) (stored_refs (stored record_format placed.catalogue))) ≡ placed_extents placed.published =
      ap extents_of not_shared ∙ published_at in
      λ i. directory ∷ catalogue_at i ++ history_at i ++ published i ++ bodies_of (stored_items record_format placed.catalogue i)

  copied_changes : changes_of (stored change_format placed.history.pages) ≡ changes_of c.history.pages
  copied_changes = stored_items change_format placed.history.pages ∙ changes_are size c placed directory used laid

  as_long : directory_bytes_of (all_stored placed) ≡ directory_bytes_of placed
  as_long =
      ap (λ (n : ℕ). directory_length placed.header n)
      (omega (arith, length_stored record_format placed.catalogue, length_stored change_format placed.history.pages, length_stored record_format placed.published))

  sound_records : (low high : ℕ) → All (IsSoundRecord low high) (records_of c.catalogue) → All (IsSoundRecord low high) (records_of (stored record_format placed.catalogue))
  sound_records low high sound =
      subst (All (IsSoundRecord low high)) (sym (stored_items record_format placed.catalogue))
      (sound_moved low high (records_of c.catalogue) (records_of placed.catalogue) (records_moved size c placed directory used laid) (records_sized size c placed directory used laid) sound)

  sound_listed : (low high : ℕ) → All (IsSoundRecord low high) (records_of c.published) → All (IsSoundRecord low high) (records_of (stored record_format placed.published))
  sound_listed low high sound =
      let held = records_of placed.catalogue in
      subst (All (IsSoundRecord low high)) (sym (stored_items record_format placed.published ∙ listed_are size c placed directory used laid))
      (sound_moved low high (records_of c.published) (map (as_published held) (records_of c.published)) (published_moved held (records_of c.published))
      (sized_published held (records_of c.published) (records_sized size c placed directory used laid)) sound)

  pub whole_copied : (size' : ℕ) (root : Root) → IsWhole size' root c → length (listing written_format (all_stored placed)) ≡ directory_bytes_of (all_stored placed)
      → IsWhole size (copied_root directory (all_stored placed)) (all_stored placed)
  whole_copied size' root whole long =
      let has = room size c placed directory used laid in
      let first = placed_extents placed.catalogue in
      let second = placed_extents placed.history.pages in
      record {
        catalogue = pages_stored record_format placed.catalogue has.untouched.catalogue;
        history = pages_stored change_format placed.history.pages has.untouched.history;
        published = pages_stored record_format placed.published has.untouched.published;
        moments = moments_stay c (all_stored placed) placed.header (sym laid.lists.header) copied_changes whole.moments;
        number = laid.lists.first ∙ whole.number ∙ ap (λ (h : Header). h.first) (sym laid.lists.header);
        records = subst (λ (h : Header). All (IsSoundRecord h.start h.last) (records_of (stored record_format placed.catalogue))) (sym laid.lists.header) (sound_records c.header.start c.header.last whole.records);
        changes = subst (λ (h : Header). All (IsSoundChange h.begin h.last) (changes_of (stored change_format placed.history.pages))) (sym laid.lists.header)
            (subst (All (IsSoundChange c.header.begin c.header.last)) (sym copied_changes) whole.changes);
        listed = subst (λ (h : Header). All (IsSoundRecord h.start h.at) (records_of (stored record_format placed.published))) (sym laid.lists.header) (sound_listed c.header.start c.header.at whole.listed);
        directory = subst (IsSized directory) (sym (long ∙ as_long)) has.sized;
        apart = subst AreApart (sym reach_is) (taken size c placed directory used laid).apart;
        published_apart = subst AreApart (sym published_at) (apart_behind (first ++ second) (placed_extents placed.published) apart_pages);
        inside = subst (AreInside size) (sym reach_is) (inside size c placed directory used laid);
      }

  used_copied : AreUsed (rooted size (copied_root directory (all_stored placed)) (all_stored placed)) used
  used_copied =
      let all = taken size c placed directory used laid in
      record {
        blocks = all.size ∙ laid.slots_alone.blocks;
        each = λ b lt.
            let there = ap (λ (es : List Extent). in_some es b) reach_is in
            kept_as (nat_lt b 2) (in_some (reach (copied_root directory (all_stored placed)) (all_stored placed)) b) (is_used used b) (is_used laid.start b)
            (λ is. all.after b (sym there ∙ is)) (λ is. all.others b (sym there ∙ is)) (laid.slots_alone.slots b lt);
      }

  pub sound_copied : (size' : ℕ) (root : Root) → IsWhole size' root c → 1024 ≤ size → length (listing written_format (all_stored placed)) ≡ directory_bytes_of (all_stored placed)
      → AreListable written_format (all_stored placed) → MemoryIsSound (rooted size (copied_root directory (all_stored placed)) (all_stored placed)) used
  sound_copied size' root whole room long listable =
      record { rooted = record { room = room; whole = whole_copied size' root whole long; listable = listable }; used = used_copied }

-- The records of any root have their places.
-- the extents that a root reaches before the bodies
abbrev lists_reached : Root → Contents → List Extent
lists_reached root c =
    root.directory ∷ extents_of (stored_refs c.catalogue) ++ extents_of (stored_refs c.history.pages)
    ++ extents_of (unshared (stored_refs c.published) (stored_refs c.catalogue))

pub all_have_places : (size : ℕ) (root : Root) (c : Contents) → IsWhole size root c → All (HasPlace size) (records_of c.catalogue)
all_have_places size root c whole =
    places_among size (records_of c.catalogue)
    (λ b is. block_fits size b (whole.inside b (some_behind (lists_reached root c) (bodies_of (records_of c.catalogue)) b is)).1)
    (sized_among c.header.start c.header.last (records_of c.catalogue) whole.records)
