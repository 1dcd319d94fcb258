use Rattle.std.proofs.Common.{◌≡◌, ◌++◌, inl, ◌∷◌, [], ℕ, Bool, List, length, Result, Ok, Err, is_ok, refl, sym, ◌∙◌, ap, subst, arith, append_assoc}
use Rattle.std.specs.Prelude.{OnErr}
use Rattle.rs_body.specs.Blocks.{blocks_of}
use Rattle.rs_page.specs.Items.{record_format, change_format}
use Rattle.rs_page.specs.Pages.{Page, placed_extents}
use Rattle.rs_directory.specs.Directory.{directory_length}
use Rattle.rs_extent.specs.declared.Extent.{Extent}
use Rattle.rs_extent.specs.Extents.{AreTaken}
use Rattle.rs_plan.proofs.FromBelow.{taken_both}
use Rattle.rs_image.specs.declared.contents.Contents.{Contents}
use Rattle.rs_image.specs.StateOfImage.{directory_bytes_of}
use Rattle.rs_plan.specs.Room.{HasNoRun, HasNoRoom, lists_needed, pages_needed}
use Rattle.rs_plan.proofs.Extents.{taken_lowest, pushed}
use Rattle.rs_plan.proofs.Placing.{room_after, room_none, places_length}
use Rattle.rs_plan.proofs.planning.placing.take_places.Goals as goal

on_err : {T E : Type 0} (P : Type 0) (r : Result T E) → P → OnErr r P
on_err P (Ok x) p = tt
on_err P (Err e) p = p

-- the pages of the catalogue, those of the history and the directory are needed in this order
in_order : (used : List Bool) (c : Contents) → HasNoRoom used (pages_needed record_format c.catalogue ++ (pages_needed change_format c.history.pages ++ blocks_of (directory_bytes_of c) ∷ []))
    → HasNoRoom used (lists_needed c)
in_order used c none =
    subst (HasNoRoom used) (sym (append_assoc (pages_needed record_format c.catalogue) (pages_needed change_format c.history.pages) (blocks_of (directory_bytes_of c) ∷ []))) none

pub returns-in_err-place_touched-clause-full : goal.returns-in_err-place_touched-clause-full
returns-in_err-place_touched-clause-full c =
    let lists = c.args.lists.now in
    on_err (HasNoRoom c.args.used.now (lists_needed lists)) c.from_residual.result
    (in_order c.args.used.now lists (room_none record_format c.args.used.now lists.catalogue _ c.in_err-place_touched.ensures.full c.requires.unplaced.catalogue))

pub returns-in_err-place_touched-2-clause-full : goal.returns-in_err-place_touched-2-clause-full
returns-in_err-place_touched-2-clause-full c =
    let lists = c.args.lists.now in
    on_err (HasNoRoom c.args.used.now (lists_needed lists)) c.from_residual-in_err-place_touched-2.result
    (in_order c.args.used.now lists
    (room_after record_format c.args.used.now _ lists.catalogue _ _ c.in_ok-place_touched.ensures.ok.places c.requires.unplaced.catalogue
    (room_none change_format _ lists.history.pages _ c.in_err-place_touched-2.ensures.full c.requires.unplaced.history)))

pub returns-in_default-clause-full : goal.returns-in_default-clause-full
returns-in_default-clause-full c =
    let lists = c.args.lists.now in
    let size = c.directory_size-length.ensures.size ∙ ap (directory_length lists.header) c.page_count.ensures.pages in
    in_order c.args.used.now lists
    (room_after record_format c.args.used.now _ lists.catalogue _ _ c.in_ok-place_touched.ensures.ok.places c.requires.unplaced.catalogue
    (room_after change_format _ c.place_touched-2.new.used lists.history.pages _ _ c.in_ok-place_touched-2.ensures.ok.places c.requires.unplaced.history
    (inl (subst (λ (n : ℕ). HasNoRun c.place_touched-2.new.used (blocks_of n)) size c.in_default.ensures.found))))

-- the pages that a list lends are its own
many : {T : Type 0} (lent pages : List (Page T)) → lent ≡ pages → length lent ≡ length pages
many lent pages same = ap length same

listed : {T : Type 0} (lent pages : List (Page T)) (before after : List Extent) → lent ≡ pages → after ≡ before ++ placed_extents lent → after ≡ before ++ placed_extents pages
listed lent pages before after same is = is ∙ ap (λ p. before ++ placed_extents p) same

pub list_placed-requires : goal.list_placed-requires
list_placed-requires c = omega (
  arith,
  c.requires.room,
  many _ _ c.as_pages.ensures.value,
  places_length record_format _ _ c.args.lists.now.catalogue _ c.in_ok-place_touched.ensures.ok.places,
)

pub list_placed-requires-2 : goal.list_placed-requires-2
list_placed-requires-2 c = omega (
  arith,
  c.requires.room,
  c.list_placed.ensures.len,
  c.list_placed.ensures.capacity,
  many _ _ c.as_pages.ensures.value,
  many _ _ c.as_pages-2.ensures.value,
  places_length record_format _ _ c.args.lists.now.catalogue _ c.in_ok-place_touched.ensures.ok.places,
  places_length change_format _ _ c.args.lists.now.history.pages _ c.in_ok-place_touched-2.ensures.ok.places,
)

pub unwrap-requires : goal.unwrap-requires
unwrap-requires c =
    let more = places_length record_format _ _ c.args.lists.now.catalogue _ c.in_ok-place_touched.ensures.ok.places in
    let more_changes = places_length change_format _ _ c.args.lists.now.history.pages _ c.in_ok-place_touched-2.ensures.ok.places in
    let first = c.list_placed.ensures in
    let second = c.list_placed-2.ensures in
    let lent = many _ _ c.as_pages.ensures.value in
    let lent_changes = many _ _ c.as_pages-2.ensures.value in
    c.push.ensures.succeeds (omega (arith, c.requires.room, first.len, first.capacity, second.len, second.capacity, more, more_changes, lent, lent_changes))

-- the pages of both lists are taken, and after them a directory
both : (before mid after : List Extent) (a b : List Extent) → mid ≡ before ++ a → after ≡ mid ++ b → after ≡ before ++ (a ++ b)
both before mid after a b one other = other ∙ ap (λ (l : List Extent). l ++ b) one ∙ append_assoc before a b

pub returns-in_default-clause-taken : goal.returns-in_default-clause-taken
returns-in_default-clause-taken c =
    let a : List Extent = placed_extents c.place_touched.new.self in
    let b : List Extent = placed_extents c.place_touched-2.new.self.pages in (
      a ++ b,
      both c.args.taken.now.items _ _ a b (listed _ _ _ _ c.as_pages.ensures.value c.list_placed.ensures.items) (listed _ _ _ _ c.as_pages-2.ensures.value c.list_placed-2.ensures.items),
      subst (λ (u : List Bool). AreTaken c.args.used.now u (a ++ b)) (sym c.in_default.ensures.none)
          (taken_both c.args.used.now _ _ a b (c.in_ok-place_touched.ensures.ok.taken c.requires.unplaced.catalogue) (c.in_ok-place_touched-2.ensures.ok.taken c.requires.unplaced.history)),
      tt,
    )

pub returns-clause-taken : goal.returns-clause-taken
returns-clause-taken c =
    let a : List Extent = placed_extents c.place_touched.new.self in
    let b : List Extent = placed_extents c.place_touched-2.new.self.pages in
    let d : List Extent = c.in-Some.directory ∷ [] in
    let before = c.list_placed-2.new.extents.items in (
      (a ++ b) ++ d,
      both c.args.taken.now.items before _ (a ++ b) d (both c.args.taken.now.items _ before a b (listed _ _ _ _ c.as_pages.ensures.value c.list_placed.ensures.items)
          (listed _ _ _ _ c.as_pages-2.ensures.value c.list_placed-2.ensures.items))
          (pushed c.push.result (before ++ d) before c.push.new.self.items (ap is_ok c.unwrap.ensures) c.push.ensures.items),
      taken_both c.args.used.now _ _ (a ++ b) d
          (taken_both c.args.used.now _ _ a b (c.in_ok-place_touched.ensures.ok.taken c.requires.unplaced.catalogue) (c.in_ok-place_touched-2.ensures.ok.taken c.requires.unplaced.history))
          (taken_lowest c.place_touched-2.new.used _ _ c.in-Some.directory c.in-Some.ensures.found),
      refl,
    )
