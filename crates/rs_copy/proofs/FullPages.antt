-- Pages of 64 items, after they were given blocks and stored.
use Rattle.std.proofs.Common.{◌≡◌, ◌≤◌, ℕ, zero, suc, Bool, true, false, cond, not, List, [], ◌∷◌, ◌++◌, length, take, drop, map, refl, sym, ◌∙◌, ap, subst, arith}
use Rattle.std.specs.Prelude.{All, IfSome, nat_le}
use Rattle.std.specs.List.{cons_option, list_any}
use Rattle.std.proofs.lemmas.List.{take-append-drop}
use Rattle.std.proofs.lemmas.List.Elements.{All-nil, All-cons, All-head, All-tail}
use Rattle.rs_extent.specs.declared.Extent.{Extent}
use Rattle.rs_extent.specs.Extents.{within, in_some, AreDisjoint}
use Rattle.rs_copy.proofs.FromBelow.{within_true, some_first, some_rest, not_true, not_both, needed, shared_blocks}
use Rattle.rs_page.specs.declared.place.PageRef.{PageRef}
use Rattle.rs_page.specs.declared.place.Place.{Place}
use Rattle.rs_page.specs.Format.{ItemFormat}
use Rattle.rs_page.specs.Pages.{Page, items_of, placed_extent, placed_extents, stored_ref, stored_refs, extents_of, place_stored, stored, ref_at, same_page}
use Rattle.rs_page.specs.DiskPages.{IsPage, Stands}
use Rattle.rs_page.specs.Placing.{Places}
use Rattle.rs_pages.specs.Rule.{touched, cut_up_to}
use Rattle.rs_pages.specs.Dropped.{cut_full, full_pages}
use Rattle.rs_pages.specs.Storing.{unshared}

-- They have all the items, in their order.
append_nil : {A : Type 0} (l : List A) → l ++ [] ≡ l
append_nil [] = refl
append_nil {A} (x ∷ l) = ap (λ (r : List A). x ∷ r) (append_nil l)

one_piece : {T : Type 0} (n piece : ℕ) (items : List T) (few : Bool) → items_of (map touched (cut_up_to piece n (drop piece items))) ≡ drop piece items
    → items_of (map touched (cond few (items ∷ []) (take piece items ∷ cut_up_to piece n (drop piece items)))) ≡ items
one_piece n piece items true rest = append_nil items
one_piece {T} n piece items false rest = ap (λ (l : List T). take piece items ++ l) rest ∙ take-append-drop piece items

pieces_items : {T : Type 0} (n piece : ℕ) (items : List T) → items_of (map touched (cut_up_to piece n items)) ≡ items
pieces_items zero piece items = append_nil items
pieces_items (suc n) piece items = one_piece n piece items (nat_le (length items) 64) (pieces_items n piece (drop piece items))

pub full_items : {T : Type 0} (items : List T) → items_of (full_pages items) ≡ items
full_items [] = refl
full_items (x ∷ xs) = pieces_items (length (x ∷ xs)) 64 (x ∷ xs)

-- No page has a place.
touched_unplaced : {T : Type 0} (pieces : List (List T)) → placed_extents (map touched pieces) ≡ []
touched_unplaced [] = refl
touched_unplaced (piece ∷ pieces) = touched_unplaced pieces

pub full_unplaced : {T : Type 0} (items : List T) → placed_extents (full_pages items) ≡ []
full_unplaced items = touched_unplaced (cut_full items)

-- Once they have blocks, storing keeps them where they are, ..
placed_extents_are : {T : Type 0} (format : ItemFormat T) (used used' : List Bool) (pieces : List (List T)) (ys : List (Page T)) → Places format used (map touched pieces) used' ys
    → extents_of (stored_refs (stored format ys)) ≡ placed_extents ys
placed_extents_are format used used' [] [] places = refl
placed_extents_are format used used' [] (y ∷ ys) places = absurd places
placed_extents_are format used used' (piece ∷ pieces) [] places = absurd places
placed_extents_are format used used' (piece ∷ pieces) (y ∷ ys) places =
    subst (λ (p : Place). extents_of (cons_option (stored_ref (place_stored format y.items p)) (stored_refs (stored format ys))) ≡ cons_option (placed_extent p) (placed_extents ys))
    (sym places.1.1.placed) (ap (λ (es : List Extent). places.1.1.extent ∷ es) (placed_extents_are format places.0 used' pieces ys places.2))

pub full_extents : {T : Type 0} (format : ItemFormat T) (used used' : List Bool) (items : List T) (ys : List (Page T)) → Places format used (full_pages items) used' ys
    → extents_of (stored_refs (stored format ys)) ≡ placed_extents ys
full_extents format used used' items ys places = placed_extents_are format used used' (cut_full items) ys places

-- .. all have blocks, ..
abbrev pub HasBlocks : PageRef → Type 0
HasBlocks ref = 1 ≤ ref.extent.blocks

placed_blocks : {T : Type 0} (format : ItemFormat T) (used used' : List Bool) (pieces : List (List T)) (ys : List (Page T)) → Places format used (map touched pieces) used' ys
    → All HasBlocks (stored_refs (stored format ys))
placed_blocks format used used' [] [] places = All-nil HasBlocks
placed_blocks format used used' [] (y ∷ ys) places = absurd places
placed_blocks format used used' (piece ∷ pieces) [] places = absurd places
placed_blocks format used used' (piece ∷ pieces) (y ∷ ys) places =
    let refs = stored_refs (stored format ys) in
    subst (λ (p : Place). All HasBlocks (cons_option (stored_ref (place_stored format y.items p)) refs)) (sym places.1.1.placed)
    (All-cons HasBlocks (ref_at format places.1.1.extent y.items) refs (omega (arith, places.1.1.lowest.blocks, needed format piece)) (placed_blocks format places.0 used' pieces ys places.2))

pub full_blocks : {T : Type 0} (format : ItemFormat T) (used used' : List Bool) (items : List T) (ys : List (Page T)) → Places format used (full_pages items) used' ys
    → All HasBlocks (stored_refs (stored format ys))
full_blocks format used used' items ys places = placed_blocks format used used' (cut_full items) ys places

-- .. and no page is on the disk before.
placed_stand : {T : Type 0} (format : ItemFormat T) (image : List ℕ) (used used' : List Bool) (pieces : List (List T)) (ys : List (Page T))
    → Places format used (map touched pieces) used' ys → All (Stands format image) ys
placed_stand format image used used' [] [] places = All-nil (Stands format image)
placed_stand format image used used' [] (y ∷ ys) places = absurd places
placed_stand format image used used' (piece ∷ pieces) [] places = absurd places
placed_stand format image used used' (piece ∷ pieces) (y ∷ ys) places =
    All-cons (Stands format image) y ys (subst (λ (p : Place). IfSome (stored_ref p) (λ ref. IsPage format ref image y.items)) (sym places.1.1.placed) tt)
    (placed_stand format image places.0 used' pieces ys places.2)

pub full_stand : {T : Type 0} (format : ItemFormat T) (image : List ℕ) (used used' : List Bool) (items : List T) (ys : List (Page T))
    → Places format used (full_pages items) used' ys → All (Stands format image) ys
full_stand format image used used' items ys places = placed_stand format image used used' (cut_full items) ys places

-- A page that has blocks is not shared with pages that have none of these blocks.
alone : (ref : PageRef) (others : List PageRef) → HasBlocks ref → AreDisjoint (within ref.extent) (in_some (extents_of others))
    → list_any (same_page ref) others ≡ false
alone ref others some apart =
    let here = within_true ref.extent ref.extent.first (omega arith) (omega (arith, some)) in
    not_true (list_any (same_page ref) others)
    (λ shared. not_both (in_some (extents_of others) ref.extent.first) (shared_blocks ref others ref.extent.first shared here)
    (apart ref.extent.first here))

pub none_shared : (refs others : List PageRef) → All HasBlocks refs → AreDisjoint (in_some (extents_of refs)) (in_some (extents_of others)) → unshared refs others ≡ refs
none_shared [] others some apart = refl
none_shared (ref ∷ refs) others some apart =
    ap (λ (t : Bool). cond (not t) (ref ∷ unshared refs others) (unshared refs others))
    (alone ref others (All-head HasBlocks ref refs some) (λ b is. apart b (some_first ref.extent (extents_of refs) b is)))
    ∙ ap (λ (l : List PageRef). ref ∷ l)
    (none_shared refs others (All-tail HasBlocks ref refs some) (λ b is. apart b (some_rest ref.extent (extents_of refs) b is)))
