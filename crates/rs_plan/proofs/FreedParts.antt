-- One part of the blocks that a root reaches, after a command.
use Rattle.std.proofs.Common.{true≢false, ◌≡◌, ◌⊎◌, inl, inr, ℕ, Bool, true, false, cond, List, [], ◌∷◌, ◌++◌, Option, Some, None, refl, sym, ◌∙◌, ap, subst, arith}
use Rattle.std.specs.Cmp.{first_so, second_so}
use Rattle.std.specs.List.{cons_option, list_any}
use Rattle.std.proofs.lemmas.List.{map-append}
use Rattle.std.proofs.lemmas.Slice.Eq.{bytes_eq-Decides}
use Rattle.std.specs.Prelude.{◌&&◌, ◌||◌, not, nat_eq, bytes_eq}
use Rattle.rs_extent.specs.declared.Extent.{Extent}
use Rattle.rs_extent.specs.Extents.{within, in_some, AreApart, AreDisjoint, IsSubset}
use Rattle.rs_plan.proofs.FromBelow.{not_true, not_both, some_first, some_rest, some_split, some_front, some_behind, some_of_both, none_front, apart_both, apart_front, apart_behind, apart_between, within_is, in_one}
use Rattle.rs_page.specs.declared.place.PageRef.{PageRef}
use Rattle.rs_page.specs.Pages.{Page, same_page, stored_refs, extents_of}
use Rattle.rs_pages.specs.Dropped.{front_pages, ReplacesFront}
use Rattle.rs_pages.specs.Storing.{unshared}
use Rattle.rs_plan.specs.Freed.{extent_of_page}
use Rattle.rs_plan.proofs.Unshared.{itself, same_extent, same_number, shared_some}
use Rattle.rs_plan.proofs.Freed.{PartTurns}
use Rattle.rs_plan.proofs.FreedPages.{LosesOne, refs_both, none_fresh}
use Rattle.rs_plan.specs.Turned.{no_body}

-- Some extents of a list are gone, and others replace them.
pub record Replaces (old new gone made : List Extent) : Type 0 where
  pub front : List Extent
  pub back : List Extent
  pub was : old ≡ front ++ (gone ++ back)
  pub is : new ≡ front ++ (made ++ back)

module _ (front gone made back : List Extent) (apart : AreApart (front ++ (gone ++ back))) where
  rest : AreApart (gone ++ back)
  rest = apart_behind front (gone ++ back) apart

  -- the removed extents are in no other part
  beside_front : AreDisjoint (in_some front) (in_some gone)
  beside_front k is = none_front gone back k (apart_between front (gone ++ back) apart k is)

  beside_back : (k : ℕ) → in_some back k ≡ true → in_some gone k ≡ false
  beside_back k is = not_true (in_some gone k) (λ here. not_both (in_some back k) is (apart_between gone back rest k here))

  part_replaced : PartTurns (front ++ (gone ++ back)) gone (front ++ (made ++ back)) made
  part_replaced = record {
    reached = λ k is. some_behind front (gone ++ back) k (some_front gone back k is);
    apart = apart_front gone back rest;
    comes = λ k is. elim (some_of_both front (made ++ back) k is) [
      | inl here ↦ inl (some_front front (gone ++ back) k here, beside_front k here)
      | inr behind ↦ elim (some_of_both made back k behind) [
        | inl new ↦ inr new
        | inr there ↦ inl (some_behind front (gone ++ back) k (some_behind gone back k there), beside_back k there)
      ]
    ];
    stays = λ k is. elim (some_of_both front (gone ++ back) k is) [
      | inl here ↦ inr (some_front front (made ++ back) k here)
      | inr behind ↦ elim (some_of_both gone back k behind) [
        | inl lost ↦ inl lost
        | inr there ↦ inr (some_behind front (made ++ back) k (some_behind made back k there))
      ]
    ];
    written = λ k is. some_behind front (made ++ back) k (some_front made back k is);
  }

-- Where the extents are apart, the part changes accordingly.
pub replaced : (old new gone made : List Extent) → Replaces old new gone made → AreApart old → PartTurns old gone new made
replaced old new gone made by apart =
    subst (λ (o : List Extent). PartTurns o gone new made) (sym by.was)
    (subst (λ (n : List Extent). PartTurns (by.front ++ (gone ++ by.back)) gone n made) (sym by.is)
    (part_replaced by.front gone made by.back (subst AreApart by.was apart)))

pub apart_replaced : (old new gone made : List Extent) → Replaces old new gone made → AreApart old → AreApart made → AreDisjoint (in_some made) (in_some old) → AreApart new
apart_replaced old new gone made by apart alone beside =
    let front = by.front in
    let back = by.back in
    let parts : AreApart (front ++ (gone ++ back)) = subst AreApart by.was apart in
    let none : AreDisjoint (in_some made) (in_some (front ++ (gone ++ back))) = subst (λ (l : List Extent). AreDisjoint (in_some made) (in_some l)) by.was beside in
    subst AreApart (sym by.is)
    (apart_both front (made ++ back) (apart_front front (gone ++ back) parts)
    (apart_both made back alone (apart_behind gone back (apart_behind front (gone ++ back) parts))
    (λ k is. not_true (in_some back k) (λ here. not_both (in_some (front ++ (gone ++ back)) k) (some_behind front (gone ++ back) k (some_behind gone back k here)) (none k is))))
    (λ k is. not_true (in_some (made ++ back) k) (λ here. elim (some_of_both made back k here) [
      | inl new ↦ not_both (in_some (front ++ (gone ++ back)) k) (some_front front (gone ++ back) k is) (none k new)
      | inr there ↦ not_both (in_some (gone ++ back) k) (some_behind gone back k there) (apart_between front (gone ++ back) parts k is)
    ])))

-- no block
pub none_in : (k : ℕ) (P : Type 0) → in_some [] k ≡ true → P
none_in k P is = absurd (true≢false (sym is))

-- a body that is not written has no block
pub nowhere : (k : ℕ) (P : Type 0) → in_some (no_body ∷ []) k ≡ true → P
nowhere k P is = let at = within_is no_body k (in_one no_body k is) in absurd (omega (arith, at.1))

-- The kept extents of a part may be followed by the written ones.
pub grown : (old gone kept after made : List Extent) → PartTurns old gone kept [] → ((k : ℕ) → in_some after k ≡ true → (in_some kept k ≡ true) ⊎ (in_some made k ≡ true))
    → IsSubset (in_some kept) (in_some after) → IsSubset (in_some made) (in_some after) → PartTurns old gone after made
grown old gone kept after made turns comes stays written = record {
  reached = turns.reached;
  apart = turns.apart;
  comes = λ k is. elim (comes k is) [
    | inl here ↦ elim (turns.comes k here) [ inl left ↦ inl left | inr new ↦ none_in k _ new ]
    | inr new ↦ inr new
  ];
  stays = λ k is. elim (turns.stays k is) [ inl lost ↦ inl lost | inr left ↦ inr (stays k left) ];
  written = written;
}

-- the extents of entries that lose one
pub one_extent : (entry : Option PageRef) (back : List PageRef) → extents_of (cons_option entry back) ≡ extent_of_page entry ++ extents_of back
one_extent None back = refl
one_extent (Some e) back = refl

pub page_replaced : (entry : Option PageRef) (old kept : List PageRef) → LosesOne entry old kept → Replaces (extents_of old) (extents_of kept) (extent_of_page entry) []
page_replaced entry old kept loses = record {
  front = extents_of loses.front;
  back = extents_of loses.back;
  was = ap extents_of loses.was ∙ (map-append (λ (ref : PageRef). ref.extent) loses.front (cons_option entry loses.back)
      ∙ ap (λ (l : List Extent). extents_of loses.front ++ l) (one_extent entry loses.back));
  is = ap extents_of loses.is ∙ map-append (λ (ref : PageRef). ref.extent) loses.front loses.back;
}

-- Where the pages that have the first items go, all their entries go.
pub front_replaced : {T : Type 0} (n : ℕ) (old new : List (Page T)) → ReplacesFront n old new
    → Replaces (extents_of (stored_refs old)) (extents_of (stored_refs new)) (extents_of (stored_refs (front_pages n old))) []
front_replaced {T} n old new by = record {
  front = [];
  back = extents_of (stored_refs by.after);
  was = ap (λ (pages : List (Page T)). extents_of (stored_refs pages)) by.was ∙ (ap extents_of (refs_both (front_pages n old) by.after)
      ∙ map-append (λ (ref : PageRef). ref.extent) (stored_refs (front_pages n old)) (stored_refs by.after));
  is = ap (λ (pages : List (Page T)). extents_of (stored_refs pages)) by.is
      ∙ ap extents_of (refs_both by.made by.after ∙ ap (λ (l : List PageRef). l ++ stored_refs by.after) (none_fresh by.made by.fresh));
}

-- the same page, turned
same_turned : (a b : PageRef) → same_page a b ≡ true → same_page b a ≡ true
same_turned a b is =
    let others = first_so (nat_eq a.extent.first b.extent.first && nat_eq a.extent.blocks b.extent.blocks && nat_eq a.length b.length) (bytes_eq a.sha256 b.sha256) is in
    let bytes : a.sha256 ≡ b.sha256 = (bytes_eq-Decides a.sha256 b.sha256).0
    (second_so (nat_eq a.extent.first b.extent.first && nat_eq a.extent.blocks b.extent.blocks && nat_eq a.length b.length) (bytes_eq a.sha256 b.sha256) is) in
    let length : a.length ≡ b.length =
    same_number a.length b.length (second_so (nat_eq a.extent.first b.extent.first && nat_eq a.extent.blocks b.extent.blocks) (nat_eq a.length b.length) others) in
    let extent : a.extent ≡ b.extent = same_extent a b is in
    let same : a ≡ b = λ i. record { extent = extent i; length = length i; sha256 = bytes i } in
    subst (λ (x : PageRef). same_page b x ≡ true) (sym same) (itself b)

-- An entry among some that are apart, and that shares a block with one of them, is that one.
only_entry : (ref entry : PageRef) (front back : List PageRef) (k : ℕ) → AreApart (extents_of (front ++ entry ∷ back)) → within ref.extent k ≡ true → within entry.extent k ≡ true
    → list_any (same_page ref) (front ++ entry ∷ back) ≡ true → same_page ref entry ≡ true
only_entry ref entry [] back k apart in_ref in_entry is = one (same_page ref entry) refl is
  where
    one : (t : Bool) → same_page ref entry ≡ t → (t || list_any (same_page ref) back) ≡ true → same_page ref entry ≡ true
    one true same any = same
    one false other any = absurd (not_both (in_some (extents_of back) k) (shared_some ref back k any in_ref) (apart.0 k in_entry))
only_entry ref entry (x ∷ front) back k apart in_ref in_entry is =
    one (same_page ref x) refl is (λ any. only_entry ref entry front back k apart.1 in_ref in_entry any)
  where
    there : in_some (extents_of (front ++ entry ∷ back)) k ≡ true
    there = subst (λ (l : List Extent). in_some l k ≡ true) (sym (map-append (λ (r : PageRef). r.extent) front (entry ∷ back)))
        (some_behind (extents_of front) (extents_of (entry ∷ back)) k (some_first entry.extent (extents_of back) k in_entry))

    one : (t : Bool) → same_page ref x ≡ t → (t || list_any (same_page ref) (front ++ entry ∷ back)) ≡ true
        → (list_any (same_page ref) (front ++ entry ∷ back) ≡ true → same_page ref entry ≡ true) → same_page ref entry ≡ true
    one true same any later =
        absurd (not_both (in_some (extents_of (front ++ entry ∷ back)) k) there
        (apart.0 k (subst (λ (e : Extent). within e k ≡ true) (same_extent ref x same) in_ref)))
    one false other any later = later any

-- So an entry that no published page has shares no block with a published page.
abbrev IsBesidePublished : PageRef → List PageRef → ℕ → List PageRef → Type 0
IsBesidePublished entry refs k published =
    list_any (same_page entry) published ≡ false → in_some (extents_of (unshared published refs)) k ≡ false → in_some (extents_of published) k ≡ true → ⊥

pub beside_published : (entry : PageRef) (front back : List PageRef) (k : ℕ) → AreApart (extents_of (front ++ entry ∷ back)) → within entry.extent k ≡ true
    → (published : List PageRef) → IsBesidePublished entry (front ++ entry ∷ back) k published
beside_published entry front back k apart in_entry [] none alone is = none_in k _ is
beside_published entry front back k apart in_entry (ref ∷ published) none alone is =
    one (list_any (same_page ref) refs) refl (same_page entry ref) refl none alone (some_split ref.extent (extents_of published) k is)
    (beside_published entry front back k apart in_entry published)
  where
    refs : List PageRef
    refs = front ++ entry ∷ back

    one : (t : Bool) → list_any (same_page ref) refs ≡ t → (s : Bool) → same_page entry ref ≡ s → (s || list_any (same_page entry) published) ≡ false
        → in_some (extents_of (cond (not t) (ref ∷ unshared published refs) (unshared published refs))) k ≡ false
        → (within ref.extent k ≡ true) ⊎ (in_some (extents_of published) k ≡ true) → IsBesidePublished entry refs k published → ⊥
    one t shared true same none alone split later = true≢false none
    one true shared false other none alone (inl here) later =
        not_both (same_page entry ref) (same_turned ref entry (only_entry ref entry front back k apart here in_entry shared)) other
    one true shared false other none alone (inr there) later = later none alone there
    one false shared false other none alone (inl here) later =
        not_both (in_some (ref.extent ∷ extents_of (unshared published refs)) k) (some_first ref.extent (extents_of (unshared published refs)) k here) alone
    one false shared false other none alone (inr there) later =
        later none
        (not_true (in_some (extents_of (unshared published refs)) k)
        (λ here. not_both (in_some (ref.extent ∷ extents_of (unshared published refs)) k) (some_rest ref.extent (extents_of (unshared published refs)) k here) alone)) there
