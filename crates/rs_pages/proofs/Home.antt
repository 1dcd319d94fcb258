-- Where a name goes among pages in order.
use Rattle.std.proofs.Common.{◌≡◌, ℕ, List, [], ◌∷◌, ◌++◌, Bool, true, false, refl, sym, ap, ◌∙◌}
use Rattle.std.specs.Prelude.{IsTrue, not, ◌||◌}
use Rattle.std.specs.Ordering.{is_lt}
use Rattle.std.specs.Cmp.Lexicographic.{nat_list_cmp_total}
use Rattle.std.specs.declared.cmp.Ordering.{Ordering}
use Rattle.std.specs.declared.cmp.Ordering.TheVariants.{Less, Equal, Greater}
use Rattle.rs_model.specs.Names.{Names, by_bytes, is_above, is_ordered}
use Rattle.std.specs.Cmp.{first_so, second_so}
use Rattle.std.proofs.lemmas.Bool.{and_from}
use Rattle.rs_pages.proofs.FromBelow.{is_less, swapped, tail_ordered}
use Rattle.rs_page.specs.Pages.{Page, items_of}
use Rattle.rs_pages.specs.Items.{keyed}
use Rattle.rs_pages.specs.Rule.{begins_by, some_begins_by}
use Rattle.rs_pages.proofs.InOrder.{is_past, is_before}

pub above_lower : {V : Type 0} (x y : List ℕ) (m : Names V) → by_bytes x y ≡ Less → IsTrue (is_above y m) → IsTrue (is_above x m)
above_lower x y [] e h = refl
above_lower x y (z ∷ m) e h =
    let one = is_less (by_bytes y z.0) (first_so _ _ h) in
    and_from _ _ (ap is_lt (nat_list_cmp_total.trans x y z.0 e one)) (second_so (is_lt (by_bytes y z.0)) _ h)

-- a name at or above one that is above a lower one
past_by : (n x lower : List ℕ) (o : Ordering) → by_bytes n x ≡ o → not (is_lt o) ≡ true → by_bytes lower x ≡ Less → by_bytes n lower ≡ Greater
past_by n x lower Less is h below = cc
past_by n x lower Equal is h below = nat_list_cmp_total.congr n x lower is ∙ swapped lower x Less below
past_by n x lower Greater is h below = swapped lower n Less (nat_list_cmp_total.trans lower x n below (swapped n x Greater is))

before_by : (o : Ordering) → not (is_lt o) ≡ false → o ≡ Less
before_by Less h = refl
before_by Equal h = cc
before_by Greater h = cc

or_false : (a b : Bool) → (a || b) ≡ false → (a ≡ false) × (b ≡ false)
or_false true b h = cc
or_false false b h = (refl, h)

module _ {T : Type 0} (name : T → List ℕ) where
  pub ordered_rest : (xs ys : List T) → IsTrue (is_ordered (keyed name (xs ++ ys))) → IsTrue (is_ordered (keyed name ys))
  ordered_rest [] ys h = h
  ordered_rest (x ∷ xs) ys h = ordered_rest xs ys (tail_ordered (name x) (keyed name (xs ++ ys)) h)

  pub above_rest : (lower : List ℕ) (xs ys : List T) → IsTrue (is_above lower (keyed name (xs ++ ys))) → IsTrue (is_above lower (keyed name ys))
  above_rest lower [] ys h = h
  above_rest lower (x ∷ xs) ys h =
      above_lower lower (name x) (keyed name ys) (is_less (by_bytes lower (name x)) (first_so _ _ h)) (above_rest (name x) xs ys (second_so (is_lt (by_bytes lower (name x))) _ h))

  past_one : (n lower : List ℕ) (xs : List T) (ys : List T) (b : Bool) → begins_by name n xs ≡ b → IsTrue (is_above lower (keyed name (xs ++ ys))) → (IsTrue (is_above lower (keyed name ys)) → b ≡ false → by_bytes n lower ≡ Greater)
      → by_bytes n lower ≡ Greater
  past_one n lower [] ys true is h next = cc
  past_one n lower (x ∷ xs) ys true is h next = past_by n (name x) lower (by_bytes n (name x)) refl is (is_less (by_bytes lower (name x)) (first_so _ _ h))
  past_one n lower xs ys false is h next = next (above_rest lower xs ys h) refl

  -- a name that some page begins by is above every name before that page
  past_name : (n lower : List ℕ) (pages : List (Page T)) → IsTrue (is_above lower (keyed name (items_of pages))) → some_begins_by name n pages ≡ true → by_bytes n lower ≡ Greater
  past_name n lower [] h some = cc
  past_name n lower (page ∷ pages) h some =
      past_one n lower page.items (items_of pages) (begins_by name n page.items) refl h
      (λ above not_here. past_name n lower pages above (ap (λ b. b || some_begins_by name n pages) (sym not_here) ∙ some))

  pub past_items : (n : List ℕ) (xs : List T) (pages : List (Page T)) → IsTrue (is_ordered (keyed name (xs ++ items_of pages))) → some_begins_by name n pages ≡ true → is_past name n xs
  past_items n [] pages h some = tt
  past_items n (x ∷ xs) pages h some =
      (past_name n (name x) pages (above_rest (name x) xs (items_of pages) h) some, past_items n xs pages (tail_ordered (name x) (keyed name (xs ++ items_of pages)) h) some)

  before_one : (n : List ℕ) (xs ys : List T) → begins_by name n xs ≡ false → is_before name n ys → is_before name n (xs ++ ys)
  before_one n [] ys h next = next
  before_one n (x ∷ xs) ys h next = before_by (by_bytes n (name x)) h

  -- a name that no page begins by is before all of them
  pub before_items : (n : List ℕ) (pages : List (Page T)) → some_begins_by name n pages ≡ false → is_before name n (items_of pages)
  before_items n [] none = tt
  before_items n (page ∷ pages) none =
      let both = or_false (begins_by name n page.items) (some_begins_by name n pages) none in
      before_one n page.items (items_of pages) both.0 (before_items n pages both.1)
