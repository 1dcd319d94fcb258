-- How the bodies of a group are written in sequence.
use Rattle.std.proofs.Common.{◌≡◌, ℕ, suc, zero, ◌+◌, ◌-◌, ◌<◌, ◌≤◌, true, List, [], ◌∷◌, ◌++◌, length, take, drop, get_or, refl, sym, ◌∙◌, ap, subst, arith, Option}
use Rattle.std.specs.List.{AllZip, cons_option}
use Rattle.std.proofs.lemmas.List.{take-append-drop, take_more, drop_more, length-drop, take_all, drop-drop}
use Rattle.rs_extent.specs.declared.Extent.{Extent}
use Rattle.rs_extent.specs.Extents.{in_some, IsOnDisk, IsBeside, IsSubset, AreApart, AreOnDisk}
use Rattle.rs_store.proofs.FromBelow.{some_first, some_behind, in_one, beside_first, beside_between}
use Rattle.rs_body.specs.Blocks.{part, IsSized}
use Rattle.rs_body.specs.Outside.{Keeps}
use Rattle.rs_model.specs.declared.command.Item.{Item}
use Rattle.rs_plan.specs.Plans.{AreBodies}
use Rattle.rs_plan.specs.Room.{bodies_kept}
use Rattle.rs_store.proofs.Written.{AreSized, bodies_kept_so}

-- one more pair, and the first pairs
zip_push : {A B : Type 0} (R : A → B → Type 0) (xs : List A) (ys : List B) (x : A) (y : B) → AllZip R xs ys → R x y → AllZip R (xs ++ x ∷ []) (ys ++ y ∷ [])
zip_push R [] [] x y all one = (one, tt)
zip_push R [] (b ∷ ys) x y all one = absurd all
zip_push R (a ∷ xs) [] x y all one = absurd all
zip_push R (a ∷ xs) (b ∷ ys) x y all one = (all.0, zip_push R xs ys x y all.1 one)

zip_take : {A B : Type 0} (R : A → B → Type 0) (n : ℕ) (xs : List A) (ys : List B) → AllZip R xs ys → AllZip R (take n xs) (take n ys)
zip_take R zero xs ys all = tt
zip_take R (suc n) [] [] all = tt
zip_take R (suc n) [] (b ∷ ys) all = absurd all
zip_take R (suc n) (a ∷ xs) [] all = absurd all
zip_take R (suc n) (a ∷ xs) (b ∷ ys) all = (all.0, zip_take R n xs ys all.1)

zip_at : {A B : Type 0} (R : A → B → Type 0) (n : ℕ) (xs : List A) (ys : List B) (x : A) (y : B) → AllZip R xs ys → n < length xs → R (get_or xs n x) (get_or ys n y)
zip_at R n [] ys x y all lt = absurd (omega arith)
zip_at R n (a ∷ xs) [] x y all lt = absurd all
zip_at R zero (a ∷ xs) (b ∷ ys) x y all lt = all.0
zip_at R (suc n) (a ∷ xs) (b ∷ ys) x y all lt = zip_at R n xs ys x y all.1 (omega arith)

pub zip_long : {A B : Type 0} (R : A → B → Type 0) (xs : List A) (ys : List B) → AllZip R xs ys → length xs ≡ length ys
zip_long R [] [] all = refl
zip_long R [] (b ∷ ys) all = absurd all
zip_long R (a ∷ xs) [] all = absurd all
zip_long R (a ∷ xs) (b ∷ ys) all = omega (arith, zip_long R xs ys all.1)

-- The bodies of a group are written in their order: n of them are written, one is next, and others are left.
module _ (extents : List Extent) (bodies : List (List ℕ)) (sized : AreSized extents bodies) (n : ℕ) (bytes : List ℕ) (left : List (List ℕ)) (next : drop n bodies ≡ bytes ∷ left) where
  abbrev pub at_hand : Extent → Extent
  at_hand d = get_or extents n d

  some_left : n < length bodies
  some_left = let long : length (drop n bodies) ≡ length left + 1 = ap length next ∙ omega arith in omega (arith, length-drop n bodies, long)

  -- it has an extent, of its size
  pub has_extent : n < length extents
  has_extent = omega (arith, some_left, zip_long (λ extent bytes. IsSized extent (length bytes)) extents bodies sized)

  cut : get_or bodies n bytes ∷ drop (n + 1) bodies ≡ bytes ∷ left
  cut = sym (drop_more bodies n bytes some_left) ∙ next

  body_is : get_or bodies n bytes ≡ bytes
  body_is = cc cut

  -- then the others are left
  pub others_left : drop (n + 1) bodies ≡ left
  others_left = cc cut

  module _ (d e : Extent) (is : get_or extents n d ≡ e) where
    pub sized_at : IsSized e (length bytes)
    sized_at =
        subst (λ (x : Extent). IsSized x (length bytes)) is
        (subst (λ (l : List ℕ). IsSized (get_or extents n d) (length l)) body_is (zip_at (λ extent bytes. IsSized extent (length bytes)) n extents bodies d bytes sized has_extent))

    split : take n extents ++ e ∷ drop (n + 1) extents ≡ extents
    split =
        ap (λ (x : Extent). take n extents ++ x ∷ drop (n + 1) extents) (sym is)
        ∙ ap (λ (l : List Extent). take n extents ++ l) (sym (drop_more extents n d has_extent)) ∙ take-append-drop n extents

    pub among_all : IsSubset (in_some (e ∷ [])) (in_some extents)
    among_all b here =
        subst (λ (l : List Extent). in_some l b ≡ true) split
        (some_behind (take n extents) (e ∷ drop (n + 1) extents) b (some_first e (drop (n + 1) extents) b (in_one e b here)))

    pub inside_at : (size : ℕ) → AreOnDisk extents size → IsOnDisk e size
    inside_at size inside b here =
        subst (λ (l : List Extent). AreOnDisk l size) (sym split) inside b
        (some_behind (take n extents) (e ∷ drop (n + 1) extents) b (some_first e (drop (n + 1) extents) b here))

    -- it is disjoint from the written ones
    pub beside_before : AreApart extents → IsBeside (in_some (take n extents)) e
    beside_before apart =
        beside_first (in_some (take n extents)) e (drop (n + 1) extents)
        (beside_between (take n extents) (e ∷ drop (n + 1) extents) (subst (λ (l : List Extent). AreApart l) (sym split) apart))

    -- so these stay, and one more is written
    pub one_more : (old new : List ℕ) → AreBodies old (take n extents) (take n bodies) → Keeps (in_some (take n extents)) old new
        → part e (length bytes) new ≡ bytes → AreBodies new (take (n + 1) extents) (take (n + 1) bodies)
    one_more old new stand keeps reads =
        let first : take (n + 1) extents ≡ take n extents ++ e ∷ [] = take_more extents n d has_extent ∙ ap (λ (x : Extent). take n extents ++ x ∷ []) is in
        let last : take (n + 1) bodies ≡ take n bodies ++ bytes ∷ [] = take_more bodies n bytes some_left ∙ ap (λ (l : List ℕ). take n bodies ++ l ∷ []) body_is in
        let stay : AreBodies new (take n extents) (take n bodies) =
        bodies_kept_so (in_some (take n extents)) (take n extents) (take n bodies) (zip_take (λ extent bytes. IsSized extent (length bytes)) n extents bodies sized) (λ b here. here) old new keeps stand in
        subst (λ (es : List Extent). AreBodies new es (take (n + 1) bodies)) (sym first)
        (subst (λ (bs : List (List ℕ)). AreBodies new (take n extents ++ e ∷ []) bs) (sym last)
        (zip_push (λ extent bytes. part extent (length bytes) new ≡ bytes) (take n extents) (take n bodies) e bytes stay reads))

-- if no body is left, all are written
pub all_stand : (extents : List Extent) (bodies : List (List ℕ)) (n : ℕ) (image : List ℕ) → AreSized extents bodies → drop n bodies ≡ []
    → AreBodies image (take n extents) (take n bodies) → AreBodies image extents bodies
all_stand extents bodies n image sized none stand =
    let long : length (drop n bodies) ≡ 0 = ap length none in
    let few : length bodies ≤ n = omega (arith, length-drop n bodies, long) in
    let same = zip_long (λ extent bytes. IsSized extent (length bytes)) extents bodies sized in
    subst (λ (es : List Extent). AreBodies image es bodies) (take_all n extents (omega (arith, few, same)))
    (subst (λ (bs : List (List ℕ)). AreBodies image (take n extents) bs) (take_all n bodies few) stand)

-- the bodies of the items from an index on, by the first of them
pub kept_step : (items : List Item) (i : ℕ) (o : Option (List ℕ))
    → bodies_kept (take (length items - i) (drop i items)) ≡ cons_option o (bodies_kept (drop 1 (take (length items - i) (drop i items))))
    → bodies_kept (drop i items) ≡ cons_option o (bodies_kept (drop (i + 1) items))
kept_step items i o given =
    let all : take (length items - i) (drop i items) ≡ drop i items = take_all (length items - i) (drop i items) (omega (arith, length-drop i items)) in
    subst (λ (l : List Item). bodies_kept l ≡ cons_option o (bodies_kept (drop 1 l))) all given
    ∙ ap (λ (l : List Item). cons_option o (bodies_kept l)) (drop-drop 1 i items)
