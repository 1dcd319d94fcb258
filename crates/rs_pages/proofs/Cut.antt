-- How items are cut into pages, for pieces of 1 to 64 items.
use Rattle.std.proofs.Common.{◌≡◌, ℕ, zero, suc, ◌+◌, ◌<◌, ◌≤◌, List, [], ◌∷◌, ◌++◌, length, take, drop, map, Bool, true, false, cond, refl, sym, ap, ◌∙◌, arith}
use Rattle.std.specs.Prelude.{nat_le, All}
use Rattle.std.proofs.lemmas.List.{append-nil, append_assoc, take-append-drop, length-drop, length-take}
use Rattle.std.proofs.lemmas.List.Concat.{flat_map-append}
use Rattle.std.proofs.lemmas.List.Elements.{All-nil, All-cons}
use Rattle.std.proofs.lemmas.Bool.Decides.{nat_tests}
use Rattle.rs_page.specs.declared.place.Place.TheVariants.{Touched}
use Rattle.rs_page.specs.Pages.{Page, items_of}
use Rattle.rs_pages.specs.Rule.{cut_up_to, cut_into_pieces_of, touched, HaveItems}
use Rattle.rs_pages.specs.Laws.{IsFreshPage}

few : (n : ℕ) → n ≤ 64 → nat_le n 64 ≡ true
few n h = grind (arith, nat_tests)

many : (n : ℕ) → 64 < n → nat_le n 64 ≡ false
many n h = grind (arith, nat_tests)

is_many : (n : ℕ) → nat_le n 64 ≡ false → 64 < n
is_many n h = grind (arith, nat_tests)

is_few : (n : ℕ) → nat_le n 64 ≡ true → n ≤ 64
is_few n h = grind (arith, nat_tests)

pub is_touched : {T : Type 0} (page : Page T) (items : List T) → page.items ≡ items → page.place ≡ Touched → page ≡ touched items
is_touched page items a b = ap (λ xs. record { items = xs; place = page.place }) a ∙ ap (λ p. record { items = items; place = p }) b

pub have_items : {T : Type 0} (pages : List (Page T)) → All IsFreshPage pages → HaveItems pages
have_items pages fresh = λ k d inside. (fresh k d inside).1

-- for pieces of any length
module _ {T : Type 0} (piece : ℕ) where
  -- one piece is cut off, unless few are left
  abbrev cut_unless : Bool → ℕ → List T → List (List T)
  cut_unless are_few n items = cond are_few (items ∷ []) (take piece items ∷ cut_up_to piece n (drop piece items))

  few_cut : (n : ℕ) (items : List T) → length items ≤ 64 → cut_up_to piece n items ≡ items ∷ []
  few_cut zero items h = refl
  few_cut (suc n) items h = ap (λ b. cut_unless b n items) (few (length items) h)

  -- at most 64 items are one piece
  pub cut_few : (items : List T) → 1 ≤ length items → length items ≤ 64 → cut_into_pieces_of piece items ≡ items ∷ []
  cut_few [] some h = absurd (omega arith)
  cut_few (x ∷ xs) some h = few_cut (length (x ∷ xs)) (x ∷ xs) h

  -- the pages have the items in their order
  joined : (n : ℕ) (items : List T) → items_of (map touched (cut_up_to piece n items)) ≡ items
  joined zero items = append-nil items
  joined (suc n) items =
      elim (nat_le (length items) 64) as (λ b. items_of (map touched (cut_unless b n items)) ≡ items) [
        | true ↦ append-nil items
        | false ↦ ap (λ rest. take piece items ++ rest) (joined n (drop piece items)) ∙ take-append-drop piece items
      ]

  pub items_of-cut : (items : List T) → items_of (map touched (cut_into_pieces_of piece items)) ≡ items
  items_of-cut [] = refl
  items_of-cut (x ∷ xs) = joined (length (x ∷ xs)) (x ∷ xs)

  -- so they have before other pages
  pub items_of-cut_first : (items : List T) (pages : List (Page T)) → items_of (map touched (cut_into_pieces_of piece items) ++ pages) ≡ items ++ items_of pages
  items_of-cut_first items pages =
      flat_map-append (λ page. page.items) (map touched (cut_into_pieces_of piece items)) pages ∙ ap (λ xs. xs ++ items_of pages) (items_of-cut items)

-- for pieces of 1 to 64
module _ {T : Type 0} (piece : ℕ) (some : 1 ≤ piece) (within : piece ≤ 64) where
  -- how often it can be does not matter
  enough : (n m : ℕ) (items : List T) → length items ≤ n → length items ≤ m → cut_up_to piece n items ≡ cut_up_to piece m items
  enough zero m items h k = sym (few_cut piece m items (omega arith))
  enough (suc n) zero items h k = few_cut piece (suc n) items (omega arith)
  enough (suc n) (suc m) items h k =
      elim (nat_le (length items) 64) as (λ b. nat_le (length items) 64 ≡ b → cut_unless piece b n items ≡ cut_unless piece b m items) [
        | true ↦ λ is. refl
        | false ↦ λ is.
            let more = is_many (length items) is in
            ap (λ rest. take piece items ∷ rest) (enough n m (drop piece items) (omega (arith, length-drop piece items)) (omega (arith, length-drop piece items)))
      ]
      refl

  all_cut : (n : ℕ) (items : List T) → 1 ≤ length items → length items ≤ n → cut_up_to piece n items ≡ cut_into_pieces_of piece items
  all_cut n [] left h = absurd (omega arith)
  all_cut n (x ∷ xs) left h = enough n (length (x ∷ xs)) (x ∷ xs) h (omega arith)

  -- from more than 64 items one piece is cut off
  cut_more : (items : List T) → 64 < length items → cut_into_pieces_of piece items ≡ take piece items ∷ cut_into_pieces_of piece (drop piece items)
  cut_more [] more = absurd (omega arith)
  cut_more (x ∷ xs) more =
      let left = length-drop piece (x ∷ xs) in
      ap (λ b. cut_unless piece b (length xs) (x ∷ xs)) (many (length (x ∷ xs)) more)
      ∙ ap (λ rest. take piece (x ∷ xs) ∷ rest) (all_cut (length xs) (drop piece (x ∷ xs)) (omega (arith, left)) (omega (arith, left)))

  -- all pages are touched, and have 1 to 64 items
  fresh_up_to : (n : ℕ) (items : List T) → 1 ≤ length items → length items ≤ n + 64 → All IsFreshPage (map touched (cut_up_to piece n items))
  fresh_up_to zero items h k = All-cons IsFreshPage (touched items) [] (tt, h, omega arith) (All-nil IsFreshPage)
  fresh_up_to (suc n) items h k =
      elim (nat_le (length items) 64) as (λ b. nat_le (length items) 64 ≡ b → All IsFreshPage (map touched (cut_unless piece b n items))) [
        | true ↦ λ is. All-cons IsFreshPage (touched items) [] (tt, h, is_few (length items) is) (All-nil IsFreshPage)
        | false ↦ λ is.
            let more = is_many (length items) is in
            let front = length-take piece items in
            let left = length-drop piece items in
            All-cons IsFreshPage (touched (take piece items)) (map touched (cut_up_to piece n (drop piece items)))
            (tt, omega (arith, front), omega (arith, front)) (fresh_up_to n (drop piece items) (omega (arith, left)) (omega (arith, left)))
      ]
      refl

  pub fresh_cut : (items : List T) → All IsFreshPage (map touched (cut_into_pieces_of piece items))
  fresh_cut [] = All-nil IsFreshPage
  fresh_cut (x ∷ xs) = fresh_up_to (length (x ∷ xs)) (x ∷ xs) (omega arith) (omega arith)

  -- one page cut off ..
  pub cut_step : (before all pushed : List (Page T)) (rest front later : List T) (page : Page T) → 64 < length rest → front ≡ take piece rest → later ≡ drop piece rest → page ≡ touched front
      → pushed ≡ before ++ page ∷ [] → before ++ map touched (cut_into_pieces_of piece rest) ≡ all → pushed ++ map touched (cut_into_pieces_of piece later) ≡ all
  cut_step before all pushed rest front later page more is_front is_later is_page is_pushed so_far =
      ap (λ pages. pages ++ map touched (cut_into_pieces_of piece later)) is_pushed
      ∙ (append_assoc before (page ∷ []) (map touched (cut_into_pieces_of piece later))
      ∙ (ap (λ p. before ++ p ∷ map touched (cut_into_pieces_of piece later)) (is_page ∙ ap touched is_front)
      ∙ (ap (λ xs. before ++ touched (take piece rest) ∷ map touched (cut_into_pieces_of piece xs)) is_later
      ∙ (ap (λ cut. before ++ map touched cut) (sym (cut_more rest more)) ∙ so_far))))

-- .. and the last one
pub cut_end : {T : Type 0} (piece : ℕ) (before all pushed : List (Page T)) (rest : List T) (page : Page T) → 1 ≤ length rest → length rest ≤ 64 → page ≡ touched rest
    → pushed ≡ before ++ page ∷ [] → before ++ map touched (cut_into_pieces_of piece rest) ≡ all → pushed ≡ all
cut_end piece before all pushed rest page some few_left is_page is_pushed so_far =
    is_pushed
    ∙ (ap (λ p. before ++ p ∷ []) is_page ∙ (ap (λ cut. before ++ map touched cut) (sym (cut_few piece rest some few_left)) ∙ so_far))
