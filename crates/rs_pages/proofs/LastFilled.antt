-- The last item filled at its place, as in one list.
use Rattle.std.proofs.Common.{◌≡◌, ℕ, zero, suc, ◌-◌, ◌≤◌, ◌<◌, List, [], ◌∷◌, ◌++◌, length, map, Bool, true, false, cond, refl, sym, ap, ◌∙◌, arith}
use Rattle.std.specs.Prelude.{nat_lt}
use Rattle.std.proofs.lemmas.Bool.Decides.{nat_tests}
use Rattle.std.proofs.lemmas.List.{append-nil, length-append}
use Rattle.std.proofs.lemmas.List.Elements.{All-head, All-tail}
use Rattle.rs_page.specs.Pages.{Page, items_of}
use Rattle.rs_pages.specs.Filled.{end_filled, last_filled, EndsUnstored}
use Rattle.rs_pages.specs.Rule.{HaveItems, touched, touched_pages, items_at, with_page, appended_to}
use Rattle.rs_pages.proofs.Cut.{cut_few}
use Rattle.rs_pages.proofs.Standing.{ends_after, ends_items, ends_with}

module _ {T : Type 0} (f : T → T) where
  end_later : (xs : List T) (y : T) (ys : List T) → end_filled f (xs ++ y ∷ ys) ≡ xs ++ end_filled f (y ∷ ys)
  end_later [] y ys = refl
  end_later (x ∷ []) y ys = refl
  end_later (x ∷ next ∷ xs) y ys = ap (λ rest. x ∷ rest) (end_later (next ∷ xs) y ys)

  later_items : (xs ys : List T) → 1 ≤ length ys → end_filled f (xs ++ ys) ≡ xs ++ end_filled f ys
  later_items xs [] h = absurd (omega arith)
  later_items xs (y ∷ ys) h = end_later xs y ys

  pub last_is_filled : (pages : List (Page T)) → HaveItems pages → items_of (last_filled f pages) ≡ end_filled f (items_of pages)
  last_is_filled [] have = refl
  last_is_filled (page ∷ []) have = append-nil (end_filled f page.items) ∙ ap (end_filled f) (sym (append-nil page.items))
  last_is_filled (page ∷ next ∷ pages) have =
      let rest : HaveItems (next ∷ pages) = All-tail (λ (it : Page T). 1 ≤ length it.items) page (next ∷ pages) have in
      let some : 1 ≤ length next.items = All-head (λ (it : Page T). 1 ≤ length it.items) next pages rest in
      ap (λ items. page.items ++ items) (last_is_filled (next ∷ pages) rest)
      ∙ sym (later_items page.items (next.items ++ items_of pages) (omega (arith, some, length-append next.items (items_of pages))))

  -- the last of a page and more pages is the last of those
  last_later : (page : Page T) (pages : List (Page T)) → EndsUnstored pages → last_filled f (page ∷ pages) ≡ page ∷ last_filled f pages
  last_later page [] h = absurd h
  last_later page (next ∷ pages) h = refl

  last_after : (pages others : List (Page T)) → EndsUnstored others → last_filled f (pages ++ others) ≡ pages ++ last_filled f others
  last_after [] others h = refl
  last_after (page ∷ pages) others h = last_later page (pages ++ others) (ends_after pages others h) ∙ ap (λ rest. page ∷ rest) (last_after pages others h)

  one_page : (xs : List T) (t : T) → length xs < 64 → touched_pages (xs ++ t ∷ []) ≡ touched (xs ++ t ∷ []) ∷ []
  one_page xs t h =
      let len : length (xs ++ t ∷ []) ≡ suc (length xs) = rw length-append (omega arith) in
      ap (map touched) (cut_few 32 (xs ++ t ∷ []) (omega (arith, len)) (omega (arith, len)))

  filled_end : (xs : List T) (t : T) → length xs < 64 → last_filled f (touched_pages (xs ++ t ∷ [])) ≡ touched_pages (xs ++ f t ∷ [])
  filled_end xs t h = ap (last_filled f) (one_page xs t h) ∙ (ap (λ items. touched items ∷ []) (end_later xs t []) ∙ sym (one_page xs (f t) h))

  filled_at : (t : T) (i : ℕ) (xs : List T) (pages : List (Page T)) → suc i ≡ length pages → length xs < 64
      → last_filled f (with_page i (xs ++ t ∷ []) pages) ≡ with_page i (xs ++ f t ∷ []) pages
  filled_at t i xs [] h few = absurd (omega arith)
  filled_at t zero xs (page ∷ []) h few =
      ap (last_filled f) (append-nil (touched_pages (xs ++ t ∷ []))) ∙ (filled_end xs t few ∙ sym (append-nil (touched_pages (xs ++ f t ∷ []))))
  filled_at t zero xs (page ∷ next ∷ pages) h few = absurd (omega arith)
  filled_at t (suc i) xs (page ∷ pages) h few =
      last_later page (with_page i (xs ++ t ∷ []) pages) (ends_with i (xs ++ t ∷ []) pages (omega arith) (ends_items xs t))
      ∙ ap (λ rest. page ∷ rest) (filled_at t i xs pages (omega arith) few)

  filled_last : (t : T) (pages : List (Page T)) → (let i = length pages - 1 in length (items_at i pages) < 64
      → last_filled f (with_page i (items_at i pages ++ t ∷ []) pages) ≡ with_page i (items_at i pages ++ f t ∷ []) pages)
  filled_last t [] few = refl
  filled_last t (page ∷ pages) few = let i : ℕ = length (page ∷ pages) - 1 in filled_at t i (items_at i (page ∷ pages)) (page ∷ pages) (omega arith) few

  filled_either : (b : Bool) (u v w x : List (Page T)) → (b ≡ true → last_filled f u ≡ w) → last_filled f v ≡ x → last_filled f (cond b u v) ≡ cond b w x
  filled_either true u v w x h k = h refl
  filled_either false u v w x h k = k

  is_less : (n : ℕ) → nat_lt n 64 ≡ true → n < 64
  is_less n h = grind (arith, nat_tests)

  pub filling_appended : (t : T) (pages : List (Page T)) → last_filled f (appended_to t pages) ≡ appended_to (f t) pages
  filling_appended t pages =
      let i : ℕ = length pages - 1 in
      filled_either (nat_lt (length (items_at i pages)) 64) (with_page i (items_at i pages ++ t ∷ []) pages) (pages ++ touched_pages (t ∷ []))
      (with_page i (items_at i pages ++ f t ∷ []) pages) (pages ++ touched_pages (f t ∷ []))
      (λ is. filled_last t pages (is_less (length (items_at i pages)) is)) (last_after pages (touched_pages (t ∷ [])) refl)
