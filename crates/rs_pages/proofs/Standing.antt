-- The pages that hold a bound name and an appended item.
use Rattle.std.proofs.Common.{◌≡◌, ◌⊎◌, ℕ, zero, suc, ◌-◌, List, [], ◌∷◌, ◌++◌, length, map, take, drop, Bool, true, false, cond, refl, sym, ap, ◌∙◌, subst, inl, inr, arith, Some, None, nat_lt, nat_le}
use Rattle.std.specs.Prelude.{IsSome, is_some}
use Rattle.std.proofs.lemmas.List.{append-nil}
use Rattle.std.specs.declared.cmp.Ordering.{Ordering}
use Rattle.std.specs.declared.cmp.Ordering.TheVariants.{Less, Equal, Greater}
use Rattle.rs_model.specs.Names.{by_bytes, by_order, value_of}
use Rattle.rs_pages.proofs.FromBelow.{value-bind}
use Rattle.rs_page.specs.Pages.{Page, items_of}
use Rattle.rs_pages.specs.Items.{keyed, put_in}
use Rattle.rs_pages.specs.Filled.{StandsUnstored, EndsUnstored}
use Rattle.rs_pages.specs.Rule.{touched, touched_pages, cut_front, cut_up_to, items_at, with_page, home, bound_in, appended_to}
use Rattle.rs_pages.proofs.InOrder.{keyed-put_in}
use Rattle.rs_pages.proofs.Cut.{items_of-cut}

module _ {T : Type 0} (name : T → List ℕ) where
  either_by : (n : List ℕ) (x : T) (xs ys : List T) (o : Ordering) → (IsSome (value_of n (keyed name (xs ++ ys))) → IsSome (value_of n (keyed name xs)) ⊎ IsSome (value_of n (keyed name ys)))
      → IsSome (by_order o None (Some x) (value_of n (keyed name (xs ++ ys)))) → IsSome (by_order o None (Some x) (value_of n (keyed name xs))) ⊎ IsSome (value_of n (keyed name ys))
  either_by n x xs ys Less next h = inl h
  either_by n x xs ys Equal next h = inl refl
  either_by n x xs ys Greater next h = next h

  either : (n : List ℕ) (xs ys : List T) → IsSome (value_of n (keyed name (xs ++ ys))) → IsSome (value_of n (keyed name xs)) ⊎ IsSome (value_of n (keyed name ys))
  either n [] ys h = inr h
  either n (x ∷ xs) ys h = either_by n x xs ys (by_bytes n (name x)) (either n xs ys) h

  in_some : (n : List ℕ) (cut : List (List T)) → IsSome (value_of n (keyed name (items_of (map touched cut)))) → StandsUnstored name n (map touched cut)
  in_some n [] h = cc
  in_some n (items ∷ cut) h = elim (either n items (items_of (map touched cut)) h) [ inl here ↦ inl (here, refl) | inr later ↦ inr (in_some n cut later) ]

  in_touched : (n : List ℕ) (items : List T) → IsSome (value_of n (keyed name items)) → StandsUnstored name n (touched_pages items)
  in_touched n items h = in_some n (cut_front items) (subst (λ (items : List T). IsSome (value_of n (keyed name items))) (sym (items_of-cut 32 items)) h)

  in_front : (n : List ℕ) (pages others : List (Page T)) → StandsUnstored name n pages → StandsUnstored name n (pages ++ others)
  in_front n [] others h = absurd h
  in_front n (page ∷ pages) others h = elim h [ inl here ↦ inl here | inr later ↦ inr (in_front n pages others later) ]

  in_page : (n : List ℕ) (i : ℕ) (items : List T) (pages : List (Page T)) → IsSome (value_of n (keyed name items)) → StandsUnstored name n (with_page i items pages)
  in_page n i items [] h = in_touched n items h
  in_page n zero items (page ∷ pages) h = in_front n (touched_pages items) pages (in_touched n items h)
  in_page n (suc i) items (page ∷ pages) h = inr (in_page n i items pages h)

  pub bound_stands : (t : T) (pages : List (Page T)) → StandsUnstored name (name t) (bound_in name t pages)
  bound_stands t pages =
      let i : ℕ = home name (name t) pages in
      in_page (name t) i (put_in name t (items_at i pages)) pages
      (ap is_some (ap (value_of (name t)) (keyed-put_in name t (items_at i pages)) ∙ value-bind (name t) t (keyed name (items_at i pages))))

module _ {T : Type 0} where
  ends_later : (page : Page T) (pages : List (Page T)) → EndsUnstored pages → EndsUnstored (page ∷ pages)
  ends_later page [] h = absurd h
  ends_later page (next ∷ pages) h = h

  pub ends_after : (pages others : List (Page T)) → EndsUnstored others → EndsUnstored (pages ++ others)
  ends_after [] others h = h
  ends_after (page ∷ pages) others h = ends_later page (pages ++ others) (ends_after pages others h)

  ends_cut : (n : ℕ) (items : List T) → EndsUnstored (map touched (cut_up_to 32 n items))
  ends_cut zero items = refl
  ends_cut (suc n) items =
      elim (nat_le (length items) 64) as (λ b. EndsUnstored (map touched (cond b (items ∷ []) (take 32 items ∷ cut_up_to 32 n (drop 32 items))))) [
        | true ↦ refl
        | false ↦ ends_later (touched (take 32 items)) (map touched (cut_up_to 32 n (drop 32 items))) (ends_cut n (drop 32 items))
      ]

  pub ends_items : (items : List T) (t : T) → EndsUnstored (touched_pages (items ++ t ∷ []))
  ends_items [] t = refl
  ends_items (x ∷ xs) t = ends_cut (length (x ∷ (xs ++ t ∷ []))) (x ∷ (xs ++ t ∷ []))

  pub ends_with : (i : ℕ) (items : List T) (pages : List (Page T)) → suc i ≡ length pages → EndsUnstored (touched_pages items) → EndsUnstored (with_page i items pages)
  ends_with i items [] h ends = absurd (omega arith)
  ends_with zero items (page ∷ []) h ends = subst EndsUnstored (sym (append-nil (touched_pages items))) ends
  ends_with zero items (page ∷ next ∷ pages) h ends = absurd (omega arith)
  ends_with (suc i) items (page ∷ pages) h ends = ends_later page (with_page i items pages) (ends_with i items pages (omega arith) ends)

  ends_last : (t : T) (pages : List (Page T)) → EndsUnstored (with_page (length pages - 1) (items_at (length pages - 1) pages ++ t ∷ []) pages)
  ends_last t [] = refl
  ends_last t (page ∷ pages) =
      let i : ℕ = length (page ∷ pages) - 1 in
      ends_with i (items_at i (page ∷ pages) ++ t ∷ []) (page ∷ pages) (omega arith) (ends_items (items_at i (page ∷ pages)) t)

  ends_either : (b : Bool) (a c : List (Page T)) → EndsUnstored a → EndsUnstored c → EndsUnstored (cond b a c)
  ends_either true a c h k = h
  ends_either false a c h k = k

  pub appended_ends : (t : T) (pages : List (Page T)) → EndsUnstored (appended_to t pages)
  appended_ends t pages =
      let i : ℕ = length pages - 1 in
      ends_either (nat_lt (length (items_at i pages)) 64) (with_page i (items_at i pages ++ t ∷ []) pages) (pages ++ touched_pages (t ∷ [])) (ends_last t pages)
      (ends_after pages (touched_pages (t ∷ [])) refl)
