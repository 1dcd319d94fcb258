-- Items changed at their places, in every page.
use Rattle.std.proofs.Common.{◌≡◌, ℕ, zero, suc, List, [], ◌∷◌, ◌++◌, length, map, take, drop, Bool, true, false, cond, refl, sym, ap, ap₂, ◌∙◌, Some, None}
use Rattle.std.specs.Prelude.{◌||◌, nat_le, not, is_some}
use Rattle.std.specs.Ordering.{is_lt}
use Rattle.std.specs.declared.cmp.Ordering.{Ordering}
use Rattle.std.specs.declared.cmp.Ordering.TheVariants.{Less, Equal, Greater}
use Rattle.std.proofs.lemmas.List.{map-append, length-map, take-map, drop-map}
use Rattle.rs_model.specs.Names.{by_bytes, by_order, value_of}
use Rattle.rs_page.specs.Pages.{Page, items_of}
use Rattle.rs_pages.specs.Items.{keyed, put_in, taken_out}
use Rattle.rs_pages.specs.Rule.{touched, touched_pages, cut_up_to, cut_front, items_at, with_page, begins_by, some_begins_by, home, bound_in, unbound_in}

-- Where every item is changed and stays, the pages are cut as they were.
module _ {T : Type 0} (g : T → T) where
  abbrev pub each_page : List (Page T) → List (Page T)
  each_page pages = map (λ page. record { items = map g page.items; place = page.place }) pages

  cut_later : (b : Bool) (items front : List T) (rest : List (List T)) → map (map g) (cond b (items ∷ []) (front ∷ rest)) ≡ cond b (map g items ∷ []) (map g front ∷ map (map g) rest)
  cut_later true items front rest = refl
  cut_later false items front rest = refl

  cut-map : (n : ℕ) (items : List T) → map (map g) (cut_up_to 32 n items) ≡ cut_up_to 32 n (map g items)
  cut-map zero items = refl
  cut-map (suc n) items =
      cut_later (nat_le (length items) 64) items (take 32 items) (cut_up_to 32 n (drop 32 items))
      ∙ (ap (λ k. cond (nat_le k 64) (map g items ∷ []) (map g (take 32 items) ∷ map (map g) (cut_up_to 32 n (drop 32 items)))) (sym (length-map items g))
      ∙ ap₂ (λ front rest. cond (nat_le (length (map g items)) 64) (map g items ∷ []) (front ∷ rest)) (sym (take-map g 32 items))
      (cut-map n (drop 32 items) ∙ ap (cut_up_to 32 n) (sym (drop-map g 32 items))))

  each_cut : (cut : List (List T)) → each_page (map touched cut) ≡ map touched (map (map g) cut)
  each_cut [] = refl
  each_cut (items ∷ cut) = ap (λ rest. touched (map g items) ∷ rest) (each_cut cut)

  pub each_touched : (items : List T) → each_page (touched_pages items) ≡ touched_pages (map g items)
  each_touched [] = refl
  each_touched (x ∷ xs) =
      each_cut (cut_front (x ∷ xs)) ∙ ap (map touched) (cut-map (length (x ∷ xs)) (x ∷ xs) ∙ ap (λ k. cut_up_to 32 k (map g (x ∷ xs))) (sym (length-map (x ∷ xs) g)))

  pub items_of-each : (pages : List (Page T)) → items_of (each_page pages) ≡ map g (items_of pages)
  items_of-each [] = refl
  items_of-each (page ∷ pages) = ap (λ rest. map g page.items ++ rest) (items_of-each pages) ∙ sym (map-append g page.items (items_of pages))

  items_at-each : (i : ℕ) (pages : List (Page T)) → items_at i (each_page pages) ≡ map g (items_at i pages)
  items_at-each i [] = refl
  items_at-each zero (page ∷ pages) = refl
  items_at-each (suc i) (page ∷ pages) = items_at-each i pages

  with_page-each : (i : ℕ) (items : List T) (pages : List (Page T)) → each_page (with_page i items pages) ≡ with_page i (map g items) (each_page pages)
  with_page-each i items [] = each_touched items
  with_page-each zero items (page ∷ pages) =
      map-append (λ (p : Page T). record { items = map g p.items; place = p.place }) (touched_pages items) pages
      ∙ ap (λ made. made ++ each_page pages) (each_touched items)
  with_page-each (suc i) items (page ∷ pages) = ap (λ rest. record { items = map g page.items; place = page.place } ∷ rest) (with_page-each i items pages)

  each_either : (b : Bool) (xs ys : List (Page T)) → each_page (cond b xs ys) ≡ cond b (each_page xs) (each_page ys)
  each_either true xs ys = refl
  each_either false xs ys = refl

by_order-map : {A B : Type 0} (f : A → B) (o : Ordering) (x y z : A) → f (by_order o x y z) ≡ by_order o (f x) (f y) (f z)
by_order-map f Less x y z = refl
by_order-map f Equal x y z = refl
by_order-map f Greater x y z = refl

-- Where every item keeps its name, they are bound, unbound and found as they were.
module _ {T : Type 0} (name : T → List ℕ) (g : T → T) (same : (t : T) → name (g t) ≡ name t) where
  begins-each : (n : List ℕ) (items : List T) → begins_by name n (map g items) ≡ begins_by name n items
  begins-each n [] = refl
  begins-each n (x ∷ xs) = ap (λ m. not (is_lt (by_bytes n m))) (same x)

  some_begins-each : (n : List ℕ) (pages : List (Page T)) → some_begins_by name n (each_page g pages) ≡ some_begins_by name n pages
  some_begins-each n [] = refl
  some_begins-each n (page ∷ pages) = ap₂ (λ a b. a || b) (begins-each n page.items) (some_begins-each n pages)

  home-each : (n : List ℕ) (pages : List (Page T)) → home name n (each_page g pages) ≡ home name n pages
  home-each n [] = refl
  home-each n (page ∷ pages) = ap₂ (λ b i. cond b (suc i) 0) (some_begins-each n pages) (home-each n pages)

  put_in-each : (t : T) (xs : List T) → map g (put_in name t xs) ≡ put_in name (g t) (map g xs)
  put_in-each t [] = refl
  put_in-each t (x ∷ xs) =
      by_order-map (map g) (by_bytes (name t) (name x)) (t ∷ x ∷ xs) (t ∷ xs) (x ∷ put_in name t xs)
      ∙ ap (λ rest. by_order (by_bytes (name t) (name x)) (g t ∷ g x ∷ map g xs) (g t ∷ map g xs) (g x ∷ rest)) (put_in-each t xs)
      ∙ ap₂ (λ n m. by_order (by_bytes n m) (g t ∷ g x ∷ map g xs) (g t ∷ map g xs) (g x ∷ put_in name (g t) (map g xs))) (sym (same t)) (sym (same x))

  taken_out-each : (n : List ℕ) (xs : List T) → map g (taken_out name n xs) ≡ taken_out name n (map g xs)
  taken_out-each n [] = refl
  taken_out-each n (x ∷ xs) =
      by_order-map (map g) (by_bytes n (name x)) (x ∷ xs) xs (x ∷ taken_out name n xs)
      ∙ ap₂ (λ m rest. by_order (by_bytes n m) (g x ∷ map g xs) (map g xs) (g x ∷ rest)) (sym (same x)) (taken_out-each n xs)

  pub found-each : (n : List ℕ) (xs : List T) → is_some (value_of n (keyed name (map g xs))) ≡ is_some (value_of n (keyed name xs))
  found-each n [] = refl
  found-each n (x ∷ xs) =
      by_order-map is_some (by_bytes n (name (g x))) None (Some (g x)) (value_of n (keyed name (map g xs)))
      ∙ ap₂ (λ m found. by_order (by_bytes n m) false true found) (same x) (found-each n xs)
      ∙ sym (by_order-map is_some (by_bytes n (name x)) None (Some x) (value_of n (keyed name xs)))

  pub bound-each : (t : T) (pages : List (Page T)) → each_page g (bound_in name t pages) ≡ bound_in name (g t) (each_page g pages)
  bound-each t pages =
      let i = home name (name t) pages in
      let there : i ≡ home name (name (g t)) (each_page g pages) = sym (ap (λ n. home name n (each_page g pages)) (same t) ∙ home-each (name t) pages) in
      with_page-each g i (put_in name t (items_at i pages)) pages
      ∙ ap (λ items. with_page i items (each_page g pages)) (put_in-each t (items_at i pages) ∙ ap (put_in name (g t)) (sym (items_at-each g i pages)))
      ∙ ap (λ k. with_page k (put_in name (g t) (items_at k (each_page g pages))) (each_page g pages)) there

  pub unbound-each : (n : List ℕ) (pages : List (Page T)) → each_page g (unbound_in name n pages) ≡ unbound_in name n (each_page g pages)
  unbound-each n pages =
      let i = home name n pages in
      let items = items_at i pages in
      let b = is_some (value_of n (keyed name items)) in
      each_either g b (with_page i (taken_out name n items) pages) pages
      ∙ ap₂ (λ held left. cond held left (each_page g pages)) (sym (found-each n items))
      (with_page-each g i (taken_out name n items) pages ∙ ap (λ left. with_page i left (each_page g pages)) (taken_out-each n items))
      ∙ ap (λ there. cond (is_some (value_of n (keyed name there))) (with_page i (taken_out name n there) (each_page g pages)) (each_page g pages)) (sym (items_at-each g i pages))
      ∙ ap (λ k. let there = items_at k (each_page g pages) in
      cond (is_some (value_of n (keyed name there))) (with_page k (taken_out name n there) (each_page g pages)) (each_page g pages)) (sym (home-each n pages))
