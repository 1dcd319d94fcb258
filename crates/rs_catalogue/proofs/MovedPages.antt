-- A catalogue whose pages change only their places.
use Rattle.std.proofs.Common.{◌≡◌, ℕ, List, [], ◌∷◌, map, sym, ◌∙◌, subst, inl, inr}
use Rattle.std.specs.Prelude.{IsSome}
use Rattle.rs_record.specs.declared.record.Record.{Record}
use Rattle.rs_model.specs.Names.{value_of}
use Rattle.rs_page.specs.Pages.{Page, stored_ref}
use Rattle.rs_pages.specs.Storing.{items_by_page}
use Rattle.rs_catalogue.specs.Named.{named}
use Rattle.rs_catalogue.specs.Catalogue.{StandsUnstored}

-- a name in an unstored page stays in an unstored page
pub stands_again : (name : List ℕ) (old new : List (Page Record)) → items_by_page new ≡ items_by_page old
    → map (λ page. stored_ref page.place) new ≡ map (λ page. stored_ref page.place) old → StandsUnstored name old → StandsUnstored name new
stands_again name [] new items refs h = absurd h
stands_again name (x ∷ old) [] items refs h = cc
stands_again name (x ∷ old) (y ∷ new) items refs h =
    let item : y.items ≡ x.items = cc in
    let ref : stored_ref y.place ≡ stored_ref x.place = cc in
    let rest : items_by_page new ≡ items_by_page old = cc in
    let rest' : map (λ page. stored_ref page.place) new ≡ map (λ page. stored_ref page.place) old = cc in
    elim h [
      | inl here ↦ inl (subst (λ (records : List Record). IsSome (value_of name (named records))) (sym item) here.0, ref ∙ here.1)
      | inr later ↦ inr (stands_again name old new rest rest' later)
    ]
