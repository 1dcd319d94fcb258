-- The pages of a list, joined.
use Rattle.std.proofs.Common.{◌≡◌, List, [], ◌∷◌, ◌++◌, refl, sym, ap, ◌∙◌}
use Rattle.std.specs.Prelude.{flat_map}
use Rattle.rs_page.specs.Pages.{Page, items_of}
use Rattle.rs_pages.specs.Storing.{items_by_page}

module _ {T : Type 0} where
  -- the items of the pages, one after the other
  pub joined : (pages : List (Page T)) → flat_map (λ (items : List T). items) (items_by_page pages) ≡ items_of pages
  joined [] = refl
  joined (page ∷ pages) = ap (λ rest. page.items ++ rest) (joined pages)

  -- pages that have the same items have them in all
  pub same_joined : (old new : List (Page T)) → items_by_page new ≡ items_by_page old → items_of new ≡ items_of old
  same_joined old new same = sym (joined new) ∙ (ap (λ (pages : List (List T)). flat_map (λ items. items) pages) same ∙ joined old)
