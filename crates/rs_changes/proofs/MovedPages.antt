-- A history whose pages change only their places.
use Rattle.std.proofs.Common.{◌≡◌, List, [], ◌∷◌, map, ◌∙◌}
use Rattle.rs_record.specs.declared.change.Change.{Change}
use Rattle.rs_page.specs.Pages.{Page, stored_ref}
use Rattle.rs_changes.specs.History.{EndsUnstored}

-- a last change in an unstored page stays in an unstored page
pub ends_again : (old new : List (Page Change)) → map (λ page. stored_ref page.place) new ≡ map (λ page. stored_ref page.place) old → EndsUnstored old → EndsUnstored new
ends_again [] new refs h = absurd h
ends_again (x ∷ old) [] refs h = cc
ends_again (x ∷ []) (y ∷ []) refs h = let ref : stored_ref y.place ≡ stored_ref x.place = cc in ref ∙ h
ends_again (x ∷ []) (y ∷ z ∷ new) refs h = cc
ends_again (x ∷ next ∷ old) (y ∷ []) refs h = cc
ends_again (x ∷ next ∷ old) (y ∷ z ∷ new) refs h =
    let rest : map (λ page. stored_ref page.place) (z ∷ new) ≡ map (λ page. stored_ref page.place) (next ∷ old) = cc in
    ends_again (next ∷ old) (z ∷ new) rest h
