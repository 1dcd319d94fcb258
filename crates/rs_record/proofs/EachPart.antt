-- A test of all elements of a list.
use Rattle.std.proofs.Common.{◌≡◌, ℕ, ◌<◌, length, List, Bool, true, false, sym, arith}
use Rattle.std.specs.Bool.{MatchBool}
use Rattle.std.specs.List.{list_all, AllWithin, HoldsAt}
use Rattle.std.proofs.lemmas.List.Sums.{list_all-from_AllPass}
use Rattle.std.proofs.lemmas.List.Folds.{list_all_at}

-- the result of `all` is whether all elements pass; x is any value, for a place past the end
pub all_is : {X : Type 0} (p : X → Bool) (xs : List X) (r : Bool) (x : X)
    → MatchBool r (AllWithin (λ y. p y ≡ true) xs 0 (length xs)) ((k : ℕ) × (k < length xs) × HoldsAt (λ y. p y ≡ false) xs k) → r ≡ list_all p xs
all_is p xs true x h = sym (list_all-from_AllPass p xs (λ k d lt. h k d (omega arith) lt))
all_is p xs false x h = sym (list_all_at p xs h.0 x h.1 (h.2 x))
