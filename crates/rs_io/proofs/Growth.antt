-- Known bytes that grow by one write after another. A few writes in a row mostly need no lemma. Join more of them by
-- `wrote_then`, and close the equation of texts by `simp append_assoc`. A loop over a list needs `flat_map-next`.
use Rattle.std.proofs.Common.{◌≡◌, refl, ℕ, ◌+◌, ◌<◌, List, [], ◌∷◌, ◌++◌, take, length, Option, get_or, ap, sym, ◌∙◌, subst, append-nil, add-one}
use Rattle.std.specs.List.{flat_map}
use Rattle.std.specs.Io.KnownBytes.{Appends}
use Rattle.std.proofs.KnownBytes.{Appends-nil, Appends-trans}
use Rattle.std.proofs.Math.Seq.{take-suc}
use Rattle.std.proofs.lemmas.Grind.{flat_map-append}
use Rattle.rs_io.specs.declared.watch.Watched.{Watched}
use Rattle.rs_io.specs.Watch.{watched, Wrote}

-- the appended bytes, written another way
pub appends_same : (a b : Option (List ℕ)) (x y : List ℕ) → Appends a b x → x ≡ y → Appends a b y
appends_same a b x y h e = subst (Appends a b) e h

-- one write after another, which together appended z
pub appends_then : (a b c : Option (List ℕ)) (x y z : List ℕ) → Appends a b x → Appends b c y → x ++ y ≡ z → Appends a c z
appends_then a b c x y z p q e = appends_same a c (x ++ y) z (Appends-trans a b c x y p q) e

-- the texts of the first elements, and the text of one more
pub flat_map-next : {A : Type 0} (f : A → List ℕ) (xs : List A) (i : ℕ) (x : A) → i < length xs → x ≡ get_or xs i x
    → flat_map f (take i xs) ++ f x ≡ flat_map f (take (i + 1) xs)
flat_map-next f xs i x h e =
    sym
    (ap (flat_map f) (rw add-one (take-suc xs i x h)) ∙ flat_map-append f (take i xs) (get_or xs i x ∷ [])
    ∙ ap (λ l. flat_map f (take i xs) ++ l) (append-nil (f (get_or xs i x)) ∙ ap f (sym e)))

-- a watched writer without a call
pub wrote_nothing : {W : Type 0} (contents : W → Option (List ℕ)) (a : Watched W) → Wrote contents a a []
wrote_nothing contents a = (Appends-nil (contents (watched a)), refl)

-- one write of a watched writer after another
pub wrote_then : {W : Type 0} (contents : W → Option (List ℕ)) (a b c : Watched W) (x y : List ℕ) → Wrote contents a b x → Wrote contents b c y
    → Wrote contents a c (x ++ y)
wrote_then contents a b c x y first second =
    (Appends-trans (contents (watched a)) (contents (watched b)) (contents (watched c)) x y first.0 second.0, second.1 ∙ first.1)
