-- The bytes that several writes append.
use Rattle.std.proofs.Common.{ℕ, List, ◌++◌, Option, Result, OnOk}
use Rattle.std.proofs.lemmas.Result.{on_ok_weaker}
use Rattle.rs_io.specs.declared.watch.Watched.{Watched}
use Rattle.rs_io.specs.Watch.{Wrote}
use Rattle.rs_http.proofs.FromBelow.{wrote_then}

module _ {W T E : Type 0} (contents : W → Option (List ℕ)) (last : Result T E) where
  pub two : (w x y : Watched W) (a b : List ℕ) → Wrote contents w x a → OnOk last (Wrote contents x y b) → OnOk last (Wrote contents w y (a ++ b))
  two w x y a b h k =
      on_ok_weaker last (λ (l : Wrote contents x y b). wrote_then contents w x y a b h l) k

  pub three : (w x y z : Watched W) (a b c : List ℕ) → Wrote contents w x a → Wrote contents x y b → OnOk last (Wrote contents y z c)
      → OnOk last (Wrote contents w z (a ++ (b ++ c)))
  three w x y z a b c h k l = two w x z a (b ++ c) h (two x y z b c k l)
