-- Sinks that take one text after another, where a call may fail within its text.
use Rattle.std.proofs.Common.{◌≡◌, ℕ, ◌+◌, ◌<◌, List, ◌++◌, length, take, drop, get_or, sym, ap, ◌∙◌, subst, append_assoc, take-append-drop}
use Rattle.std.specs.Prelude.{Result, Ok, Err}
use Rattle.std.specs.Result.{IsErr}
use Rattle.std.specs.List.{flat_map}
use Rattle.std.proofs.lemmas.Grind.{flat_map-append}
use Rattle.std.proofs.lemmas.Result.{IfOk-from_err}
use Rattle.rs_lists.proofs.FromBelow.{flat_map-next}
use Rattle.rs_lists.specs.Sinks.{IsSink, Puts}

module _ {S : Type 0} {R F : S → S → List ℕ → Type 0} where
  -- two texts in a row
  pub in_turn : {a b c : S} {x y t : List ℕ} → IsSink R F → R a b x → R b c y → x ++ y ≡ t → R a c t
  in_turn {a = a} {b = b} {c = c} {x = x} {y = y} sink p q e = subst (R a c) e (sink.more a b c x y p q)

module _ {S X E : Type 0} {R F : S → S → List ℕ → Type 0} where
  -- the same text, written another way
  pub puts_same : {r : Result X E} {a b : S} {x y : List ℕ} → Puts R F a b r x → x ≡ y → Puts R F a b r y
  puts_same {r = r} {a = a} {b = b} p e = subst (Puts R F a b r) e p

  -- the last of two texts
  pub puts_last : {r : Result X E} {a b c : S} {x y t : List ℕ} → IsSink R F → R a b x → Puts R F b c r y → x ++ y ≡ t → Puts R F a c r t
  puts_last {r = Ok v} sink p q e = record { took = in_turn sink p q.took e; failed = tt }
  puts_last {r = Err v} {a = a} {b = b} {c = c} {x = x} {y = y} sink p q e = record { took = tt; failed = subst (F a c) e (sink.later a b c x y p q.failed) }

  -- a failure of the first of several, and of one between others
  pub stops_first : {r : Result X E} {a b : S} {x t : List ℕ} (rest : List ℕ) → IsSink R F → IsErr r → F a b x → x ++ rest ≡ t → Puts R F a b r t
  stops_first {r = Ok v} rest sink is h e = absurd (IfOk-from_err {E = E} (Ok v) (λ _. ⊥) is)
  stops_first {r = Err v} {a = a} {b = b} {x = x} rest sink is h e = record { took = tt; failed = subst (F a b) e (sink.sooner a b x rest h) }

  pub stops_then : {r : Result X E} {a b c : S} {x y t : List ℕ} (rest : List ℕ) → IsSink R F → IsErr r → R a b x → F b c y → (x ++ y) ++ rest ≡ t → Puts R F a c r t
  stops_then {a = a} {b = b} {c = c} {x = x} {y = y} rest sink is p h e = stops_first rest sink is (sink.later a b c x y p h) e

  -- of one in a list
  pub stops_each : {T : Type 0} {r : Result X E} (f : T → List ℕ) (ts : List T) (i : ℕ) (u : T) (a b c : S) → IsSink R F → IsErr r → i < length ts → u ≡ get_or ts i u
      → R a b (flat_map f (take i ts)) → F b c (f u) → Puts R F a c r (flat_map f ts)
  stops_each f ts i u a b c sink is h e p fault =
      let rest = flat_map f (drop (i + 1) ts) in
      stops_then rest sink is p fault
      (ap (λ l. l ++ rest) (flat_map-next f ts i u h e) ∙ sym (flat_map-append f (take (i + 1) ts) (drop (i + 1) ts)) ∙ ap (flat_map f) (take-append-drop (i + 1) ts))

  -- the first, the second, the third and the last of four
  pub stops_first_of_four : {r : Result X E} {a b : S} {x t : List ℕ} (y z w : List ℕ) → IsSink R F → IsErr r → F a b x → ((x ++ y) ++ z) ++ w ≡ t → Puts R F a b r t
  stops_first_of_four {x = x} y z w sink is h e = stops_first (y ++ (z ++ w)) sink is h (sym (append_assoc x y (z ++ w)) ∙ sym (append_assoc (x ++ y) z w) ∙ e)

  pub stops_second_of_four : {r : Result X E} {a b c : S} {x y t : List ℕ} (z w : List ℕ) → IsSink R F → IsErr r → R a b x → F b c y → ((x ++ y) ++ z) ++ w ≡ t → Puts R F a c r t
  stops_second_of_four {x = x} {y = y} z w sink is p h e = stops_then (z ++ w) sink is p h (sym (append_assoc (x ++ y) z w) ∙ e)

  pub stops_third_of_four : {r : Result X E} {a b c d : S} {x y z t : List ℕ} (w : List ℕ) → IsSink R F → IsErr r → R a b x → R b c y → F c d z → ((x ++ y) ++ z) ++ w ≡ t → Puts R F a d r t
  stops_third_of_four {a = a} {b = b} {c = c} {x = x} {y = y} w sink is p q h e = stops_then w sink is (sink.more a b c x y p q) h e

  pub puts_four : {r : Result X E} {a b c d e : S} {x y z w t : List ℕ} → IsSink R F → R a b x → R b c y → R c d z → Puts R F d e r w → ((x ++ y) ++ z) ++ w ≡ t → Puts R F a e r t
  puts_four {a = a} {b = b} {c = c} {d = d} {x = x} {y = y} {z = z} sink p q h k same = puts_last sink (sink.more a c d (x ++ y) z (sink.more a b c x y p q) h) k same
