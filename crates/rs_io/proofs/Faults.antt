-- Faults of writers of several pieces. The pieces before and after a fault make up the text of the whole run:
-- `failed_first` is for the first piece, `failed_then` for a piece after others, `failed_each` for a loop over a list.
use Rattle.std.proofs.Common.{◌≡◌, ℕ, ◌+◌, ◌<◌, List, [], ◌++◌, take, drop, length, Option, get_or, refl, sym, ap, ◌∙◌, subst, inl, inr, append_assoc, take-append-drop, arith}
use Rattle.std.specs.Prelude.{Result, Ok, Err, OnOk, OnErr}
use Rattle.std.specs.List.{flat_map}
use Rattle.std.specs.Result.{IsErr}
use Rattle.std.specs.Io.KnownBytes.{Keeps}
use Rattle.std.proofs.KnownBytes.{Appends-nil, Appends-trans, Appends-kept}
use Rattle.std.proofs.lemmas.Grind.{flat_map-append}
use Rattle.std.proofs.lemmas.Result.{IfOk-from_err}
use Rattle.rs_io.specs.declared.watch.Watched.{Watched}
use Rattle.rs_io.specs.Watch.{watched, failures, EndFailed, PutFailed, FailedWithin, FailedAfter, Wrote, WritesOut}
use Rattle.rs_io.proofs.Growth.{appends_same, wrote_then, flat_map-next}

-- a fault after calls that did not fail is a fault of the whole run
pub later_fault : {T : Type 0} (a b c : Watched T) → failures b ≡ failures a → EndFailed b c → EndFailed a c
later_fault a b c same (inl rose) = inl (omega (arith, ap (λ f. f.all) same, rose))
later_fault a b c same (inr last) = inr last

-- the same for a put
pub later_put_fault : {T : Type 0} (a b c : Watched T) → failures b ≡ failures a → PutFailed b c → PutFailed a c
later_put_fault a b c same fault = (later_fault a b c same fault.0, fault.1 ∙ ap (λ f. f.flushes) same)

-- a proved fact, as a clause on a failed call
pub on_fault : {X E P : Type 0} (r : Result X E) → P → OnErr r P
on_fault (Ok v) p = tt
on_fault (Err e) p = p

module _ {W : Type 0} (contents : W → Option (List ℕ)) where
  -- the same text, written another way
  pub failed_same : (a b : Watched W) (x y : List ℕ) → FailedWithin contents a b x → x ≡ y → FailedWithin contents a b y
  failed_same a b x y h e = subst (FailedWithin contents a b) e h

  -- a call failed and took no byte
  pub failed_at_once : (a b : Watched W) (text : List ℕ) → Keeps (contents (watched a)) (contents (watched b)) → PutFailed a b → FailedWithin contents a b text
  failed_at_once a b text kept fault =
      record { failed = fault; part = []; left_out = text; bytes_are = refl; took = Appends-kept _ _ _ [] (Appends-nil (contents (watched a))) kept }

  -- a fault of the first piece of several
  pub failed_first : (a b : Watched W) (x rest t : List ℕ) → FailedWithin contents a b x → x ++ rest ≡ t → FailedWithin contents a b t
  failed_first a b x rest t h e =
      record {
        failed = h.failed;
        part = h.part;
        left_out = h.left_out ++ rest;
        bytes_are = sym (append_assoc h.part h.left_out rest) ∙ ap (λ l. l ++ rest) h.bytes_are ∙ e;
        took = h.took;
      }

  -- a fault of the last piece, after whole pieces
  pub failed_last : (a b c : Watched W) (x y t : List ℕ) → Wrote contents a b x → FailedWithin contents b c y → x ++ y ≡ t → FailedWithin contents a c t
  failed_last a b c x y t whole h e =
      record {
        failed = later_put_fault a b c whole.1 h.failed;
        part = x ++ h.part;
        left_out = h.left_out;
        bytes_are = append_assoc x h.part h.left_out ∙ ap (λ l. x ++ l) h.bytes_are ∙ e;
        took = Appends-trans _ _ _ x h.part whole.0 h.took;
      }

  -- the same, where the last piece may fail
  pub on_failed_last : {X E : Type 0} (r : Result X E) (a b c : Watched W) (x y t : List ℕ) → Wrote contents a b x → OnErr r (FailedWithin contents b c y) → x ++ y ≡ t
      → OnErr r (FailedWithin contents a c t)
  on_failed_last (Ok v) a b c x y t whole h e = tt
  on_failed_last (Err v) a b c x y t whole h e = failed_last a b c x y t whole h e

  -- a fault of a piece between others
  pub failed_then : (a b c : Watched W) (x y rest t : List ℕ) → Wrote contents a b x → FailedWithin contents b c y → x ++ (y ++ rest) ≡ t → FailedWithin contents a c t
  failed_then a b c x y rest t whole h e = failed_last a b c x (y ++ rest) t whole (failed_first b c y rest (y ++ rest) h refl) e

  -- a loop over a list that writes a text for every element, and fails at one of them
  pub failed_each : {A : Type 0} (f : A → List ℕ) (xs : List A) (i : ℕ) (x : A) (a b c : Watched W) → i < length xs → x ≡ get_or xs i x
      → Wrote contents a b (flat_map f (take i xs)) → FailedWithin contents b c (f x) → FailedWithin contents a c (flat_map f xs)
  failed_each f xs i x a b c h e whole fault =
      failed_first a c _ (flat_map f (drop (i + 1) xs)) _
      (failed_last a b c (flat_map f (take i xs)) (f x) _ whole fault (flat_map-next f xs i x h e))
      (sym (flat_map-append f (take (i + 1) xs) (drop (i + 1) xs)) ∙ ap (flat_map f) (take-append-drop (i + 1) xs))

  -- a call that may fail took the whole text, or failed within it
  pub writes_either : {X E : Type 0} (r : Result X E) (a b : Watched W) (text : List ℕ) → OnOk r (Wrote contents a b text) → OnErr r (FailedWithin contents a b text)
      → WritesOut contents a b r text
  writes_either (Ok v) a b text whole fault = whole
  writes_either (Err e) a b text whole fault = fault

  -- the last piece of several
  pub writes_then : {X E : Type 0} (r : Result X E) (a b c : Watched W) (x y t : List ℕ) → Wrote contents a b x → WritesOut contents b c r y → x ++ y ≡ t → WritesOut contents a c r t
  writes_then (Ok v) a b c x y t whole next e = (appends_same _ _ (x ++ y) t (wrote_then contents a b c x y whole next).0 e, (wrote_then contents a b c x y whole next).1)
  writes_then (Err v) a b c x y t whole next e = failed_last a b c x y t whole next e

  -- the same text, written another way
  pub writes_same : {X E : Type 0} (r : Result X E) (a b : Watched W) (x y : List ℕ) → WritesOut contents a b r x → x ≡ y → WritesOut contents a b r y
  writes_same r a b x y h e = let P : List ℕ → Type 0 = λ l. WritesOut contents a b r l in subst P e h

  -- a fault within a text, after whole pieces
  pub failed_after : (a b c : Watched W) (first text : List ℕ) → Wrote contents a b first → FailedWithin contents b c text → FailedAfter contents a c first text
  failed_after a b c first text whole h =
      record {
        failed = later_put_fault a b c whole.1 h.failed;
        part = h.part;
        left_out = h.left_out;
        bytes_are = h.bytes_are;
        took = Appends-trans _ _ _ first h.part whole.0 h.took;
      }

  -- the first piece of several failed, and so the whole call
  pub stops_first : {X E : Type 0} (r : Result X E) (a b : Watched W) (x rest t : List ℕ) → IsErr r → FailedWithin contents a b x → x ++ rest ≡ t → WritesOut contents a b r t
  stops_first {X = X} {E = E} (Ok v) a b x rest t is h e = absurd (IfOk-from_err {E = E} (Ok v) (λ _. ⊥) is)
  stops_first (Err v) a b x rest t is h e = failed_first a b x rest t h e

  -- a piece between others failed
  pub stops_then : {X E : Type 0} (r : Result X E) (a b c : Watched W) (x y rest t : List ℕ) → IsErr r → Wrote contents a b x → FailedWithin contents b c y → x ++ (y ++ rest) ≡ t → WritesOut contents a c r t
  stops_then {X = X} {E = E} (Ok v) a b c x y rest t is whole h e = absurd (IfOk-from_err {E = E} (Ok v) (λ _. ⊥) is)
  stops_then (Err v) a b c x y rest t is whole h e = failed_then a b c x y rest t whole h e

  -- the last piece of several, given by one fact for each outcome
  pub writes_last : {X E : Type 0} (r : Result X E) (a b c : Watched W) (x y t : List ℕ) → Wrote contents a b x → OnOk r (Wrote contents b c y) → OnErr r (FailedWithin contents b c y) → x ++ y ≡ t
      → WritesOut contents a c r t
  writes_last r a b c x y t whole ok fault e = writes_then r a b c x y t whole (writes_either r b c y ok fault) e
