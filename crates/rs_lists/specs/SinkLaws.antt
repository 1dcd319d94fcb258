-- A writer and a meter are sinks: their `impl`s of `Sink` cite these laws.
use Rattle.std.specs.Prelude.{◌≡◌, ℕ, ◌+◌, ◌<◌, ◌^◌, List, ◌++◌, Option, length}
use Rattle.std.proofs.Common.{arith, refl, sym, ap, ◌∙◌, inl, inr, append_assoc, length-append}
use Rattle.std.proofs.KnownBytes.{Appends-nil, Appends-trans}
use Rattle.rs_io.specs.declared.watch.Watched.{Watched}
use Rattle.rs_io.specs.Watch.{watched, failures, EndFailed, FailedWithin, Wrote}
use Rattle.rs_lists.specs.Sinks.{CountGrowsBy, IsSink}

-- if the first calls did not fail, a later fault is a fault of all of them
fails_later : {T : Type 0} (a b c : Watched T) → failures b ≡ failures a → EndFailed b c → EndFailed a c
fails_later a b c same (inl rose) = inl (omega (arith, ap (λ f. f.all) same, rose))
fails_later a b c same (inr last) = inr last

-- a writer is a sink
pub writer_is_sink : {W : Type 0} (contents : W → Option (List ℕ)) → IsSink (λ (a b : Watched W) (text : List ℕ). Wrote contents a b text) (λ a b text. FailedWithin contents a b text)
writer_is_sink contents = record {
  nothing = λ a. (Appends-nil (contents (watched a)), refl);
  more = λ a b c x y first second. (Appends-trans _ _ _ x y first.0 second.0, second.1 ∙ first.1);
  sooner = λ a b x y h. record {
    failed = h.failed;
    part = h.part;
    left_out = h.left_out ++ y;
    bytes_are = sym (append_assoc h.part h.left_out y) ∙ ap (λ l. l ++ y) h.bytes_are;
    took = h.took;
  };
  later = λ a b c x y first h. record {
    failed = (fails_later a b c first.1 h.failed.0, h.failed.1 ∙ ap (λ f. f.flushes) first.1);
    part = x ++ h.part;
    left_out = h.left_out;
    bytes_are = append_assoc x h.part h.left_out ∙ ap (λ l. x ++ l) h.bytes_are;
    took = Appends-trans _ _ _ x h.part first.0 h.took;
  };
}

-- a meter is a sink that never fails
pub meter_is_sink : {M : Type 0} (counted : M → ℕ) → IsSink {S = M} (λ a b text. CountGrowsBy (counted a) (counted b) text) (λ a b text. ⊥)
meter_is_sink counted = record {
  nothing = λ a. record { exact = λ h. omega arith };
  more = λ a b c x y first second. record {
    exact = λ h.
        let both = length-append x y in
        let p : counted a + length x < 2 ^ 64 = omega arith in
        let e : counted b ≡ counted a + length x = first.exact p in
        let q : counted b + length y < 2 ^ 64 = omega arith in
        let d : counted c ≡ counted b + length y = second.exact q in
        omega arith;
  };
  sooner = λ a b x y never. never;
  later = λ a b c x y first never. never;
}
