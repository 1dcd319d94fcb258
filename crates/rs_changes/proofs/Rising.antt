-- Moments that strictly rise, by pairs of neighbours.
use Rattle.std.proofs.Common.{◌≡◌, ℕ, zero, suc, ◌<◌, ◌≤◌, ◌+◌, ◌-◌, List, [], ◌∷◌, ◌++◌, length, drop, get_or, true, false, true≢false, refl, sym, ap, ◌∙◌, subst, arith, length-append, length-drop}
use Rattle.std.specs.Prelude.{IsTrue, nat_lt, slice_get, IfSome}
use Rattle.std.specs.Cmp.{first_so, second_so, ranked}
use Rattle.std.specs.Ordering.{is_le, nat_cmp}
use Rattle.std.proofs.lemmas.Cmp.{by_ranked}
use Rattle.std.proofs.lemmas.Bool.{and_from}
use Rattle.std.proofs.lemmas.Bool.Decides.{nat_tests}
use Rattle.std.proofs.lemmas.Option.{get_or_from_slice_get, slice_get-get_or}
use Rattle.rs_record.specs.declared.change.Change.{Change}
use Rattle.rs_model.specs.Regular.{is_rising, rises_from}
use Rattle.rs_changes.specs.History.{last_of, AreKept}

is_below : (a b : ℕ) → a < b → IsTrue (nat_lt a b)
is_below a b h = grind (arith, nat_tests)

below_of : (a b : ℕ) → IsTrue (nat_lt a b) → a < b
below_of a b h = grind (arith, nat_tests)

-- a number that is not up to another is above it
pub above : (a b : ℕ) → is_le (nat_cmp a b) ≡ false → b < a
above a b h =
    by_ranked (a < b) (a ≡ b) (b < a) (nat_cmp a b) (ranked a b _ refl) (λ e _. absurd (true≢false (sym (ap is_le e) ∙ h))) (λ e _. absurd (true≢false (sym (ap is_le e) ∙ h))) (λ _ l. l)

-- the moment at a place is below the next one
abbrev pub Rises : List Change → ℕ → Change → Type 0
Rises changes k d = (get_or changes k d).moment < (get_or changes (suc k) d).moment

pub rising_from : (changes : List Change) → ((k : ℕ) (d : Change) → suc k < length changes → Rises changes k d) → IsTrue (is_rising changes)
rising_from [] h = refl
rising_from (x ∷ []) h = refl
rising_from (x ∷ y ∷ changes) h =
    and_from (nat_lt x.moment y.moment) (rises_from y.moment changes) (is_below x.moment y.moment (h 0 x (omega arith))) (rising_from (y ∷ changes) (λ k d inside. h (suc k) d (omega arith)))

pub rises_at : (changes : List Change) (k : ℕ) (d : Change) → IsTrue (is_rising changes) → suc k < length changes → Rises changes k d
rises_at [] k d h inside = absurd (omega arith)
rises_at (x ∷ []) k d h inside = absurd (omega arith)
rises_at (x ∷ y ∷ changes) zero d h inside = below_of x.moment y.moment (first_so (nat_lt x.moment y.moment) (rises_from y.moment changes) h)
rises_at (x ∷ y ∷ changes) (suc k) d h inside =
    rises_at (y ∷ changes) k d (second_so (nat_lt x.moment y.moment) (rises_from y.moment changes) h) (omega arith)

-- within a list the default does not matter
get_or-agree : (changes : List Change) (i : ℕ) (d e : Change) → i < length changes → get_or changes i d ≡ get_or changes i e
get_or-agree changes i d e h = sym (get_or_from_slice_get changes i (get_or changes i d) e (slice_get-get_or changes i d h))

-- two neighbours that do not rise
pub refuted : (changes : List Change) (i : ℕ) (a b : Change) → 1 ≤ i → i < length changes
    → (get_or changes i b).moment ≤ (get_or changes (i - 1) a).moment → IsTrue (is_rising changes) → ⊥
refuted changes i a b low high falls h =
    let k = i - 1 in
    let next : suc k ≡ i = omega arith in
    let same : (get_or changes i b).moment ≡ (get_or changes i a).moment = ap (λ c. c.moment) (get_or-agree changes i b a high) in
    let rises : (get_or changes k a).moment < (get_or changes (suc k) a).moment = rises_at changes k a h (omega arith) in
    let there : (get_or changes k a).moment < (get_or changes i a).moment =
    subst (λ (j : ℕ). (get_or changes k a).moment < (get_or changes j a).moment) next rises in
    omega (arith, falls, there, same)

-- a change after the last one
pub rising-append : (changes : List Change) (c : Change) → IsTrue (is_rising changes) → IfSome (last_of changes) (λ last. last.moment < c.moment) → IsTrue (is_rising (changes ++ c ∷ []))
rising-append [] c h below = refl
rising-append (x ∷ []) c h below = and_from (nat_lt x.moment c.moment) true (is_below x.moment c.moment below) refl
rising-append (x ∷ y ∷ changes) c h below =
    let next : length (x ∷ y ∷ changes) - 1 ≡ suc (length (y ∷ changes) - 1) = omega arith in
    let later : IfSome (last_of (y ∷ changes)) (λ last. last.moment < c.moment) =
    subst (λ (i : ℕ). IfSome (slice_get (x ∷ y ∷ changes) i) (λ last. last.moment < c.moment)) next below in
    and_from (nat_lt x.moment y.moment) (rises_from y.moment (changes ++ c ∷ []))
    (first_so (nat_lt x.moment y.moment) (rises_from y.moment changes) h)
    (rising-append (y ∷ changes) c (second_so (nat_lt x.moment y.moment) (rises_from y.moment changes) h) later)

pub kept-append : (old new : List Change) (c : Change) → AreKept old → IfSome (last_of old) (λ last. last.moment < c.moment) → length old < 50000 → new ≡ old ++ c ∷ [] → AreKept new
kept-append old new c kept rises room is =
    let sizes : length new ≡ length old + 1 = ap length is ∙ length-append old (c ∷ []) in
    record {
      rising = rw is (rising-append old c kept.rising rises);
      room = omega (arith, sizes, room);
    }

-- the later ones of rising changes rise
pub rising_drop : (n : ℕ) (changes : List Change) → IsTrue (is_rising changes) → IsTrue (is_rising (drop n changes))
rising_drop zero changes h = h
rising_drop (suc n) [] h = h
rising_drop (suc n) (x ∷ []) h = rising_drop n [] refl
rising_drop (suc n) (x ∷ y ∷ changes) h = rising_drop n (y ∷ changes) (second_so (nat_lt x.moment y.moment) (rises_from y.moment changes) h)

pub kept_drop : (n : ℕ) (old new : List Change) → AreKept old → new ≡ drop n old → AreKept new
kept_drop n old new kept is =
    let later : AreKept (drop n old) = record { rising = rising_drop n old kept.rising; room = omega (arith, length-drop n old, kept.room) } in
    subst AreKept (sym is) later
