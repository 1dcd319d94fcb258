-- The mirror, and the entries of the held resources.
use Rattle.std.proofs.Common.{◌≡◌, ℕ, ◌<◌, ◌≤◌, List, [], ◌∷◌, ◌++◌, Bool, true, false, cond, nat_lt, refl, ap, ◌∙◌, arith}
use Rattle.std.specs.Prelude.{IsTrue}
use Rattle.std.specs.Cmp.{first_so, second_so}
use Rattle.std.specs.List.{AllByRecursion}
use Rattle.std.proofs.lemmas.Bool.{and_from}
use Rattle.std.proofs.lemmas.Bool.Decides.{nat_tests}
use Rattle.std.specs.declared.cmp.Ordering.{Ordering}
use Rattle.std.specs.declared.cmp.Ordering.TheVariants.{Less, Equal, Greater}
use Rattle.rs_record.specs.declared.change.Change.{Change}
use Rattle.rs_model.specs.declared.value.Entry.{Entry}
use Rattle.rs_model.specs.declared.value.Held.{Held}
use Rattle.rs_model.specs.Names.{Names, by_bytes, by_order, bind, unbind}
use Rattle.rs_model.specs.State.{entries}
use Rattle.rs_model.specs.Step.{applied, mirror_of}
use Rattle.rs_model.specs.Regular.{is_rising, rises_from, IsChangeUpTo}

before : (b : Bool) (n m : ℕ) → nat_lt n m ≡ b → n < m → b ≡ true
before true n m e h = refl
before false n m e h = absurd (grind (arith, nat_tests))

not_before : (b : Bool) (n m : ℕ) → nat_lt n m ≡ b → m ≤ n → b ≡ false
not_before true n m e h = absurd (grind (arith, nat_tests))
not_before false n m e h = refl

pub below : (n m : ℕ) → n < m → IsTrue (nat_lt n m)
below n m h = grind (arith, nat_tests)

-- one more change, above all others
pub rises-append : (low last : ℕ) (cs : List Change) (c : Change) → IsTrue (rises_from low cs) → low ≤ last → AllByRecursion (IsChangeUpTo last) cs
    → last < c.moment → IsTrue (rises_from low (cs ++ c ∷ []))
rises-append low last [] c h k m later = and_from _ _ (below low c.moment (omega (arith, k, later))) refl
rises-append low last (d ∷ cs) c h k m later =
    and_from _ _ (first_so _ _ h) (rises-append d.moment last cs c (second_so (nat_lt low d.moment) _ h) m.0 m.1 later)

pub rising-append : (last : ℕ) (cs : List Change) (c : Change) → IsTrue (is_rising cs) → AllByRecursion (IsChangeUpTo last) cs
    → last < c.moment → IsTrue (is_rising (cs ++ c ∷ []))
rising-append last [] c h m later = refl
rising-append last (d ∷ cs) c h m later = rises-append d.moment last cs c h m.0 m.1 later

-- one more change, after the list's moment
pub mirror-append : (m : Names Entry) (at : ℕ) (cs : List Change) (c : Change) → at < c.moment → mirror_of m at (cs ++ c ∷ []) ≡ applied c.facts c (mirror_of m at cs)
mirror-append m at [] c h = ap (λ b. cond b (applied c.facts c m) m) (before _ at c.moment refl h)
mirror-append m at (d ∷ cs) c h = mirror-append (cond (nat_lt at d.moment) (applied d.facts d m) m) at cs c h

-- changes that are not after the list's moment
pub mirror_before : (m : Names Entry) (at : ℕ) (cs : List Change) → AllByRecursion (IsChangeUpTo at) cs → mirror_of m at cs ≡ m
mirror_before m at [] h = refl
mirror_before m at (c ∷ cs) h =
    ap (λ b. mirror_of (cond b (applied c.facts c m) m) at cs) (not_before _ at c.moment refl h.0) ∙ mirror_before m at cs h.1

one_case : (r : Ordering) (a b c : Names Held) (a' b' c' : Names Entry) → entries a ≡ a' → entries b ≡ b' → entries c ≡ c' → entries (by_order r a b c) ≡ by_order r a' b' c'
one_case Less a b c a' b' c' x y z = x
one_case Equal a b c a' b' c' x y z = y
one_case Greater a b c a' b' c' x y z = z

pub entries-bind : (name : List ℕ) (h : Held) (held : Names Held) → entries (bind name h held) ≡ bind name h.entry (entries held)
entries-bind name h [] = refl
entries-bind name h (e ∷ held) =
    one_case (by_bytes name e.0) ((name, h) ∷ e ∷ held) ((name, h) ∷ held) (e ∷ bind name h held) _ _ _ refl refl (ap (λ (m : Names Entry). (e.0, e.1.entry) ∷ m) (entries-bind name h held))

pub entries-unbind : (name : List ℕ) (held : Names Held) → entries (unbind name held) ≡ unbind name (entries held)
entries-unbind name [] = refl
entries-unbind name (e ∷ held) =
    one_case (by_bytes name e.0) (e ∷ held) held (e ∷ unbind name held) _ _ _ refl refl (ap (λ (m : Names Entry). (e.0, e.1.entry) ∷ m) (entries-unbind name held))
