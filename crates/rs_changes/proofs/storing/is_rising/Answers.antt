use Rattle.std.proofs.Common.{◌≡◌, ◌<◌, ◌≤◌, ◌+◌, ◌-◌, ℕ, suc, List, length, get_or, inl, inr, refl, sym, ap, ◌∙◌, arith, Some}
use Rattle.std.specs.Prelude.{slice_get}
use Rattle.std.proofs.lemmas.Bool.{cases_lt}
use Rattle.std.proofs.lemmas.Map.Keys.{le_from_is_le}
use Rattle.std.proofs.lemmas.Option.{get_or_from_slice_get}
use Rattle.rs_record.specs.declared.change.Change.{Change}
use Rattle.rs_page.specs.Pages.{items_of}
use Rattle.rs_changes.proofs.Rising.{Rises, rising_from, refuted, above}
use Rattle.rs_changes.proofs.storing.is_rising.Goals as goal

pub returns-then-le : goal.returns-then-le
returns-then-le c =
    let changes = items_of c.args.changes.now in
    let i = c.loop-i.i in
    let this = c.at.result.now in
    let other = c.at-in-loop-i.result.now in
    let low : this.moment ≤ other.moment = le_from_is_le this.moment other.moment (sym c.le.ensures ∙ c.if-le.true) in
    let at : (get_or changes i this).moment ≡ this.moment = ap (λ x. x.moment) (get_or_from_slice_get changes i this this c.at.ensures) in
    let before : (get_or changes (i - 1) other).moment ≡ other.moment = ap (λ x. x.moment) (get_or_from_slice_get changes (i - 1) other other c.at-in-loop-i.ensures) in
    (λ h. cc, λ h. absurd (refuted changes i other this (omega arith) (omega (arith, c.len-i-end.ensures.value, c.loop-i-test.true)) (omega (arith, low, at, before)) h))

pub returns : goal.returns
returns c = (λ _. rising_from (items_of c.args.changes.now) (λ k d inside. c.loop-i.invariant k d (omega (arith, c.len-i-end.ensures.value, c.loop-i-test.false, inside))), λ _. refl)

-- neighbours up to this place
rises_here : (changes : List Change) (i : ℕ) (this other : Change) → 1 ≤ i → i < length changes → slice_get changes i ≡ Some this → slice_get changes (i - 1) ≡ Some other
    → other.moment < this.moment → ((k : ℕ) (d : Change) → suc k < i → Rises changes k d) → (k : ℕ) (d : Change) → suc k < i + 1 → Rises changes k d
rises_here changes i this other low high at before rises so_far k d inside = elim (cases_lt (suc k) i) [
  | inl earlier ↦ so_far k d earlier
  | inr here ↦
      let last : suc k ≡ i = omega arith in
      let same : k ≡ i - 1 = omega arith in
      let second : (get_or changes (suc k) d).moment ≡ this.moment = ap (λ n. (get_or changes n d).moment) last ∙ ap (λ x. x.moment) (get_or_from_slice_get changes i this d at) in
      let first : (get_or changes k d).moment ≡ other.moment = ap (λ n. (get_or changes n d).moment) same ∙ ap (λ x. x.moment) (get_or_from_slice_get changes (i - 1) other d before) in
      omega (arith, first, second, rises)
]

pub loop-i-preserved : goal.loop-i-preserved
loop-i-preserved c k d inside =
    rises_here (items_of c.args.changes.now) c.loop-i.i c.at.result.now c.at-in-loop-i.result.now (omega arith) (omega (arith, c.len-i-end.ensures.value, c.loop-i-test.true)) c.at.ensures c.at-in-loop-i.ensures
    (above c.at.result.now.moment c.at-in-loop-i.result.now.moment (sym c.le.ensures ∙ c.if-le.false)) c.loop-i.invariant k d inside
