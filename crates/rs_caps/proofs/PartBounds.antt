-- The changes of a part lie between its bounds.
use Rattle.std.proofs.Common.{◌≡◌, ℕ, ◌+◌, ◌*◌, ◌<◌, ◌≤◌, List, [], ◌∷◌, ◌++◌, take, drop, sym, ap, ◌∙◌, arith, subst}
use Rattle.std.specs.Prelude.{IsTrue}
use Rattle.std.specs.List.{AllByRecursion}
use Rattle.std.proofs.lemmas.List.{take-append-drop}
use Rattle.std.proofs.Math.Seq.{take-add}
use Rattle.rs_record.specs.declared.change.Change.{Change}
use Rattle.rs_record.specs.Changes.{last_moment}
use Rattle.rs_model.specs.State.{Source}
use Rattle.rs_model.specs.Regular.{IsRegular, rises_from}
use Rattle.rs_lists.specs.Chunks.{part_at}
use Rattle.rs_lists.specs.Text.{from_of}
use Rattle.rs_caps.specs.Shows.{shown_of}
use Rattle.rs_caps.proofs.Elements.{all_both}
use Rattle.rs_caps.proofs.FromBelow.{all_after, all_taken, first_rises, last_joined, rises_after}

rising_after : (low : ℕ) (a b : List Change) → IsTrue (rises_from low (a ++ b)) → IsTrue (rises_from (last_moment low a) b)
rising_after low [] b h = h
rising_after low (c ∷ a) b h = rising_after c.moment a b (first_rises low c (a ++ b) h).1

not_before : (low : ℕ) (a b : List Change) → IsTrue (rises_from low (a ++ b)) → low ≤ last_moment low a
not_before low [] b h = omega arith
not_before low (c ∷ a) b h = let first = first_rises low c (a ++ b) h in omega (arith, first.0, not_before c.moment a b first.1)

up_to : (low : ℕ) (a b : List Change) → IsTrue (rises_from low (a ++ b)) → AllByRecursion (λ c. c.moment ≤ last_moment low a) a
up_to low [] b h = tt
up_to low (c ∷ a) b h = let first = first_rises low c (a ++ b) h in (not_before c.moment a b first.1, up_to c.moment a b first.1)

pub parts_bounded : (s : Source) (k : ℕ) → IsRegular s
    → AllByRecursion (λ c. (from_of (shown_of s) k < c.moment) × (c.moment ≤ from_of (shown_of s) (k + 1))) (part_at k s.limit s.changes)
parts_bounded s k r =
    let front : List Change = take (k * s.limit) s.changes in
    let rest : List Change = drop (k * s.limit) s.changes in
    let part : List Change = take s.limit rest in
    let low : ℕ = last_moment s.begin front in
    let Rising : ℕ → List Change → Type 0 = λ from l. IsTrue (rises_from from l) in
    let whole : Rising s.begin s.changes = rises_after s.begin s.changes r.rising r.after in
    let rising : Rising low rest = rising_after s.begin front rest
    (subst (Rising s.begin) (sym (take-append-drop (k * s.limit) s.changes)) whole) in
    let split : Rising low (part ++ drop s.limit rest) = subst (Rising low) (sym (take-append-drop s.limit rest)) rising in
    let d : (k + 1) * s.limit ≡ k * s.limit + s.limit = grind arith in
    let end : last_moment low part ≡ from_of (shown_of s) (k + 1) =
    sym (ap (λ n. last_moment s.begin (take n s.changes)) d ∙ ap (last_moment s.begin) (take-add (k * s.limit) s.limit s.changes)
    ∙ last_joined s.begin front part) in
    let UpTo : ℕ → Type 0 = λ t. AllByRecursion (λ c. c.moment ≤ t) part in
    all_both (λ c. low < c.moment) (λ c. c.moment ≤ from_of (shown_of s) (k + 1)) part
    (all_taken (λ c. low < c.moment) s.limit rest (all_after low low rest (omega arith) rising))
    (subst UpTo end (up_to low part (drop s.limit rest) split))
