-- Walks cut in two: the states at their points, the changes recorded by then, and those of them that are kept.
use Rattle.std.proofs.Common.{◌≡◌, ℕ, ◌-◌, ◌*◌, ◌≤◌, List, ◌++◌, length, take, drop, sym, ap, ◌∙◌, subst, arith, length-append, length-take, length-drop}
use Rattle.std.specs.List.{AllByRecursion}
use Rattle.std.proofs.lemmas.List.{take-append-drop, take-take}
use Rattle.rs_record.specs.declared.record.Record.{Record}
use Rattle.rs_record.specs.declared.change.Change.{Change}
use Rattle.rs_model.specs.declared.event.Event.{Event}
use Rattle.rs_model.specs.LaterChanges.{KeepsChanges}
use Rattle.rs_model.specs.Lawful.{IsLawful}
use Rattle.rs_model.specs.State.{Source, start_of}
use Rattle.rs_model.specs.Step.{fold_of}
use Rattle.rs_model.specs.Walk.{walk_of, state_at, commands_of, IsLawfulEvent, recorded, count_at}
use Rattle.rs_model.specs.WalkLaws.{WalksAreFolds, WalksStayLawful, ChangesAreRecorded, HeldThenIsCatalogued, KeptListIsFollowed, EachCountIsPassed}
use Rattle.rs_lists.specs.Laws.{PartsAreChunks}
use Rattle.rs_caps.proofs.FromBelow.{all_taken, recorded-append, recorded_first, walk-append}

-- the laws of walks and of parts on which the laws of destinations depend
pub record AreLaws : Type 0 where
  pub listed_chunks : PartsAreChunks Record
  pub change_chunks : PartsAreChunks Change
  pub folds : WalksAreFolds
  pub lawful : WalksStayLawful
  pub recorded : ChangesAreRecorded
  pub held_then : HeldThenIsCatalogued
  pub followed : KeptListIsFollowed
  pub passed : EachCountIsPassed

-- the first j events are the first i of them, and then others
cut : (events : List Event) (i j : ℕ) → i ≤ j → take j events ≡ take i events ++ drop i (take j events)
cut events i j h =
    sym (ap (λ l. l ++ drop i (take j events)) (sym (take-take i j events h)) ∙ take-append-drop i (take j events))

-- a later state of a walk, by the commands done in between
pub folded : WalksAreFolds → (s : Source) (events : List Event) (i j : ℕ) → i ≤ j
    → state_at s events j ≡ fold_of (state_at s events i) (commands_of (drop i (take j events)))
folded folds s events i j h =
    let more : List Event = drop i (take j events) in
    ap (walk_of s) (cut events i j h) ∙ walk-append s (take i events) more ∙ folds (state_at s events i) more

pub lawful_at : WalksStayLawful → (s : Source) (events : List Event) (i : ℕ) → IsLawful s → AllByRecursion IsLawfulEvent events
    → IsLawful (state_at s events i)
lawful_at lawful s events i l h = lawful s (take i events) l (all_taken IsLawfulEvent i events h)

-- no fewer are recorded later, and no more than all
pub count_between : (s : Source) (events : List Event) (i j : ℕ) → i ≤ j → count_at s events i ≤ count_at s events j
count_between s events i j h =
    let more : List Change = recorded (state_at s events i) (drop i (take j events)) in
    let joined : recorded s (take j events) ≡ recorded s (take i events) ++ more =
    ap (recorded s) (cut events i j h) ∙ recorded-append s (take i events) (drop i (take j events)) in
    omega (arith, ap length joined, length-append (recorded s (take i events)) more)

pub count_of_all : (s : Source) (events : List Event) (i : ℕ) → count_at s events i ≤ length (recorded s events)
count_of_all s events i = omega (arith, ap length (recorded_first s events i), length-take (count_at s events i) (recorded s events))

-- The changes of this state are the first n, without the parts below its first.
pub record IsKept (all : List Change) (limit n : ℕ) (t : Source) : Type 0 where
  pub same_limit : t.limit ≡ limit
  pub within : t.first * limit ≤ n
  pub changes : t.changes ≡ drop (t.first * limit) (take n all)

pub kept_at : ChangesAreRecorded → (base : List ℕ) (limit moment : ℕ) (events : List Event) (i : ℕ)
    → let s = start_of base limit moment in IsKept (recorded s events) limit (count_at s events i) (state_at s events i)
kept_at recorded_law base limit moment events i =
    let s : Source = start_of base limit moment in
    let t : Source = state_at s events i in
    let k : KeepsChanges s (recorded s (take i events)) t = recorded_law s (take i events) in
    let e : t.first - 0 ≡ t.first = omega arith in
    record {
      same_limit = k.limit;
      within = subst (λ f. f * limit ≤ count_at s events i) e k.within;
      changes =
          k.changes ∙ ap (λ f. drop (f * limit) (recorded s (take i events))) e
          ∙ ap (drop (t.first * limit)) (sym (recorded_first s events i));
    }

-- the number of these changes
pub kept_count : (all : List Change) (limit n : ℕ) (t : Source) → IsKept all limit n t → n ≤ length all
    → length t.changes ≡ n - t.first * limit
kept_count all limit n t k h =
    omega (arith, ap length k.changes, length-drop (t.first * limit) (take n all), length-take n all)
