-- The part of a script's answers that a failed writer took.
use Rattle.std.specs.Prelude.{◌≡◌, ◌⊎◌, ℕ, ◌+◌, ◌≤◌, false, List, [], ◌∷◌, ◌++◌, Option}
use Rattle.std.specs.Io.KnownBytes.{Appends}
use Rattle.rs_io.specs.declared.watch.Watched.{Watched}
use Rattle.rs_io.specs.Watch.{watched, failures, is_broken, FailedAfter, FlushFailed}
use Rattle.rs_script.specs.Answers.{outcome_text, output_of}
use Rattle.rs_script.specs.Session.{LineOutcome}

-- A write failed within the last answer, and no flush failed. The writer took all earlier answers whole.
pub record BreaksLast {W : Type 0} (contents : W → Option (List ℕ)) (old new : Watched W) (outcomes : List LineOutcome) : Type 0 where
  pub whole : List LineOutcome
  pub last : LineOutcome
  pub outcomes_are : outcomes ≡ whole ++ last ∷ []
  pub failed : FailedAfter contents old new (output_of whole) (outcome_text last)

-- A writer that had not failed before failed within the last answer.
pub record BreaksAnswer {W : Type 0} (contents : W → Option (List ℕ)) (old new : Watched W) (outcomes : List LineOutcome) : Type 0 where
  pub sound : is_broken old ≡ false
  pub within : BreaksLast contents old new outcomes

-- A flush failed, and no other call. The writer took all answers whole.
pub record BreaksAfter {W : Type 0} (contents : W → Option (List ℕ)) (old new : Watched W) (outcomes : List LineOutcome) : Type 0 where
  pub took : Appends (contents (watched old)) (contents (watched new)) (output_of outcomes)
  pub failed : FlushFailed old new
  pub once : (failures new).all ≤ (failures old).all + 1

-- A writer failed within the last answer, or in a flush after all of them. A failed writer takes no more bytes, so no
-- statement was begun after the fault.
abbrev pub BreaksOff : {W : Type 0} → (W → Option (List ℕ)) → Watched W → Watched W → List LineOutcome → Type 0
BreaksOff contents old new outcomes = BreaksAnswer contents old new outcomes ⊎ BreaksAfter contents old new outcomes
