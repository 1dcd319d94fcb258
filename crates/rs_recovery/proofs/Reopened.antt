-- A source after two stops, on disks of three types.
use Rattle.std.proofs.Common.{ℕ, List, [], ◌∷◌, ◌++◌, take, refl, Ok, Err, Some, None}
use Rattle.std.specs.Prelude.{IsTrue}
use Rattle.rs_disk.specs.Medium.{DiskState}
use Rattle.rs_image.specs.StateOfImage.{StandsFor}
use Rattle.rs_model.specs.State.{Source, start_of}
use Rattle.rs_model.specs.Step.{fold_of}
use Rattle.rs_store.specs.declared.opening.OpenFault.TheVariants as openings
use Rattle.rs_store.specs.Counted.{counted_commands}
use Rattle.rs_store.specs.Laws.{AnswersLeavePrefixes}
use Rattle.rs_store.specs.Source.{Stored, Holds}
use Rattle.rs_store.specs.declared.opening.OpenFault.{OpenFault}
use Rattle.rs_recovery.specs.declared.surviving.Halt.{Halt}
use Rattle.rs_recovery.specs.declared.surviving.Halt.TheVariants.{Opening}
use Rattle.rs_recovery.specs.Sessions.{Session, AreSessions, AreLeft, commands_left}
use Rattle.rs_recovery.specs.Recovered.{IsExcuse, YieldsHeld, Headline}
use Rattle.rs_recovery.specs.Surviving.{IsRunFrom, IsLost}
use Rattle.rs_recovery.specs.Reopened.{Disks, Run, run_of, IsRunOn, TwoPrefixes, RanTwice, AreLeftBy, SurvivesTwice, IsOtherThanLeft, IsOtherThanLeftThen}
use Rattle.rs_recovery.proofs.Below.{Commands, Acks}

-- an excuse is no loss
pub not_lost : (before after : DiskState) (fault : OpenFault) → IsExcuse before after fault → IsLost (Opening fault) → ⊥
not_lost before after openings.NotASource excuse lost = excuse
not_lost before after openings.Damaged excuse lost = excuse
not_lost before after fault excuse lost = lost

module _ {A B C : Type 0} (disks : Disks A B C) (base : List ℕ) (limit moment : ℕ)
    {earlier later : Run} {left : B} (ran : RanTwice disks (start_of base limit moment) earlier later left) (third : C) (m n : ℕ) (left_by : AreLeftBy ran third m n) where
  abbrev start : Source
  start = start_of base limit moment

  abbrev first : Session
  first = record {
    first = ran.run.0;
    commands = earlier.commands;
    acks = earlier.acks;
    unanswered = None;
    last = disks.one ran.left_first;
    stop = m;
    image = (disks.two ran.second).now.seen;
  }

  abbrev second : Session
  second = record {
    first = ran.opened;
    commands = later.commands;
    acks = later.acks;
    unanswered = None;
    last = disks.two left;
    stop = n;
    image = (disks.three third).now.seen;
  }

  abbrev sessions : List Session
  sessions = second ∷ first ∷ []

  are_sessions : AreSessions start sessions
  are_sessions =
      let on = ran.run_on left_by.honest in
      (on.0, on.1, record { answered = on.2; stopped = left_by.stop_then }, record { answered = ran.run.1; stopped = left_by.stop })

  abbrev IsHeld : Stored C → Type 0
  IsHeld source = (these : Commands) × TwoPrefixes earlier later m n these × Holds disks.three source (fold_of start these) × YieldsHeld (fold_of start these)

  by_two : (source : Stored C) (standing : List ℕ) → AreLeft start sessions standing
      → Holds disks.three source (fold_of start (commands_left sessions standing)) → YieldsHeld (fold_of start (commands_left sessions standing)) → IsHeld source
  by_two source [] stand holds yields = absurd stand
  by_two source (k ∷ []) stand holds yields = absurd stand.3
  by_two source (k ∷ j ∷ []) stand holds yields = (
    take j (counted_commands earlier.commands earlier.acks) ++ take k (counted_commands later.commands later.acks),
    record {
      j = j;
      least = stand.3.0;
      most = stand.3.1;
      k = k;
      least_then = stand.0;
      most_then = stand.1;
      are = refl;
    },
    holds,
    yields,
  )
  by_two source (k ∷ j ∷ i ∷ standing) stand holds yields = absurd stand.3.3

  pub survives_twice : (source : Stored C) → Headline disks.three third (Ok source) → IsTrue (disks.three source.disk).honest → IsHeld source
  survives_twice source headline honest =
      let is = headline base limit moment [] second (first ∷ []) are_sessions refl honest in
      by_two source is.standing is.left is.state is.yields

  -- if no source was opened on the third disk, the opening did not call it empty or damaged
  pub none_lost : (back : C) (fault : OpenFault) → Headline disks.three third (Err (back, fault)) → IsTrue (disks.three back).honest
      → IsLost (Opening fault) → ⊥
  none_lost back fault headline honest =
      let is = headline base limit moment [] second (first ∷ []) are_sessions refl honest in
      not_lost (disks.three third) (disks.three back) fault is.state

module _ {A B C : Type 0} (disks : Disks A B C) (base : List ℕ) (limit moment : ℕ) (cs : Commands) (acks : Acks) (left_first : A)
    (run : IsRunFrom (start_of base limit moment) cs acks (disks.one left_first)) (second : B) (given : disks.GivesSecond left_first (Some second)) where
  -- no source was opened on the second disk
  pub second_lost : AnswersLeavePrefixes → (back : B) (halt : Halt)
      → (IsTrue (disks.two back).honest → (s : Source) → StandsFor (disks.two second).now.seen s → ¬ IsLost halt) → IsLost halt
      → IsOtherThanLeft disks (start_of base limit moment) cs
  second_lost leave back halt found lost = record {
    left = left_first;
    acks = acks;
    run = run;
    second = second;
    given = given;
    back = back;
    other = λ m stop honest.
        let p = (leave (start_of base limit moment) run.0 cs acks (disks.one left_first) run.1).each m (disks.two second).now.seen stop.from stop.to stop.left in
        found honest (fold_of (start_of base limit moment) (take p.j (counted_commands cs acks))) p.stands lost;
  }

  module _ (more : Commands) (answers : Acks) (left : B) (opened : DiskState)
      (run_on : IsRunOn (disks.two second).now.seen opened (run_of more answers) (disks.two left)) (third : C) (given_then : disks.GivesThird left (Some third)) where
    abbrev ran_twice : RanTwice disks (start_of base limit moment) (run_of cs acks) (run_of more answers) left
    ran_twice = record { left_first = left_first; run = run; second = second; given = given; opened = opened; run_on = run_on }

    pub recovered_twice : (source : Stored C) → Headline disks.three third (Ok source)
        → SurvivesTwice disks (start_of base limit moment) (run_of cs acks) (run_of more answers) source
    recovered_twice source headline = record {
      left = left;
      ran = ran_twice;
      third = third;
      given = given_then;
      recovered = λ m n left_by. survives_twice disks base limit moment ran_twice third m n left_by source headline;
    }

    pub third_lost : (back : C) (fault : OpenFault) → Headline disks.three third (Err (back, fault)) → IsLost (Opening fault)
        → IsOtherThanLeftThen disks (start_of base limit moment) cs more
    third_lost back fault headline lost = record {
      left = left;
      acks = acks;
      answers = answers;
      ran = ran_twice;
      third = third;
      given = given_then;
      back = back;
      other = λ m n left_by honest. none_lost disks base limit moment ran_twice third m n left_by back fault headline honest lost;
    }
