-- A source after two stops, if its disk is reopened after each, as a disk of another type.
use Rattle.std.specs.Prelude.{◌≡◌, ◌⊎◌, ℕ, ◌≤◌, List, ◌++◌, take, IsTrue, Option, Some}
use Rattle.rs_disk.specs.Medium.{DiskState}
use Rattle.rs_model.specs.State.{Source}
use Rattle.rs_model.specs.Step.{fold_of}
use Rattle.rs_model.specs.declared.command.Command.{Command}
use Rattle.rs_store.specs.declared.running.Ack.{Ack}
use Rattle.rs_store.specs.Source.{Stored, Holds}
use Rattle.rs_store.specs.Counted.{counted_commands, acknowledged, begun}
use Rattle.rs_image.specs.StateOfImage.{StandsFor}
use Rattle.rs_store.specs.Runs.{Holding, AreAnswered}
use Rattle.rs_recovery.specs.Sessions.{IsStop}
use Rattle.rs_recovery.specs.Recovered.{YieldsHeld}
use Rattle.rs_recovery.specs.declared.surviving.Halt.{Halt}
use Rattle.rs_recovery.specs.Surviving.{IsRunFrom, IsLost}

-- Three disks, one after another, of three types: the state of each, which second disk is given for the disk that the
-- first run left, and which third disk for the disk that the second run left.
pub record Disks (A B C : Type 0) : Type 1 where
  pub one : A → DiskState
  pub two : B → DiskState
  pub three : C → DiskState
  pub GivesSecond : A → Option B → Type 0
  pub GivesThird : B → Option C → Type 0

abbrev pub three_disks : {A B C : Type 0} → (A → DiskState) → (B → DiskState) → (C → DiskState) → (A → Option B → Type 0)
    → (B → Option C → Type 0) → Disks A B C
three_disks one two three gives_second gives_third =
    record { one = one; two = two; three = three; GivesSecond = gives_second; GivesThird = gives_third }

-- a run: its commands and their answers
pub record Run : Type 0 where
  pub commands : List (Command × ℕ)
  pub acks : List Ack

abbrev pub run_of : List (Command × ℕ) → List Ack → Run
run_of commands acks = record { commands = commands; acks = acks }

-- The source on a disk of these bytes was opened, which left the disk `opened`. If the device had followed the model,
-- its disk saw these commands answered from then on, from a state that the bytes represent.
abbrev pub IsRunOn : List ℕ → DiskState → Run → DiskState → Type 0
IsRunOn bytes opened run left =
    IsTrue opened.honest → (s : Source) × StandsFor bytes s × AreAnswered opened (Holding s) run.commands run.acks left

-- These are the first counted commands of two runs. The first run stopped at m counted calls, the second at n. Of each
-- run they include every command that was acknowledged by then, and no command that had not begun.
pub record TwoPrefixes (earlier later : Run) (m n : ℕ) (these : List (Command × ℕ)) : Type 0 where
  pub j : ℕ
  pub least : acknowledged m earlier.acks ≤ j
  pub most : j ≤ begun m earlier.acks
  pub k : ℕ
  pub least_then : acknowledged n later.acks ≤ k
  pub most_then : k ≤ begun n later.acks
  pub are : take j (counted_commands earlier.commands earlier.acks) ++ take k (counted_commands later.commands later.acks) ≡ these

-- A run from the start on, and a run on the second disk.
pub record RanTwice {A B C : Type 0} (disks : Disks A B C) (start : Source) (earlier later : Run) (left : B) : Type 0 where
  pub left_first : A
  pub run : IsRunFrom start earlier.commands earlier.acks (disks.one left_first)
  pub second : B
  pub given : disks.GivesSecond left_first (Some second)
  pub opened : DiskState
  pub run_on : IsRunOn (disks.two second).now.seen opened later (disks.two left)

-- The second disk has the bytes of an image that a stop of the first run may have left at m counted calls, and the
-- third disk those of an image that a stop of the second run may have left at n. The second disk had followed the model
-- when it had been opened.
pub record AreLeftBy {A B C : Type 0} {disks : Disks A B C} {start : Source} {earlier later : Run} {left : B}
    (ran : RanTwice disks start earlier later left) (third : C) (m n : ℕ) : Type 0 where
  pub stop : IsStop ran.run.0 (disks.one ran.left_first) m (disks.two ran.second).now.seen
  pub honest : IsTrue ran.opened.honest
  pub stop_then : IsStop ran.opened (disks.two left) n (disks.three third).now.seen

-- Whatever the two stops, the source that was opened on the third disk holds the state after the first commands of both
-- runs. The publication, followed by the changes after it, yields the held resources.
pub record SurvivesTwice {A B C : Type 0} (disks : Disks A B C) (start : Source) (earlier later : Run) (source : Stored C) : Type 0 where
  pub left : B
  pub ran : RanTwice disks start earlier later left
  pub third : C
  pub given : disks.GivesThird left (Some third)
  pub recovered : (m n : ℕ) → AreLeftBy ran third m n → IsTrue (disks.three source.disk).honest
      → (these : List (Command × ℕ)) × TwoPrefixes earlier later m n these
      × Holds disks.three source (fold_of start these) × YieldsHeld (fold_of start these)

-- The opening called the second disk empty or damaged. Its bytes are no image that a stop of the first run may have
-- left, or it had not followed the model when it was handed back.
pub record IsOtherThanLeft {A B C : Type 0} (disks : Disks A B C) (start : Source) (commands : List (Command × ℕ)) : Type 0 where
  pub left : A
  pub acks : List Ack
  pub run : IsRunFrom start commands acks (disks.one left)
  pub second : B
  pub given : disks.GivesSecond left (Some second)
  pub back : B
  pub other : (m : ℕ) → IsStop run.0 (disks.one left) m (disks.two second).now.seen → ¬ IsTrue (disks.two back).honest

-- The same for the third disk, after both runs.
pub record IsOtherThanLeftThen {A B C : Type 0} (disks : Disks A B C) (start : Source) (commands more : List (Command × ℕ)) : Type 0 where
  pub left : B
  pub acks : List Ack
  pub answers : List Ack
  pub ran : RanTwice disks start (run_of commands acks) (run_of more answers) left
  pub third : C
  pub given : disks.GivesThird left (Some third)
  pub back : C
  pub other : (m n : ℕ) → AreLeftBy ran third m n → ¬ IsTrue (disks.three back).honest

-- If an opening calls a disk empty or damaged, no stop has left that disk.
abbrev pub LosesNone : {A B C : Type 0} → Disks A B C → Source → List (Command × ℕ) → List (Command × ℕ) → Halt → Type 0
LosesNone disks start commands more halt =
    IsLost halt → IsOtherThanLeft disks start commands ⊎ IsOtherThanLeftThen disks start commands more
