-- Laws of a source's answers.
use Rattle.std.specs.Prelude.{◌≡◌, ◌⊎◌, ℕ, ◌<◌, ◌≤◌, true, false, List, [], ◌++◌, length, All, Err, IsErrOf}
use Rattle.std.specs.List.{AllByRecursion}
use Rattle.rs_disk.specs.Medium.{DiskState, IsImage}
use Rattle.rs_disk.specs.Leaves.{Leaves}
use Rattle.rs_disk.specs.Runs.{Rests}
use Rattle.rs_model.specs.State.{Source}
use Rattle.rs_model.specs.Step.{fold_of, step}
use Rattle.rs_model.specs.declared.command.Command.{Command}
use Rattle.rs_image.specs.StateOfImage.{StandsFor}
use Rattle.rs_store.specs.declared.refusal.Refusal.{Refusal}
use Rattle.rs_store.specs.declared.refusal.Refusal.TheVariants.{Closed, Device}
use Rattle.rs_store.specs.declared.running.Ack.{Ack}
use Rattle.rs_store.specs.Source.{Stored, Holds}
use Rattle.rs_store.specs.Commands.{Leads}
use Rattle.rs_store.specs.Counted.{is_accepted, is_device, is_in_doubt, answered, counted_commands}
use Rattle.rs_store.specs.Received.{AnswersFrom, coming_put}
use Rattle.rs_store.specs.Runs.{IsIdle, InTurn, StandsForPrefix, Holding, condition_behind, AreAnswered}

-- If a put ends in Device before all of its body came, and the source held a state, every image of a crash meanwhile
-- represents that state.
abbrev pub EarlyFaultsLeave : {D : Type 0} → (D → DiskState) → Type 0
EarlyFaultsLeave {D} device = (old new : Stored D) (s : Source) (name kind : List ℕ) (n now : ℕ) (came : List ℕ)
    → AnswersFrom device old new (coming_put name kind n now) came (Err Device) → length came < n → Holds device old s
    → Leaves (device old.disk) (device new.disk) (λ _ image. StandsFor image s)

-- Every image of the disk of a source that holds a state represents that state.
abbrev pub HeldStands : {D : Type 0} → (D → DiskState) → Type 0
HeldStands {D} device = (source : Stored D) (s : Source) → Holds device source s → (image : List ℕ) → IsImage (device source.disk).now image → StandsFor image s

-- A source without calls idles.
abbrev pub RestIsIdle : {D : Type 0} → (D → DiskState) → Type 0
RestIsIdle {D} device = (source : Stored D) → IsIdle device source source

-- Two runs in sequence are one run, with the commands and the answers of both.
abbrev pub TurnsGoOn : {D : Type 0} → (D → DiskState) → Type 0
TurnsGoOn {D} device = (old mid new : Stored D) (first then : List (Command × ℕ)) (early late : List Ack)
    → InTurn device old first early mid → InTurn device mid then late new → InTurn device old (first ++ then) (early ++ late) new

-- A run does not lower the disk's count of calls.
abbrev pub CallsRise : {D : Type 0} → (D → DiskState) → Type 0
CallsRise {D} device = (old : Stored D) (commands : List (Command × ℕ)) (acks : List Ack) (new : Stored D)
    → InTurn device old commands acks new → (device old.disk).calls ≤ (device new.disk).calls

-- all answers are Closed
abbrev pub AreClosed : List Ack → Type 0
AreClosed acks = AllByRecursion (λ a. a.reply ≡ Err Closed) acks

-- A closed source answers Closed to all commands and stays closed, and only the counts of the disk change.
abbrev pub ClosedStays : {D : Type 0} → (D → DiskState) → Type 0
ClosedStays {D} device = (old : Stored D) (commands : List (Command × ℕ)) (acks : List Ack) (new : Stored D)
    → old.is_closed ≡ true → InTurn device old commands acks new → (new.is_closed ≡ true) × Rests (device old.disk) (device new.disk) × AreClosed acks

-- no answer is Device
abbrev pub AreNotDevice : List Ack → Type 0
AreNotDevice acks = All (λ a. ¬ IsErrOf a.reply Device) acks

-- Device closes the source: a source that is open at the end of a run answered no command with Device.
abbrev pub DeviceCloses : {D : Type 0} → (D → DiskState) → Type 0
DeviceCloses {D} device = (old : Stored D) (commands : List (Command × ℕ)) (acks : List Ack) (new : Stored D)
    → InTurn device old commands acks new → new.is_closed ≡ false → AreNotDevice acks

-- A command that a closed source answered does not count.
abbrev pub ClosedCountNone : Type 0
ClosedCountNone = (commands : List (Command × ℕ)) (acks : List Ack) → AreClosed acks → (answered is_accepted commands acks ≡ []) × (answered is_in_doubt commands acks ≡ [])

-- A refusal is Device, or it leaves no doubt.
abbrev pub DeviceOrNoDoubt : Type 0
DeviceOrNoDoubt = (refusal : Refusal) → (refusal ≡ Device) ⊎ (is_device (Err refusal) ≡ false)

-- A refusal that leaves no doubt leaves the state: the source still holds it, and every image meanwhile represents it.
abbrev pub RefusedIsNotDone : {D : Type 0} → (D → DiskState) → Type 0
RefusedIsNotDone {D} device = (old new : Stored D) (s : Source) (command : Command) (now : ℕ) (refusal : Refusal)
    → is_device (Err refusal) ≡ false → Leads device old new s (step s command now) (Err refusal)
    → Holds device new s × Leaves (device old.disk) (device new.disk) (λ _ image. StandsFor image s)

-- The disk of a source that holds a state sees the commands of a run answered.
abbrev pub RunsAreAnswered : {D : Type 0} → (D → DiskState) → Type 0
RunsAreAnswered {D} device = (s : Source) (old : Stored D) (commands : List (Command × ℕ)) (acks : List Ack) (new : Stored D)
    → Holds device old s → InTurn device old commands acks new
    → AreAnswered (device old.disk) (Holding s) commands acks (device new.disk)

-- Where the answers of a run leave no doubt, the source holds the state that they leave.
abbrev pub OpenHoldsAnswered : {D : Type 0} → (D → DiskState) → Type 0
OpenHoldsAnswered {D} device = (s t : Source) (old : Stored D) (commands : List (Command × ℕ)) (acks : List Ack) (new : Stored D)
    → Holds device old s → InTurn device old commands acks new → condition_behind (Holding s) commands acks ≡ Holding t → Holds device new t

-- When commands are answered, at every moment every image represents the state after a prefix of the counted ones.
abbrev pub AnswersLeavePrefixes : Type 0
AnswersLeavePrefixes = (s : Source) (old : DiskState) (commands : List (Command × ℕ)) (acks : List Ack) (new : DiskState)
    → AreAnswered old (Holding s) commands acks new → Leaves old new (StandsForPrefix s commands acks)

-- At every moment of a run, every image represents the state after a prefix of the counted commands, from the state
-- that the source held.
abbrev pub RunsLeavePrefixes : {D : Type 0} → (D → DiskState) → Type 0
RunsLeavePrefixes {D} device = (s : Source) (old : Stored D) (commands : List (Command × ℕ)) (acks : List Ack) (new : Stored D)
    → Holds device old s → InTurn device old commands acks new → Leaves (device old.disk) (device new.disk) (StandsForPrefix s commands acks)

-- A source that is open at the end of a run holds the state after all counted commands.
abbrev pub OpenHoldsAll : {D : Type 0} → (D → DiskState) → Type 0
OpenHoldsAll {D} device = (s : Source) (old : Stored D) (commands : List (Command × ℕ)) (acks : List Ack) (new : Stored D)
    → Holds device old s → InTurn device old commands acks new → new.is_closed ≡ false → Holds device new (fold_of s (counted_commands commands acks))
