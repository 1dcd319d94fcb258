-- The causes of the refusals of commands, and the effects of commands.
use Rattle.std.specs.Prelude.{◌≡◌, ◌⊎◌, ℕ, Some, None, Result, Ok, Err}
use Rattle.rs_disk.specs.Medium.{DiskState}
use Rattle.rs_disk.specs.Leaves.{Leaves}
use Rattle.rs_disk.specs.Runs.{HasFailed}
use Rattle.rs_model.specs.State.{Source}
use Rattle.rs_model.specs.Step.{state_after, moment_at}
use Rattle.rs_model.specs.declared.command.Command.{Command}
use Rattle.rs_model.specs.declared.command.Refusal as model
use Rattle.rs_model.specs.declared.command.Reply.{Reply}
use Rattle.rs_image.specs.StateOfImage.{StandsFor}
use Rattle.rs_store.specs.declared.refusal.Refusal.{Refusal}
use Rattle.rs_store.specs.declared.refusal.Refusal.TheVariants.{Full, ReadFault, ShortBody, Device, Damaged, NoMemory}
use Rattle.rs_store.specs.Source.{Stored, Holds, rooted_in, state_of}
use Rattle.rs_store.specs.Refusals.{decided}
use Rattle.rs_plan.specs.Plans.{IsFullFor}

-- A refusal of a command has its cause.
abbrev pub IsCause : {D : Type 0} → (D → DiskState) → Stored D → Stored D → Command → ℕ → Refusal → Type 0
IsCause device old new command now Full =
    (decided old (state_of device old) command now ≡ None) × IsFullFor (rooted_in device old) command (moment_at (state_of device old) now)
IsCause device old new command now Device =
    (decided old (state_of device old) command now ≡ None)
    × (¬ IsFullFor (rooted_in device old) command (moment_at (state_of device old) now)) × HasFailed (device old.disk) (device new.disk)
IsCause device old new command now Damaged = ⊥
IsCause device old new command now ReadFault = ⊥
IsCause device old new command now ShortBody = ⊥
IsCause device old new command now NoMemory = decided old (state_of device old) command now ≡ None
IsCause device old new command now refusal = decided old (state_of device old) command now ≡ Some refusal

-- The effect of a command on a source that holds a state, by the model's step from it and by the answer. After Ok the
-- source holds the next state, after any refusal but Device the old one. Meanwhile every image of a crash represents
-- the old state or the next one; with any refusal but Device only the old one. `Answers` says that Device closes the
-- source.
abbrev pub Leads : {D : Type 0} → (D → DiskState) → Stored D → Stored D → Source → Result (Source × Reply) model.Refusal → Result Reply Refusal → Type 0
Leads device old new s next (Ok reply) =
    (t : Source) × (next ≡ Ok (t, reply)) × Holds device new t
    × Leaves (device old.disk) (device new.disk) (λ _ image. StandsFor image s ⊎ StandsFor image t)
Leads device old new s next (Err Device) =
    Leaves (device old.disk) (device new.disk) (λ _ image. StandsFor image s ⊎ StandsFor image (state_after s next))
Leads device old new s next (Err refusal) =
    Holds device new s × Leaves (device old.disk) (device new.disk) (λ _ image. StandsFor image s)
