-- The reasons why a source refuses a command.
use Rattle.std.specs.Prelude.{◌+◌, ◌^◌, ℕ, List, codes, Bool, nat_le, if◌then◌else◌, Option, Some, None}
use Rattle.rs_model.specs.State.{Source}
use Rattle.rs_model.specs.Step.{refusal_of}
use Rattle.rs_model.specs.declared.command.Command.{Command}
use Rattle.rs_model.specs.declared.command.Refusal as model
use Rattle.rs_model.specs.declared.command.Refusal.TheVariants as decides
use Rattle.rs_store.specs.declared.refusal.Refusal.{Refusal}
use Rattle.rs_store.specs.declared.refusal.Refusal.TheVariants.{Closed, BadGroup, TooLong, NotHeld, TooManyResources, TooManyChanges, Exhausted, Full, ReadFault, ShortBody, Device, Damaged, NoMemory}
use Rattle.rs_store.specs.Source.{Stored}

-- the refusal with the name of one of the model
abbrev pub named_as : model.Refusal → Refusal
named_as decides.BadGroup = BadGroup
named_as decides.TooLong = TooLong
named_as decides.NotHeld = NotHeld
named_as decides.TooManyResources = TooManyResources
named_as decides.TooManyChanges = TooManyChanges
named_as decides.Exhausted = Exhausted

-- the root has the last generation
abbrev pub is_spent : {D : Type 0} → Stored D → Bool
is_spent source = nat_le (2 ^ 64) (source.slots.root.generation + 1)

-- the refusal of the model, and otherwise Exhausted if no generation is left
abbrev pub or_spent : Option model.Refusal → Bool → Option Refusal
or_spent (Some refusal) spent = Some (named_as refusal)
or_spent None spent = if spent then Some Exhausted else None

-- The reason why a source refuses a command that comes at `now` before it uses memory or the disk, if it does: it is
-- closed; then the causes of the model in their order; then no generation is left.
abbrev pub decided : {D : Type 0} → Stored D → Source → Command → ℕ → Option Refusal
decided source s command now = if source.is_closed then Some Closed else or_spent (refusal_of s command now) (is_spent source)

-- the word for a refusal in a script and over HTTP
abbrev pub refusal_word : Refusal → List ℕ
refusal_word Closed = codes "Closed"
refusal_word BadGroup = codes "BadGroup"
refusal_word TooLong = codes "TooLong"
refusal_word NotHeld = codes "NotHeld"
refusal_word TooManyResources = codes "TooManyResources"
refusal_word TooManyChanges = codes "TooManyChanges"
refusal_word Exhausted = codes "Exhausted"
refusal_word Full = codes "Full"
refusal_word ReadFault = codes "ReadFault"
refusal_word ShortBody = codes "ShortBody"
refusal_word Device = codes "Device"
refusal_word Damaged = codes "Damaged"
refusal_word NoMemory = codes "NoMemory"
