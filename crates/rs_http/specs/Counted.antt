-- The command of a request that counts, and the content of the disk after a stop within the request.
use Rattle.std.specs.Prelude.{◌≡◌, ◌≤◌, ℕ, length, List, [], ◌∷◌, Option, Some, None, Result, Ok, Err}
use Rattle.rs_disk.specs.Medium.{DiskState}
use Rattle.rs_model.specs.declared.command.Command.{Command}
use Rattle.rs_model.specs.declared.command.Command.TheVariants as commands
use Rattle.rs_model.specs.declared.command.Item.{Item}
use Rattle.rs_store.specs.Received.{IsBodyOf}
use Rattle.rs_store.specs.declared.refusal.Refusal.TheVariants.{Device}
use Rattle.rs_store.specs.Source.{Stored}
use Rattle.rs_recovery.specs.Prefixes.{IsRunOf, Recovers}
use Rattle.rs_http.specs.declared.request.RequestPlan.{RequestPlan}
use Rattle.rs_http.specs.declared.request.RequestPlan.TheVariants.{ShowBody, ShowDocument, Put, Delete, Publish, Group}
use Rattle.rs_http.specs.declared.request.RequestFault.{RequestFault}
use Rattle.rs_http.specs.Groups.{items_asked}
use Rattle.rs_http.specs.Turn.{Turn}
use Rattle.rs_http.specs.Responses.{RequestOutcome, replied, refused}

-- A command counts if it was accepted, or if the device failed in it: it may have been applied then.
abbrev pub counted_with : Command → ℕ → RequestOutcome → List (Command × ℕ)
counted_with command now (replied reply) = (command, now) ∷ []
counted_with command now (refused Device) = (command, now) ∷ []
counted_with command now outcome = []

-- a group counts as one command of all its items; if it asks for no items, no command counts
abbrev pub counted_group : Option (List Item) → ℕ → RequestOutcome → List (Command × ℕ)
counted_group None now outcome = []
counted_group (Some items) now outcome = counted_with (commands.Group items) now outcome

-- The commands of a request that count, at most one. If a put was answered before its whole body was read, it counts
-- with any body that begins so.
abbrev pub Counts : ℕ → Result RequestPlan RequestFault → List ℕ → RequestOutcome → List (Command × ℕ) → Type 0
Counts now (Ok (Put name kind n waits)) more outcome counted =
    (body : List ℕ) × IsBodyOf n more body × (counted ≡ counted_with (commands.Put name kind body) now outcome)
Counts now (Ok (Delete name)) more outcome counted = counted ≡ counted_with (commands.Delete name) now outcome
Counts now (Ok Publish) more outcome counted = counted ≡ counted_with commands.Publish now outcome
Counts now (Ok (Group n waits)) more outcome counted = counted ≡ counted_group (items_asked n more) now outcome
Counts now (Ok (ShowBody name)) more outcome counted = counted ≡ []
Counts now (Ok (ShowDocument doc)) more outcome counted = counted ≡ []
Counts now (Err reason) more outcome counted = counted ≡ []

-- Whenever the disk stops within a request, it holds the state before, or the state after the command of the request
-- that counts.
abbrev pub RequestRecovers : {D : Type 0} {device : D → DiskState} → Turn device → Result RequestPlan RequestFault → List ℕ → RequestOutcome → Type 0
RequestRecovers {device = device} turn plan more outcome =
    (counted : List (Command × ℕ)) → Counts turn.now plan more outcome counted → Recovers device turn.old counted turn.new

-- a run in which at most n commands count
abbrev pub RunsAtMost : {D : Type 0} → (D → DiskState) → Stored D → ℕ → Stored D → Type 0
RunsAtMost {D} device old n new = (commands : List (Command × ℕ)) × (length commands ≤ n) × IsRunOf device old commands new
