-- Why a source was not copied to a new file.
use Rattle.std.proofs.Common.{◌≡◌, ◌∙◌, ℕ, List, [], Some, Ok, Err, ap, sym}
use Rattle.rs_disk.specs.Medium.{DiskState}
use Rattle.rs_file.specs.Events.{Event}
use Rattle.rs_file.specs.Replay.{opened, replay_events}
use Rattle.rs_store.specs.Copied.{AnswersCopy}
use Rattle.rs_store.specs.Source.{Stored}
use Rattle.rs_store.specs.declared.copying.CopyRefusal.{CopyRefusal}
use Rattle.rs_source.specs.declared.file.NoSource.{NoSource}
use Rattle.rs_source.specs.Arguments.{error_of_copy}
use Rattle.rs_source.specs.Files.{IsUncopied, IsCopiedTo}

-- a file of this size before any call
pub as_opened : (first : List ℕ) (torn : ℕ → List ℕ) (held size : ℕ) (events : List Event) → events ≡ [] → (replay_events first torn held events).size ≡ size
    → replay_events first torn held events ≡ opened first size
as_opened first torn held size events none long =
    let fresh : replay_events first torn held events ≡ opened first held = ap (replay_events first torn held) none in
    fresh ∙ ap (opened first) (sym (ap (λ disk. disk.size) fresh) ∙ long)

pub uncopied : {D E : Type 0} (device : D → DiskState) (other : E → DiskState) (old new : Stored D) (first : List ℕ) (size : ℕ) (lack : NoSource E) (disk to : E) (refusal : CopyRefusal)
    → lack.disk ≡ Some disk → lack.error ≡ error_of_copy refusal → other to ≡ opened first size → AnswersCopy device other old new to (Err (disk, refusal))
    → IsUncopied device other old new (opened first size) lack
uncopied device other old new first size lack disk to refusal is error state answers = rw is (refusal, to, error, state, answers)

pub copied : {D E : Type 0} (device : D → DiskState) (other : E → DiskState) (old new : Stored D) (start : DiskState) (to : E) (copy : Stored E)
    → other to ≡ start → AnswersCopy device other old new to (Ok copy) → IsCopiedTo device other old new start copy
copied device other old new start to copy begins answers = record { to = to; begins = begins; answers = answers }
