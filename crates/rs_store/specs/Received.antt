-- The answers of a source to puts whose bodies come from a reader.
use Rattle.std.specs.Prelude.{◌≡◌, ◌⊎◌, ◌<◌, ◌≤◌, ◌+◌, ℕ, List, [], length, take, Option, None, Result, Ok, Err}
use Rattle.std.specs.Io.KnownBytes.{IsAtEnd}
use Rattle.rs_io.specs.declared.watch.Watched.{Watched}
use Rattle.rs_io.specs.Watch.{calls, failures}
use Rattle.rs_disk.specs.Medium.{DiskState}
use Rattle.rs_disk.specs.Leaves.{Leaves}
use Rattle.rs_disk.specs.Runs.{RunsWriting}
use Rattle.rs_model.specs.State.{Source}
use Rattle.rs_model.specs.Step.{moment_at}
use Rattle.rs_model.specs.declared.command.Command.TheVariants.{Put}
use Rattle.rs_model.specs.declared.command.Reply.{Reply}
use Rattle.rs_image.specs.StateOfImage.{StandsFor}
use Rattle.rs_plan.specs.declared.plan.Plan.{Plan}
use Rattle.rs_plan.specs.Plans.{IsPlanned}
use Rattle.rs_store.specs.declared.refusal.Refusal.{Refusal}
use Rattle.rs_store.specs.declared.refusal.Refusal.TheVariants.{ReadFault, ShortBody, Device, NoMemory}
use Rattle.rs_store.specs.Source.{Stored, Holds, rooted_in, state_of}
use Rattle.rs_store.specs.Refusals.{decided}
use Rattle.rs_store.specs.Answered.{Answers, IsUnchanged}

-- a body of n bytes, of which these came first
pub record IsBodyOf (n : ℕ) (came body : List ℕ) : Type 0 where
  pub len : length body ≡ n
  pub front : take (length came) body ≡ came

-- A command was not done: the memory is unchanged, the source still holds the state that it held, and every image of a
-- crash meanwhile represents it. No device call failed.
pub record IsLeft {D : Type 0} (device : D → DiskState) (old new : Stored D) : Type 0 where
  pub unchanged : IsUnchanged device old new
  pub is_closed : new.is_closed ≡ old.is_closed
  pub holds : (s : Source) → Holds device old s → Holds device new s × Leaves (device old.disk) (device new.disk) (λ _ image. StandsFor image s)
  pub runs : RunsWriting ⊥ (device old.disk) (device new.disk)

-- a put whose body is still to come: its name, its media type, the length of its body in bytes, and the clock's moment
pub record ComingPut : Type 0 where
  pub name : List ℕ
  pub kind : List ℕ
  pub size : ℕ
  pub now : ℕ

-- the coming put of a name, a type, a length and a moment
abbrev pub coming_put : List ℕ → List ℕ → ℕ → ℕ → ComingPut
coming_put name kind size now = record { name = name; kind = kind; size = size; now = now }

-- The body of a put did not come whole: fewer bytes came, and the put is not done. No refusal before this one has its
-- cause: no refusal is decided for a body of that length, and every body of that length has a plan.
pub record IsCutShort {D : Type 0} (device : D → DiskState) (old new : Stored D) (put : ComingPut) (came : List ℕ) : Type 0 where
  pub fewer : length came < put.size
  pub decides : (body : List ℕ) → length body ≡ put.size → decided old (state_of device old) (Put put.name put.kind body) put.now ≡ None
  pub plan : (body : List ℕ) → length body ≡ put.size
      → (p : Plan) × IsPlanned (rooted_in device old) (Put put.name put.kind body) (moment_at (state_of device old) put.now) p
  pub left : IsLeft device old new

-- the refusals that may come once the source reads or writes a body
abbrev pub IsLate : Refusal → Type 0
IsLate Device = Unit {0}
IsLate NoMemory = Unit {0}
IsLate refusal = ⊥

-- The bytes of a body of n bytes that may have come at a refusal. The device may fail at any piece. Memory may run out
-- before the first byte, and after the last. At any other refusal no bytes came.
abbrev pub MayHaveCome : ℕ → List ℕ → Refusal → Type 0
MayHaveCome n came Device = length came ≤ n
MayHaveCome n came NoMemory = (came ≡ []) ⊎ (length came ≡ n)
MayHaveCome n came refusal = came ≡ []

-- The answer of a source to a put of the next bytes of a reader, of which these came. With Ok they are the body, and
-- the answer is that to the put of it. A fault or an early end of the reader cuts it short. Any other refusal is the
-- answer to the put of every body of that length that begins with these bytes.
abbrev pub AnswersFrom : {D : Type 0} → (D → DiskState) → Stored D → Stored D → ComingPut → List ℕ → Result Reply Refusal → Type 0
AnswersFrom device old new put came (Ok reply) =
    (length came ≡ put.size) × Answers device old new (Put put.name put.kind came) put.now (Ok reply)
AnswersFrom device old new put came (Err ReadFault) = IsCutShort device old new put came
AnswersFrom device old new put came (Err ShortBody) = IsCutShort device old new put came
AnswersFrom device old new put came (Err refusal) =
    MayHaveCome put.size came refusal
    × ((body : List ℕ) → IsBodyOf put.size came body → Answers device old new (Put put.name put.kind body) put.now (Err refusal))

-- A reader gave these bytes by at most one read per byte, and at most `more` other reads. At most one read failed.
pub record ReadsFor {R : Type 0} (more : ℕ) (old new : Watched R) (came : List ℕ) : Type 0 where
  pub reads : calls new ≤ calls old + (length came + more)
  pub once : (failures new).all ≤ (failures old).all + 1

-- the number of reads that give no byte: one where the reader failed or ended, and 0 at all other refusals
abbrev pub empty_reads : Refusal → ℕ
empty_reads ReadFault = 1
empty_reads ShortBody = 1
empty_reads refusal = 0

abbrev pub empty_reads_of : {T : Type 0} → Result T Refusal → ℕ
empty_reads_of (Ok value) = 0
empty_reads_of (Err refusal) = empty_reads refusal

-- The reason why only these of n bytes came from a reader that has `rest` left: it failed, or it ended.
abbrev pub IsCut : ℕ → Option (List ℕ) → List ℕ → Refusal → Type 0
IsCut n rest came ReadFault = length came < n
IsCut n rest came ShortBody = (length came < n) × IsAtEnd rest
IsCut n rest came refusal = ⊥

-- The reason why n bytes of a reader were not all read and written, of which these came: not all came, or the device
-- failed.
abbrev pub IsStopped : ℕ → Option (List ℕ) → List ℕ → Refusal → Type 0
IsStopped n rest came Device = length came ≤ n
IsStopped n rest came refusal = IsCut n rest came refusal
