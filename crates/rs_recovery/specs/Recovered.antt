-- The state that an opening recovers after a stop.
use Rattle.std.specs.Prelude.{◌≡◌, ℕ, ◌≤◌, List, ◌∷◌, take, Result, Ok, Err, All, IsTrue}
use Rattle.std.specs.List.{AllByRecursion}
use Rattle.rs_disk.specs.Medium.{DiskState}
use Rattle.rs_record.specs.Name.{is_name}
use Rattle.rs_model.specs.State.{Source, start_of, facts_of, entries}
use Rattle.rs_model.specs.Step.{fold_of, mirror_of}
use Rattle.rs_model.specs.Regular.{IsRegular, IsTimely}
use Rattle.rs_model.specs.declared.command.Command.{Command}
use Rattle.rs_store.specs.declared.opening.OpenFault.{OpenFault}
use Rattle.rs_store.specs.declared.opening.OpenFault.TheVariants.{NotASource, Damaged, Device, NoMemory}
use Rattle.rs_image.specs.StateOfImage.{StandsFor}
use Rattle.rs_store.specs.Source.{Stored, Holds}
use Rattle.rs_store.specs.declared.running.Ack.{Ack}
use Rattle.rs_disk.specs.Runs.{HasFailed}
use Rattle.rs_store.specs.Opening.{disk_of}
use Rattle.rs_store.specs.Counted.{counted_commands, acknowledged, begun}
use Rattle.rs_store.specs.Runs.{StandsForPrefix}
use Rattle.rs_recovery.specs.Sessions.{Session, AreSessions, commands_left, AreLeft}
use Rattle.rs_recovery.specs.Served.{CommandsStand}

-- Why an existing source is not opened: a call of the device failed, or memory was refused.
abbrev pub IsExcuse : DiskState → DiskState → OpenFault → Type 0
IsExcuse before after NotASource = ⊥
IsExcuse before after Damaged = ⊥
IsExcuse before after Device = HasFailed before after
IsExcuse before after NoMemory = Unit {0}

-- An opening gives back the state: the opened source holds it, or the opening has an excuse.
abbrev pub HandsBack : {D : Type 0} → (D → DiskState) → D → Result (Stored D) (D × OpenFault) → Source → Type 0
HandsBack device disk (Ok source) s = Holds device source s
HandsBack device disk (Err refused) s = IsExcuse (device disk) (device refused.0) refused.1

-- After a run that stopped at m counted calls, the opening gives back the state after the first j counted commands, for
-- some j. They include every command that was acknowledged by then, and no command that had not begun.
pub record HandsBackPrefix (IsGivenBack : Source → Type 0) (s : Source) (commands : List (Command × ℕ)) (acks : List Ack) (m : ℕ) : Type 0 where
  pub j : ℕ
  pub least : acknowledged m acks ≤ j
  pub most : j ≤ begun m acks
  pub state : IsGivenBack (fold_of s (take j (counted_commands commands acks)))

-- After a stop of one run, whenever it came, an opening gives back the state after a prefix of this kind.
abbrev pub GivesBackRun : {D : Type 0} → (D → DiskState) → D → Result (Stored D) (D × OpenFault) → Type 0
GivesBackRun device disk result = (s : Source) (commands : List (Command × ℕ)) (acks : List Ack) (m : ℕ)
    → StandsForPrefix s commands acks m (device disk).now.seen
    → IsTrue (device (disk_of result)).honest → HandsBackPrefix (HandsBack device disk result) s commands acks m

-- The latest Resource List, followed by the changes recorded after its at-moment in their order, yields exactly the
-- resources held. The length and the hashes of every resource are those of its bytes; its type is the recorded one.
pub record YieldsHeld (s : Source) : Type 0 where
  pub mirrored : mirror_of s.listed s.at s.changes ≡ entries s.held
  pub facts : AllByRecursion (λ held. held.1.entry.facts ≡ facts_of held.1.entry.facts.kind held.1.bytes) s.held

-- Every name that is held in the state of an image is lawful.
abbrev pub HeldNamesAreLawful : Type 0
HeldNamesAreLawful = (image : List ℕ) (s : Source) → StandsFor image s → All (λ held. IsTrue (is_name held.0)) s.held

-- A source was opened on a disk of these bytes: it holds a state that they represent. So it may begin a session.
abbrev pub IsOpenedOn : {D : Type 0} → (D → DiskState) → List ℕ → Stored D → Type 0
IsOpenedOn device bytes source = (s : Source) × StandsFor bytes s × Holds device source s

-- After sessions an opening gives back exactly the state that their surviving commands make.
-- `standing`, `left`: the number of surviving commands of every session.
-- `state`: the opened source holds the state that they make, one after another.
-- `yields`: the publication, followed by the changes after it, yields the held resources.
-- `regular`, `timely`: the state meets the premises of the laws of served lists.
pub record IsRecovered {D : Type 0} (device : D → DiskState) (disk : D) (result : Result (Stored D) (D × OpenFault))
    (start : Source) (sessions : List Session) : Type 0 where
  pub standing : List ℕ
  pub left : AreLeft start sessions standing
  pub state : HandsBack device disk result (fold_of start (commands_left sessions standing))
  pub yields : YieldsHeld (fold_of start (commands_left sessions standing))
  pub regular : IsRegular (fold_of start (commands_left sessions standing))
  pub timely : IsTimely (fold_of start (commands_left sessions standing))

-- Stopped before or within any disk call, during a command or between two, recovery gives exactly the resources and
-- published documents of a prefix of the accepted commands that holds every acknowledged one; and in every recovered
-- state the latest Resource List, followed by the changes recorded after its at-moment in their order, yields exactly
-- the resources held, with their lengths, hashes and types. The first session began with the state that a formatting
-- and some commands made: no commands if the source was formatted, and those of the copied source if it is a copy. The
-- latest session is `x`. Those before it are `past`, the latest of them first. Over several sessions the prefix has the
-- first commands of each session, one session after another. The sessions may be on disks of other types than this one,
-- since a reopened file has another type.
abbrev pub Headline : {D : Type 0} → (D → DiskState) → D → Result (Stored D) (D × OpenFault) → Type 0
Headline {D} device disk result = (base : List ℕ) (limit moment : ℕ) (before : List (Command × ℕ)) (x : Session) (past : List Session)
    → let start = fold_of (start_of base limit moment) before in
    AreSessions start (x ∷ past) → (device disk).now.seen ≡ x.image
    → IsTrue (device (disk_of result)).honest → IsRecovered device disk result start (x ∷ past)

-- The state that an opening gives back after sessions includes the commands of every source that was asked in them.
pub record KeepsServed {D : Type 0} (device : D → DiskState) (disk : D) (result : Result (Stored D) (D × OpenFault))
    (start : Source) (sessions : List Session) : Type 0 where
  pub standing : List ℕ
  pub stand : CommandsStand start sessions standing
  pub state : HandsBack device disk result (fold_of start (commands_left sessions standing))

-- The same sessions, if the source was asked meanwhile: the state that is given back includes the commands of every
-- source that was asked.
abbrev pub GivesBackServed : {D : Type 0} → (D → DiskState) → D → Result (Stored D) (D × OpenFault) → Type 0
GivesBackServed {D} device disk result = (base : List ℕ) (limit moment : ℕ) (before : List (Command × ℕ)) (x : Session) (past : List Session)
    → let start = fold_of (start_of base limit moment) before in
    AreSessions start (x ∷ past) → (device disk).now.seen ≡ x.image
    → IsTrue (device (disk_of result)).honest → KeepsServed device disk result start (x ∷ past)
