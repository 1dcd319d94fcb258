-- The reasons why a file gives no source.
use Rattle.std.specs.Prelude.{◌≡◌, ◌⊎◌, ◌≤◌, ℕ, List, ◌∷◌, Result, Ok, Err, MatchResult, MatchOption, IfSome, IsTrue}
use Rattle.rs_disk.specs.Medium.{DiskState}
use Rattle.rs_disk.specs.Runs.{RunsWriting}
use Rattle.rs_record.specs.Base.{is_base}
use Rattle.rs_directory.specs.Limit.{IsLimit}
use Rattle.rs_model.specs.State.{start_of}
use Rattle.rs_model.specs.Step.{fold_of}
use Rattle.rs_model.specs.declared.command.Command.{Command}
use Rattle.rs_file.specs.Replay.{opened}
use Rattle.rs_store.specs.Formatting.{HasCauses}
use Rattle.rs_store.specs.Opening.{IsNotOpened}
use Rattle.rs_store.specs.Copied.{AnswersCopy}
use Rattle.rs_store.specs.Source.{Stored}
use Rattle.rs_recovery.specs.Sessions.{Session, AreSessions}
use Rattle.rs_recovery.specs.Recovered.{IsRecovered}
use Rattle.rs_store.specs.declared.formatting.FormatFault.{FormatFault}
use Rattle.rs_store.specs.declared.formatting.FormatFault.TheVariants as formatting
use Rattle.rs_store.specs.declared.opening.OpenFault.{OpenFault}
use Rattle.rs_store.specs.declared.copying.CopyRefusal.{CopyRefusal}
use Rattle.rs_source.specs.declared.file.NoSource.{NoSource}
use Rattle.rs_source.specs.declared.program.ProgramError.{ProgramError}
use Rattle.rs_source.specs.declared.program.ProgramError.TheVariants.{Exists, NotASource, Damaged, Device}
use Rattle.rs_source.specs.Arguments.{error_of_format, error_of_opening, error_of_copy}

-- a source can be made with this base, limit and size: the base and the limit are lawful, and the disk has room
pub record MayBegin (base : List ℕ) (limit size : ℕ) : Type 0 where
  pub lawful : IsTrue (is_base base)
  pub among : IsLimit limit
  pub room : 8192 ≤ size

-- No source was opened on a file that held these bytes first. The file could not be opened as a disk; or it was, and
-- the cause of the refusal applies.
abbrev pub IsUnopened : {D : Type 0} → (D → DiskState) → List ℕ → NoSource D → Type 0
IsUnopened device first lack =
    MatchOption lack.disk (lack.error ≡ Device)
    (λ disk. (fault : OpenFault) × (lack.error ≡ error_of_opening fault) × IsNotOpened (opened first (device disk).size) (device disk) fault)

-- a new file could not be made as a disk: its name is taken, or the system failed
abbrev pub IsUnmade : {D : Type 0} → NoSource D → Type 0
IsUnmade lack = MatchOption lack.disk ((lack.error ≡ Exists) ⊎ (lack.error ≡ Device)) (λ _. ¬ (lack.error ≡ Exists))

-- A formatting of a disk was refused with this fault. BadBase, BadLimit and TooSmall come exactly where their cause is
-- there, in this order; Device only where a call failed; and any other fault leaves the disk as it was.
pub record RefusesFormat (base : List ℕ) (limit : ℕ) (old new : DiskState) (fault : FormatFault) : Type 0 where
  pub causes : HasCauses old.size base limit (λ cause. fault ≡ cause)
  pub untouched : ¬ (fault ≡ formatting.Device) → new ≡ old
  pub runs : RunsWriting (fault ≡ formatting.Device) old new

-- No source was made on a new file, which would be this disk at first. The file could not be made as a disk; or it was,
-- and its formatting was refused with the fault that this error names.
abbrev pub IsUnformatted : {D : Type 0} → (D → DiskState) → List ℕ → ℕ → DiskState → NoSource D → Type 0
IsUnformatted device base limit start lack =
    MatchOption lack.disk ((lack.error ≡ Exists) ⊎ (lack.error ≡ Device))
    (λ disk. (fault : FormatFault) × (lack.error ≡ error_of_format fault) × RefusesFormat base limit start (device disk) fault)

-- No source was copied to a new file, which would be this disk at first. The file could not be made as a disk; or it
-- was, and the answer of the source is this error.
abbrev pub IsUncopied : {D E : Type 0} → (D → DiskState) → (E → DiskState) → Stored D → Stored D → DiskState → NoSource E → Type 0
IsUncopied {D} {E} device other old new start lack =
    MatchOption lack.disk (((lack.error ≡ Exists) ⊎ (lack.error ≡ Device)) × (new ≡ old))
    (λ disk. (refusal : CopyRefusal) × (to : E) × (lack.error ≡ error_of_copy refusal) × (other to ≡ start)
    × AnswersCopy device other old new to (Err (disk, refusal)))

-- A source was copied to a new file, which was this disk at first: this is the answer of the old source.
pub record IsCopiedTo {D E : Type 0} (device : D → DiskState) (other : E → DiskState) (old new : Stored D) (start : DiskState) (copy : Stored E) : Type 0 where
  pub to : E
  pub begins : other to ≡ start
  pub answers : AnswersCopy device other old new to (Ok copy)

-- the error is Damaged or NotASource
abbrev pub IsLost : ProgramError → Type 0
IsLost NotASource = Unit {0}
IsLost Damaged = Unit {0}
IsLost error = ⊥

-- `Headline` of rs_recovery, for a file that held these bytes first. After any number of sessions, of which the last
-- left these bytes, the opened source holds exactly the state that their surviving commands make. If no source is
-- opened, the error is neither Damaged nor NotASource.
abbrev pub HeadlineOfFile : {D : Type 0} → (D → DiskState) → List ℕ → Result (Stored D) (NoSource D) → Type 0
HeadlineOfFile device first result =
    (base : List ℕ) (limit moment : ℕ) (before : List (Command × ℕ)) (x : Session) (past : List Session)
    → let start = fold_of (start_of base limit moment) before in
    AreSessions start (x ∷ past) → first ≡ x.image
    → MatchResult result
    (λ source. IsTrue (device source.disk).honest → IsRecovered device source.disk (Ok source) start (x ∷ past))
    (λ lack. IfSome lack.disk (λ disk. IsTrue (device disk).honest → ¬ IsLost lack.error))
