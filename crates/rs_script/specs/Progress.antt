-- The progress of a script.
use Rattle.std.specs.Prelude.{◌≡◌, ◌≤◌, ◌+◌, ◌^◌, ℕ, ◌⊎◌, true, List, [], ◌∷◌, ◌++◌, length, map, flat_map, All, Option}
use Rattle.std.specs.Io.KnownBytes.{Consumes, IsAtEnd}
use Rattle.rs_disk.specs.Medium.{DiskState}
use Rattle.rs_io.specs.declared.watch.Watched.{Watched}
use Rattle.rs_io.specs.Watch.{watched, calls, is_flushed, EndFailed, Took, Wrote}
use Rattle.rs_script.specs.Broken.{BreaksLast}
use Rattle.rs_model.specs.declared.command.Command.{Command}
use Rattle.rs_store.specs.Source.{Stored}
use Rattle.rs_script.specs.declared.group.Taking.{Taking}
use Rattle.rs_script.specs.declared.pending.Pending.{Pending}
use Rattle.rs_script.specs.declared.statement.BetweenLines.{BetweenLines}
use Rattle.rs_script.specs.Answers.{outcome_text, output_of}
use Rattle.rs_script.specs.PartialLine.{KeepsLine}
use Rattle.rs_script.specs.Taken.{KeepsGroup}
use Rattle.rs_script.specs.Lines.{Splits, script_lines}
use Rattle.rs_items.specs.Lines.{cut_return}
use Rattle.rs_script.specs.Statements.{Statement, statement_lines, IsWholeStatement, AreWholeStatements, IsUnfinished}
use Rattle.rs_script.specs.Script.{Transcript, ScriptGives}
use Rattle.rs_script.specs.Session.{ScriptState, script_state, Answer, LineOutcome}

-- there was a possible answer, this is the session after it, and the text of the answer has this property
pub record HasAnswer {S : Type 0} (Gives : Answer S → Type 0) (new : ScriptState S) (Written : List ℕ → Type 0) : Type 0 where
  pub answer : Answer S
  pub gives : Gives answer
  pub session_is : answer.session ≡ new
  pub written : Written (outcome_text answer.outcome)

-- a script between two lines: its session, and the kept lines of a group
pub record Between (D : Type 0) : Type 0 where
  pub session : ScriptState (Stored D)
  pub group : Option Taking

abbrev pub between : {D : Type 0} → Stored D → BetweenLines → Between D
between source lines = record { session = script_state source lines.moment; group = lines.group }

-- these lines were taken from this session on: whole statements, which were answered, and then the kept lines of a
-- group
pub record LinesTaken {D : Type 0} (device : D → DiskState) (start : ScriptState (Stored D)) (lines : List (List ℕ)) (here : Between D) : Type 0 where
  pub whole : List Statement
  pub part : List (List ℕ)
  pub outcomes : List LineOutcome
  pub commands : List (Command × ℕ)
  pub lines_are : lines ≡ flat_map statement_lines whole ++ part
  pub each : All IsWholeStatement whole
  pub kept : KeepsGroup here.group part
  pub answered : Transcript device start whole outcomes commands here.session

-- one more line was taken, after the kept lines of a group: at most one statement was answered, and the text of the
-- answer has this property
abbrev pub TakesLine : {D : Type 0} → (D → DiskState) → Between D → List ℕ → Between D → (List ℕ → Type 0) → Type 0
TakesLine device old line new Written =
    (begun : List (List ℕ)) → KeepsGroup old.group begun
    → (taken : LinesTaken device old.session (begun ++ line ∷ []) new) × (length taken.outcomes ≤ 1) × Written (output_of taken.outcomes)

-- a script at its beginning: its session and its writer
pub record Beginning (D W : Type 0) : Type 0 where
  pub session : ScriptState (Stored D)
  pub writer : Watched W

-- a script between two reads: the kept part of its input, its source, and its writer
pub record Stand (D W : Type 0) : Type 0 where
  pub pending : Pending
  pub source : Stored D
  pub writer : Watched W

abbrev pub stand : {D W : Type 0} → Pending → Stored D → Watched W → Stand D W
stand pending source writer = record { pending = pending; source = source; writer = writer }

abbrev pub session_at : {D W : Type 0} → Stand D W → ScriptState (Stored D)
session_at here = script_state here.source here.pending.between.moment

abbrev pub between_at : {D W : Type 0} → Stand D W → Between D
between_at here = between here.source here.pending.between

-- these bytes came: whole statements, whose answers were written, and then the kept part of the next one
pub record Progress {D W : Type 0} (device : D → DiskState) (contents : W → Option (List ℕ)) (begin : Beginning D W) (input : List ℕ) (here : Stand D W) : Type 0 where
  pub raws : List (List ℕ)
  pub rest : List ℕ
  pub splits : Splits input raws rest
  pub kept : KeepsLine here.pending.line rest
  pub taken : LinesTaken device begin.session (map cut_return raws) (between_at here)
  pub written : Wrote contents begin.writer here.writer (output_of taken.outcomes)

-- this whole input came: all its statements are answered, except a group within which it ends
pub record Ended {D W : Type 0} (device : D → DiskState) (contents : W → Option (List ℕ)) (begin : Beginning D W) (input : List ℕ) (here : Stand D W) : Type 0 where
  pub raws : List (List ℕ)
  pub rest : List ℕ
  pub splits : Splits input raws rest
  pub taken : LinesTaken device begin.session (script_lines raws rest) (between_at here)
  pub written : Wrote contents begin.writer here.writer (output_of taken.outcomes)

-- the statements of this input were answered, and a write failed within the last answer
abbrev pub Answered : {D W : Type 0} → (D → DiskState) → (W → Option (List ℕ)) → Beginning D W → List ℕ → Stand D W → Type 0
Answered device contents begin input here = (outcomes : List LineOutcome) × (commands : List (Command × ℕ))
    × ScriptGives device begin.session input outcomes commands (session_at here) × BreaksLast contents begin.writer here.writer outcomes

-- a script got from one point to the other by these bytes
abbrev pub ComesTo : {D W : Type 0} → (D → DiskState) → (W → Option (List ℕ)) → Stand D W → Stand D W → List ℕ → Type 0
ComesTo {D} {W} device contents old new bytes =
    (begin : Beginning D W) (input : List ℕ) → Progress device contents begin input old → Progress device contents begin (input ++ bytes) new

-- a script got from one point to the other by these bytes: the statements up to their end are whole, and they are
-- answered, but a write failed within the last answer
abbrev pub StopsBy : {D W : Type 0} → (D → DiskState) → (W → Option (List ℕ)) → Stand D W → Stand D W → List ℕ → Type 0
StopsBy {D} {W} device contents old new bytes =
    (begin : Beginning D W) (input : List ℕ) → Progress device contents begin input old
    → Answered device contents begin (input ++ bytes) new × AreWholeStatements (input ++ bytes)

-- a script got from one point to the other by its last line
abbrev pub EndsLine : {D W : Type 0} → (D → DiskState) → (W → Option (List ℕ)) → Stand D W → Stand D W → Type 0
EndsLine {D} {W} device contents old new =
    (begin : Beginning D W) (input : List ℕ) → Progress device contents begin input old → Ended device contents begin input new

-- a script got from one point to its end at the other: all its statements are answered, and the answers are written
abbrev pub EndsAt : {D W : Type 0} → (D → DiskState) → (W → Option (List ℕ)) → Stand D W → Stand D W → Type 0
EndsAt {D} {W} device contents old new =
    (begin : Beginning D W) (input : List ℕ) → Progress device contents begin input old
    → (outcomes : List LineOutcome) × (commands : List (Command × ℕ))
    × ScriptGives device begin.session input outcomes commands (session_at new) × Wrote contents begin.writer new.writer (output_of outcomes)

-- a script got from one point to its end at the other: all its statements are answered, but a write failed within the
-- last answer
abbrev pub StopsAt : {D W : Type 0} → (D → DiskState) → (W → Option (List ℕ)) → Stand D W → Stand D W → Type 0
StopsAt {D} {W} device contents old new =
    (begin : Beginning D W) (input : List ℕ) → Progress device contents begin input old → Answered device contents begin input new

-- the reader gave this input, and then a tail that no statement used
abbrev pub Gave : Option (List ℕ) → Option (List ℕ) → List ℕ → Type 0
Gave old new input = (tail : List ℕ) × Consumes old new (input ++ tail)

-- the reader gave whole statements, and then a tail that no statement used; or it gave this input, and no byte is left
abbrev pub Came : {R : Type 0} → (R → Option (List ℕ)) → Watched R → Watched R → List ℕ → Type 0
Came remaining old new input =
    (Gave (remaining (watched old)) (remaining (watched new)) input × AreWholeStatements input)
    ⊎ (Consumes (remaining (watched old)) (remaining (watched new)) input × IsAtEnd (remaining (watched new)))

-- the reader gave this input, no call of it failed, and no byte is left
abbrev pub TookAll : {R : Type 0} → (R → Option (List ℕ)) → Watched R → Watched R → List ℕ → Type 0
TookAll remaining old new input = Took remaining old new input × IsAtEnd (remaining (watched new))

-- the reader gave whole statements, and then a part of one
abbrev pub GaveStatements : {R : Type 0} → (R → Option (List ℕ)) → Watched R → Watched R → List ℕ → List ℕ → Type 0
GaveStatements remaining old new input part =
    Consumes (remaining (watched old)) (remaining (watched new)) (input ++ part) × AreWholeStatements input × IsUnfinished part

-- this many calls were made, or their count is at its greatest value
abbrev pub IsCalled : {T : Type 0} → ℕ → Watched T → Watched T → Type 0
IsCalled count old new = (calls new ≡ calls old + count) ⊎ (2 ^ 64 ≤ calls new + 1)

-- No more is read: the reader failed, and everything written before was flushed; or 2^40 reads were made, and each gave
-- at least one byte.
abbrev pub ReadsNoMore : {R W : Type 0} → Watched R → Watched R → Watched W → List ℕ → Type 0
ReadsNoMore old new writer input = (EndFailed old new × (is_flushed writer ≡ true)) ⊎ (IsCalled (2 ^ 40) old new × (2 ^ 40 ≤ length input))
