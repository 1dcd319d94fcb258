-- The end of a script, for its reader and its writer.
use Rattle.std.specs.Prelude.{◌≡◌, ◌⊎◌, ◌≤◌, ◌+◌, ◌*◌, ℕ, true, List, [], ◌++◌, length, Option}
use Rattle.std.specs.Io.KnownBytes.{Consumes}
use Rattle.rs_disk.specs.Medium.{DiskState}
use Rattle.rs_io.specs.declared.watch.Watched.{Watched}
use Rattle.rs_io.specs.Watch.{watched, calls, failures, is_flushed, End, Ends, Wrote}
use Rattle.rs_store.specs.Source.{Stored}
use Rattle.rs_script.specs.Answers.{output_of}
use Rattle.rs_script.specs.Broken.{BreaksLast, BreaksOff}
use Rattle.rs_script.specs.Progress.{Came, TookAll, GaveStatements, ReadsNoMore}
use Rattle.rs_script.specs.Script.{Ran}
use Rattle.rs_script.specs.Statements.{AreWholeStatements}

-- the bytes of an end that is seen by its bytes
abbrev pub bytes_of : Option (List ℕ) → Option (List ℕ)
bytes_of bytes = bytes

-- The whole input was answered, and all answers are flushed.
pub record EndsWell {D : Type 0} (device : D → DiskState) (old new : Stored D) (ends : Ends) : Type 0 where
  pub ran : Ran device old new
  pub took : TookAll bytes_of ends.left ends.rest ran.input
  pub wrote : Wrote bytes_of ends.before ends.after (output_of ran.outcomes)
  pub flushed : is_flushed ends.after ≡ true

-- A read failed, and all answers were flushed before it; or 2^40 reads did not reach the end. The whole statements were
-- answered; after them came at most a part of one, which was not.
pub record StopsReading {D : Type 0} (device : D → DiskState) (old new : Stored D) (ends : Ends) : Type 0 where
  pub ran : Ran device old new
  pub part : List ℕ
  pub gave : GaveStatements bytes_of ends.left ends.rest ran.input part
  pub wrote : Wrote bytes_of ends.before ends.after (output_of ran.outcomes)
  pub no_more : ReadsNoMore ends.left ends.rest ends.after (ran.input ++ part)

-- A call of the writer failed, and no call of the reader. The statements so far are done; they came whole, or the input
-- had ended. A write failed within the last answer, after the other ones; or a flush failed after all answers.
pub record StopsWriting {D : Type 0} (device : D → DiskState) (old new : Stored D) (ends : Ends) : Type 0 where
  pub ran : Ran device old new
  pub came : Came bytes_of ends.left ends.rest ran.input
  pub breaks : BreaksOff bytes_of ends.before ends.after ran.outcomes
  pub read : failures ends.rest ≡ failures ends.left

-- At most `turns` reads were made, of at most `size` bytes each, and no read after a failed one.
pub record ReadsWithin (turns size : ℕ) (left rest : End) : Type 0 where
  pub gave : List ℕ
  pub came : Consumes (watched left) (watched rest) gave
  pub bound : length gave ≤ turns * size
  pub reads : calls rest ≤ calls left + turns
  pub once : (failures rest).all ≤ (failures left).all + 1

-- The statements at the start of this input are done, up to one, and a write failed within its answer: the writer took
-- all earlier answers whole. The statements came whole, or the input had ended.
pub record StopsWithin {D W : Type 0} (device : D → DiskState) (contents : W → Option (List ℕ)) (old new : Stored D) (before after : Watched W) (input : List ℕ) : Type 0 where
  pub ran : Ran device old new
  pub tail : List ℕ
  pub input_is : input ≡ ran.input ++ tail
  pub come : AreWholeStatements ran.input ⊎ (tail ≡ [])
  pub breaks : BreaksLast contents before after ran.outcomes
