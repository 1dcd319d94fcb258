-- The turns of a script: every turn reads once, and takes the bytes that came.
use Rattle.std.proofs.Common.{◌≡◌, ℕ, ◌+◌, ◌*◌, ◌≤◌, ◌^◌, List, [], ◌∷◌, ◌++◌, length, take, Option, IsTrue, false, sym, ap, ◌∙◌, append_assoc, append-nil, arith, subst, inl, inr}
use Rattle.std.proofs.KnownBytes.{Consumes-trans, Appends-kept}
use Rattle.std.proofs.lemmas.Grind.{flat_map-append}
use Rattle.std.specs.Io.KnownBytes.{Consumes, Appends, Keeps as KnownKeeps}
use Rattle.std.specs.Prelude.{All}
use Rattle.rs_disk.specs.Medium.{DiskState}
use Rattle.rs_io.specs.declared.watch.Watched.{Watched}
use Rattle.rs_io.specs.Watch.{watched, calls, failures, is_broken, seen_by, IsCalledOnce, Took, FlushFailed, ends_of}
use Rattle.rs_store.specs.Source.{Stored}
use Rattle.rs_model.specs.declared.command.Command.{Command}
use Rattle.rs_script.specs.Answers.{outcome_text, output_of}
use Rattle.rs_script.specs.Broken.{BreaksLast}
use Rattle.rs_script.specs.Finished.{bytes_of, StopsReading, StopsWriting, ReadsWithin}
use Rattle.rs_script.specs.Progress.{IsCalled, Beginning, Stand, Progress, Answered, Came, ReadsNoMore}
use Rattle.rs_script.specs.Script.{ScriptGives, ScriptsRecover, ScriptsMakeWalks}
use Rattle.rs_script.specs.Session.{script_state, LineOutcome}
use Rattle.rs_script.specs.Told.{NamesAreLawful, ScriptsDoStatements, ScriptsTellNames, TellsStatements}
use Rattle.rs_script.proofs.ReaderCalls.{one_more, calls_more}
use Rattle.rs_script.proofs.Steps.{Progress-whole, ran_of, broke_after, no_more}

-- the beginning of a script: from the moment 0 on
abbrev pub from_start : {D W : Type 0} → Stored D → Watched W → Beginning D W
from_start source writer = record { session = script_state source 0; writer = writer }

-- n reads gave these bytes, at most 65,536 each, and no read failed
pub record Reads {R : Type 0} (remaining : R → Option (List ℕ)) (first : Watched R) (n : ℕ) (reader : Watched R) (input : List ℕ) : Type 0 where
  pub took : Took remaining first reader input
  pub most : length input ≤ n * 65536
  pub called : IsCalled n first reader
  pub counted : calls reader ≤ calls first + n

-- one read more
abbrev pub read_more : {R : Type 0} (remaining : R → Option (List ℕ)) (first reader next : Watched R) (n count : ℕ) (input buf : List ℕ) → Reads remaining first n reader input
    → Took remaining reader next (take count buf) → count ≤ length buf → length buf ≡ 65536 → IsCalledOnce reader next → Reads remaining first (n + 1) next (input ++ take count buf)
read_more remaining first reader next n count input buf reads took fits room once = record {
  took = (
    Consumes-trans (remaining (watched first)) (remaining (watched reader)) (remaining (watched next)) input (take count buf) reads.took.0 took.0,
    took.1 ∙ reads.took.1,
  );
  most = no_more n count input buf reads.most fits room;
  called = one_more first reader next n reads.called once;
  counted = calls_more first reader next n reads.counted once;
}

pub reads_within : {R : Type 0} (remaining : R → Option (List ℕ)) (first reader : Watched R) (n : ℕ) (input : List ℕ) → Reads remaining first n reader input → n ≤ 2 ^ 40
    → ReadsWithin (2 ^ 40) 65536 (seen_by remaining first) (seen_by remaining reader)
reads_within remaining first reader n input reads few = record {
  gave = input;
  came = reads.took.0;
  bound = omega (arith, reads.most, few);
  reads = omega (arith, reads.counted, few);
  once = omega (arith, ap (λ f. f.all) reads.took.1);
}

-- The bytes of n reads have been taken, and every read gave at least one byte. An end that had failed gives and takes
-- no bytes.
pub record Turned {D R W : Type 0} (device : D → DiskState) (remaining : R → Option (List ℕ)) (contents : W → Option (List ℕ)) (start : Stored D) (first : Watched R) (before : Watched W)
    (n : ℕ) (reader : Watched R) (here : Stand D W) : Type 0 where
  pub input : List ℕ
  pub reads : Reads remaining first n reader input
  pub progress : Progress device contents (from_start start before) input here
  pub some : n ≤ length input
  pub writer_still : IsTrue (is_broken before) → (here.writer ≡ before) × (reader ≡ first) × (here.source ≡ start)
  pub reader_still : IsTrue (is_broken first) → (reader ≡ first) × (here.source ≡ start)

-- a writer that failed within an answer, as its bytes show it
seen_within : {W : Type 0} (contents : W → Option (List ℕ)) (a b : Watched W) (outcomes : List LineOutcome) → BreaksLast contents a b outcomes
    → BreaksLast bytes_of (seen_by contents a) (seen_by contents b) outcomes
seen_within contents a b outcomes breaks = record {
  whole = breaks.whole;
  last = breaks.last;
  outcomes_are = breaks.outcomes_are;
  failed = record {
    failed = breaks.failed.failed;
    part = breaks.failed.part;
    left_out = breaks.failed.left_out;
    bytes_are = breaks.failed.bytes_are;
    took = breaks.failed.took;
  };
}

module _ {D R W : Type 0} (device : D → DiskState) (remaining : R → Option (List ℕ)) (contents : W → Option (List ℕ)) (laws : ScriptsRecover device × ScriptsMakeWalks device)
    (start : Stored D) (first : Watched R) (before : Watched W) (reader : Watched R) (here : Stand D W) (input : List ℕ) where
  -- no more is read
  pub stops_reading : Progress device contents (from_start start before) input here → Consumes (remaining (watched first)) (remaining (watched reader)) input
      → ReadsNoMore first reader here.writer input → StopsReading device start here.source (ends_of remaining first reader contents before here.writer)
  stops_reading progress came why =
      let whole = Progress-whole device contents laws start before input here progress in
      record {
        ran = whole.0;
        part = whole.1;
        gave = (subst (λ (bytes : List ℕ). Consumes (remaining (watched first)) (remaining (watched reader)) bytes) whole.2 came, whole.3, whole.4);
        wrote = whole.5;
        no_more = subst (λ (bytes : List ℕ). ReadsNoMore first reader here.writer bytes) whole.2 why;
      }

  -- a flush failed before the next read
  pub stops_flushing : (after : Watched W) → Progress device contents (from_start start before) input here → Took remaining first reader input
      → KnownKeeps (contents (watched here.writer)) (contents (watched after)) → FlushFailed here.writer after → (failures after).all ≤ (failures here.writer).all + 1
      → StopsWriting device start here.source (ends_of remaining first reader contents before after)
  stops_flushing after progress took kept failed once =
      let whole = Progress-whole device contents laws start before input here progress in
      record {
        ran = whole.0;
        came = inl ((whole.1, subst (λ (bytes : List ℕ). Consumes (remaining (watched first)) (remaining (watched reader)) bytes) whole.2 took.0), whole.3);
        breaks = inr (broke_after bytes_of (seen_by contents before) (seen_by contents here.writer) (seen_by contents after) whole.0.outcomes whole.5 kept failed once);
        read = took.1;
      }

  -- a put failed within the last answer
  pub stops_within : Answered device contents (from_start start before) input here → Came remaining first reader input → is_broken before ≡ false → failures reader ≡ failures first
      → StopsWriting device start here.source (ends_of remaining first reader contents before here.writer)
  stops_within (outcomes, commands, gives, breaks) came sound read = record {
    ran = ran_of device laws start here.source input outcomes commands here.pending.between.moment gives;
    came = came;
    breaks = inl (record { sound = sound; within = seen_within contents before here.writer outcomes breaks });
    read = read;
  }

-- the reported outcomes of the statements
module _ {D R W : Type 0} (device : D → DiskState) (remaining : R → Option (List ℕ)) (contents : W → Option (List ℕ)) (laws : ScriptsRecover device × ScriptsMakeWalks device)
    (doing : ScriptsDoStatements device × ScriptsTellNames device) (start : Stored D) (first reader : Watched R) (before after : Watched W) where
  Tells : Stored D → Type 0
  Tells new = TellsStatements device start new (ends_of remaining first reader contents before after)

  module _ (new : Stored D) (last : ℕ) (input : List ℕ) (outcomes : List LineOutcome) (commands : List (Command × ℕ))
      (gives : ScriptGives device (script_state start 0) input outcomes commands (script_state new last))
      (came : Came remaining first reader input) where
    -- these bytes of the answers are written
    tells : (part left_out : List ℕ) → part ++ left_out ≡ output_of outcomes → Appends (contents (watched before)) (contents (watched after)) part → Tells new
    unfolding Tells
    tells part left_out bytes took =
        let all = doing.0 (script_state start 0) (script_state new last) input outcomes commands gives in
        record {
          done = all.done;
          input = input;
          came = came;
          cut = all.cut;
          done_so = all.done_so;
          in_turn = all.in_turn;
          named = λ s holds honest. subst (All NamesAreLawful) (sym all.outcomes_are)
              (doing.1 (script_state start 0) (script_state new last) input outcomes commands gives s holds honest);
          part = part;
          left_out = left_out;
          bytes_are = bytes ∙ ap output_of (sym all.outcomes_are);
          took = took;
        }

    -- all answers are written
    pub tells_all : Appends (contents (watched before)) (contents (watched after)) (output_of outcomes)
        → TellsStatements device start new (ends_of remaining first reader contents before after)
    unfolding Tells
    tells_all took = tells (output_of outcomes) [] (append-nil (output_of outcomes)) took

    -- the last one is written in part
    pub tells_part : BreaksLast contents before after outcomes → TellsStatements device start new (ends_of remaining first reader contents before after)
    unfolding Tells
    tells_part breaks =
        let whole = output_of breaks.whole in
        let text = outcome_text breaks.last in
        let last_one : output_of (breaks.last ∷ []) ≡ text = append-nil text in
        let all : output_of outcomes ≡ whole ++ text =
        ap output_of breaks.outcomes_are ∙ flat_map-append outcome_text breaks.whole (breaks.last ∷ []) ∙ ap (λ l. whole ++ l) last_one in
        tells (whole ++ breaks.failed.part) breaks.failed.left_out
        (append_assoc whole breaks.failed.part breaks.failed.left_out ∙ ap (λ l. whole ++ l) breaks.failed.bytes_are ∙ sym all) breaks.failed.took

  -- between two reads
  pub tells_so_far : (here : Stand D W) (input : List ℕ) → Progress device contents (from_start start before) input here
      → Consumes (remaining (watched first)) (remaining (watched reader)) input
      → KnownKeeps (contents (watched here.writer)) (contents (watched after))
      → TellsStatements device start here.source (ends_of remaining first reader contents before after)
  tells_so_far here input progress came kept =
      let whole = Progress-whole device contents laws start before input here progress in
      let ran = whole.0 in
      tells_all here.source ran.last ran.input ran.outcomes ran.commands ran.gives
      (inl ((whole.1, subst (λ (bytes : List ℕ). Consumes (remaining (watched first)) (remaining (watched reader)) bytes) whole.2 came), whole.3))
      (Appends-kept (contents (watched before)) (contents (watched here.writer)) (contents (watched after)) (output_of ran.outcomes) whole.5.0 kept)
