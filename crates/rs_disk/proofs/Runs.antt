-- The disk's counts after a run of device calls: a run of no call, one call, and two runs in turn.
use Rattle.std.proofs.Common.{true≢false, ◌≡◌, ◌⊎◌, inl, inr, ⊎_elim, ◌+◌, ◌<◌, ◌≤◌, ◌^◌, refl, sym, ◌∙◌, ap, subst, arith, Result, Ok, Err, IsErr, OnOk, OnErr}
use Rattle.std.proofs.lemmas.Bool.{cases_lt}
use Rattle.rs_disk.specs.Medium.{Medium, DiskState, IsImage, IsMedium}
use Rattle.rs_disk.specs.Calls.{CountsCall, Stays, Settles}
use Rattle.rs_disk.specs.Leaves.{Leaves}
use Rattle.rs_disk.specs.Runs.{Runs, StopsAtFault, GoesNoFurther, RunsWriting, RunsReading, Advances, Rests, WritesNothing}
use Rattle.rs_disk.proofs.Steps.{started, goes_on, weaker, one_call, counts_calls, sync_leaves, exit_images}

-- of every device
pub runs_none : {A : Type 0} (disk : DiskState) → ¬ A → Runs A disk disk
runs_none disk none = record { size = refl; lasts = λ h. h; calls = omega arith; faults = omega arith; failed = λ told. absurd (none told); sound = λ _. refl }

pub runs_one : {T E : Type 0} (old new : DiskState) (result : Result T E) → CountsCall old new result → Runs (IsErr result) old new
runs_one old new (Ok x) counts = record {
  size = counts.size;
  lasts = counts.lasts;
  calls = (counts_calls old new (Ok x) counts).0;
  faults = let same : new.faults ≡ old.faults = counts.ok in omega arith;
  failed = λ told. absurd (true≢false (sym told));
  sound = λ _. counts.ok;
}
runs_one old new (Err e) counts = elim (cases_lt (old.calls + 1) (2 ^ 64)) [
  | inl more ↦
      let one : new.calls ≡ old.calls + 1 = counts.calls more in
      let fault : new.faults ≡ old.faults + 1 = counts.fault more in
      record { size = counts.size; lasts = counts.lasts; calls = omega arith; faults = omega arith; failed = λ _. inl (omega arith); sound = λ not. absurd (not refl) }
  | inr last ↦
      let calls : new.calls ≡ old.calls = ap (λ (d : DiskState). d.calls) (counts.spent last).0 in
      let faults : new.faults ≡ old.faults = ap (λ (d : DiskState). d.faults) (counts.spent last).0 in
      record { size = counts.size; lasts = counts.lasts; calls = omega arith; faults = omega arith; failed = λ _. inr (omega arith); sound = λ not. absurd (not refl) }
]

-- an answer that reports the device where the first one does
pub runs_as : {A B : Type 0} (old new : DiskState) → (A → B) → (B → A) → Runs A old new → Runs B old new
runs_as old new to from run = record {
  size = run.size;
  lasts = run.lasts;
  calls = run.calls;
  faults = run.faults;
  failed = λ told. run.failed (from told);
  sound = λ not. run.sound (λ told. not (to told));
}

-- two runs in turn: the answer reports the device where one of theirs does
pub runs_on : {A B C : Type 0} (old mid new : DiskState) → (A → C) → (B → C) → (C → A ⊎ B) → Runs A old mid → Runs B mid new → Runs C old new
runs_on old mid new left right split one two = record {
  size = two.size ∙ one.size;
  lasts = λ h. one.lasts (two.lasts h);
  calls = omega (arith, one.calls, two.calls);
  faults = omega (arith, one.faults, two.faults);
  failed = λ told. elim (split told) [
    | inl first ↦ ⊎_elim (λ rose. inl (omega (arith, rose, two.faults))) (λ last. inr (omega (arith, last, two.calls))) (one.failed first)
    | inr second ↦ ⊎_elim (λ rose. inl (omega (arith, rose, one.faults))) (λ last. inr last) (two.failed second)
  ];
  sound = λ not. two.sound (λ told. not (right told)) ∙ one.sound (λ told. not (left told));
}

-- a run that went well and then another, whose answer is that of both
pub runs_then : {A B : Type 0} (old mid new : DiskState) → ¬ A → Runs A old mid → Runs B mid new → Runs B old new
runs_then old mid new well one two = runs_on old mid new (λ told. absurd (well told)) (λ told. told) (λ told. inr told) one two

-- runs that stop at a fault
stops_none : (disk : DiskState) → StopsAtFault disk disk
stops_none disk = record { one = omega arith; last = λ rose. absurd (omega arith) }

stops_one : {T E : Type 0} (old new : DiskState) (result : Result T E) → CountsCall old new result → StopsAtFault old new
stops_one old new (Ok x) counts =
    let same : new.faults ≡ old.faults = counts.ok in
    record { one = omega arith; last = λ rose. absurd (omega (arith, rose)) }
stops_one old new (Err e) counts = elim (cases_lt (old.calls + 1) (2 ^ 64)) [
  | inl more ↦ let fault : new.faults ≡ old.faults + 1 = counts.fault more in record { one = omega arith; last = λ _. counts.failed more }
  | inr last ↦
      let same : new.faults ≡ old.faults = ap (λ (d : DiskState). d.faults) (counts.spent last).0 in
      record { one = omega arith; last = λ rose. absurd (omega (arith, rose)) }
]

pub stops_on : (old mid new : DiskState) → GoesNoFurther old mid new → mid.faults ≤ new.faults → StopsAtFault old mid → StopsAtFault mid new → StopsAtFault old new
stops_on old mid new no_further up one two = elim (cases_lt old.faults mid.faults) [
  | inl rose ↦ subst (λ (d : DiskState). StopsAtFault old d) (sym (no_further rose)) one
  | inr same ↦ record { one = omega (arith, same, two.one); last = λ rose. two.last (omega (arith, same, rose)) }
]

-- after a run without a failed call, any calls may follow
pub went_well : {A : Type 0} (old mid new : DiskState) → ¬ A → Runs A old mid → GoesNoFurther old mid new
went_well old mid new well one rose = let same : mid.faults ≡ old.faults = one.sound well in absurd (omega (arith, rose))

-- a counted call after a failed one
pub going_on : {T E : Type 0} (old mid new : DiskState) (result : Result T E) → old.faults < mid.faults → mid.calls + 1 < 2 ^ 64 → CountsCall mid new result → ¬ StopsAtFault old new
going_on old mid new (Ok x) rose more counts stops =
    let same : new.faults ≡ mid.faults = counts.ok in
    absurd (true≢false (sym (stops.last (omega (arith, rose))) ∙ counts.worked))
going_on old mid new (Err e) rose more counts stops =
    let fault : new.faults ≡ mid.faults + 1 = counts.fault more in
    absurd (omega (arith, rose, stops.one))

-- runs that write
pub writing_none : {A : Type 0} (disk : DiskState) → ¬ A → RunsWriting A disk disk
writing_none disk none = record { runs = runs_none disk none; keeps = refl; stops = stops_none disk }

pub writing_one : {T E : Type 0} (old new : DiskState) (result : Result T E) → CountsCall old new result → new.honest ≡ old.honest → RunsWriting (IsErr result) old new
writing_one old new result counts keeps = record { runs = runs_one old new result counts; keeps = keeps; stops = stops_one old new result counts }

pub writing_as : {A B : Type 0} (old new : DiskState) → (A → B) → (B → A) → RunsWriting A old new → RunsWriting B old new
writing_as old new to from run = record { runs = runs_as old new to from run.runs; keeps = run.keeps; stops = run.stops }

pub writing_on : {A B C : Type 0} (old mid new : DiskState) → (A → C) → (B → C) → (C → A ⊎ B) → GoesNoFurther old mid new → RunsWriting A old mid → RunsWriting B mid new → RunsWriting C old new
writing_on old mid new left right split no_further one two = record {
  runs = runs_on old mid new left right split one.runs two.runs;
  keeps = two.keeps ∙ one.keeps;
  stops = stops_on old mid new no_further two.runs.faults one.stops two.stops;
}

pub writing_then : {A B : Type 0} (old mid new : DiskState) → ¬ A → RunsWriting A old mid → RunsWriting B mid new → RunsWriting B old new
writing_then old mid new well one two = writing_on old mid new (λ told. absurd (well told)) (λ told. told) (λ told. inr told) (went_well old mid new well one.runs) one two

-- runs that change only the counts
pub reading_none : {A : Type 0} (disk : DiskState) → ¬ A → RunsReading A disk disk
reading_none disk none = record { runs = runs_none disk none; now = refl; leaves = started disk (λ _. IsImage disk.now) (λ image left. left); stops = stops_none disk }

pub reading_one : {T E : Type 0} (old new : DiskState) (result : Result T E) → CountsCall old new result → Stays old new → RunsReading (IsErr result) old new
reading_one old new result counts stays =
    let calls = counts_calls old new result counts in
    record {
      runs = runs_one old new result counts;
      now = stays.now;
      leaves = one_call old new (λ _. IsImage old.now) old.now stays.passes calls.0 calls.1 (λ image left. left) (λ image left. subst (λ (m : Medium). IsImage m image) stays.now left);
      stops = stops_one old new result counts;
    }

pub reading_as : {A B : Type 0} (old new : DiskState) → (A → B) → (B → A) → RunsReading A old new → RunsReading B old new
reading_as old new to from run = record { runs = runs_as old new to from run.runs; now = run.now; leaves = run.leaves; stops = run.stops }

pub reading_on : {A B C : Type 0} (old mid new : DiskState) → (A → C) → (B → C) → (C → A ⊎ B) → GoesNoFurther old mid new → RunsReading A old mid → RunsReading B mid new → RunsReading C old new
reading_on old mid new left right split no_further one two = record {
  runs = runs_on old mid new left right split one.runs two.runs;
  now = two.now ∙ one.now;
  leaves = goes_on old mid new (λ _. IsImage old.now) one.leaves (subst (λ (m : Medium). Leaves mid new (λ _. IsImage m)) one.now two.leaves);
  stops = stops_on old mid new no_further two.runs.faults one.stops two.stops;
}

pub reading_then : {A B : Type 0} (old mid new : DiskState) → ¬ A → RunsReading A old mid → RunsReading B mid new → RunsReading B old new
reading_then old mid new well one two = reading_on old mid new (λ told. absurd (well told)) (λ told. told) (λ told. inr told) (went_well old mid new well one.runs) one two

-- any calls
pub advances : {A : Type 0} (old new : DiskState) → RunsWriting A old new → Advances old new
advances old new run = record { size = run.runs.size; keeps = run.keeps; calls = run.runs.calls; faults = run.runs.faults }

pub rests : {A : Type 0} (old new : DiskState) → RunsReading A old new → Rests old new
rests old new run = record {
  size = run.runs.size;
  lasts = run.runs.lasts;
  calls = run.runs.calls;
  faults = run.runs.faults;
  now = run.now;
  leaves = run.leaves;
}

pub advances_on : (old mid new : DiskState) → Advances old mid → Advances mid new → Advances old new
advances_on old mid new one two = record {
  size = two.size ∙ one.size;
  keeps = two.keeps ∙ one.keeps;
  calls = omega (arith, one.calls, two.calls);
  faults = omega (arith, one.faults, two.faults);
}

pub rests_on : (old mid new : DiskState) → Rests old mid → Rests mid new → Rests old new
rests_on old mid new one two = record {
  size = two.size ∙ one.size;
  lasts = λ honest. one.lasts (two.lasts honest);
  calls = omega (arith, one.calls, two.calls);
  faults = omega (arith, one.faults, two.faults);
  now = two.now ∙ one.now;
  leaves = goes_on old mid new (λ _. IsImage old.now) one.leaves (subst (λ (m : Medium). Leaves mid new (λ _. IsImage m)) one.now two.leaves);
}

-- A run that changes only the counts writes no bytes.
pub nothing_read : {A : Type 0} (old new : DiskState) → RunsReading A old new → WritesNothing A old new
nothing_read old new run = record { runs = run.runs; seen = ap (λ (m : Medium). m.seen) run.now; leaves = run.leaves; stops = run.stops }

seen_synced : {E : Type 0} (old new : DiskState) (result : Result (Unit {0}) E) → OnOk result (Settles old new) → OnErr result (Stays old new) → new.now.seen ≡ old.now.seen
seen_synced old new (Ok x) ok err = ap (λ (m : Medium). m.seen) ok.now
seen_synced old new (Err e) ok err = ap (λ (m : Medium). m.seen) err.now

-- A sync writes no bytes.
pub nothing_synced : {E : Type 0} (old new : DiskState) (result : Result (Unit {0}) E) → CountsCall old new result → IsMedium old.size old.now
    → OnOk result (Settles old new) → OnErr result (Stays old new) → WritesNothing (IsErr result) old new
nothing_synced old new result counts is ok err =
    record {
      runs = runs_one old new result counts;
      seen = seen_synced old new result ok err;
      leaves = sync_leaves old new (IsImage old.now) result counts is ok err (λ image left. left);
      stops = stops_one old new result counts;
    }

pub nothing_on : {A B C : Type 0} (old mid new : DiskState) → (A → C) → (B → C) → (C → A ⊎ B) → GoesNoFurther old mid new → WritesNothing A old mid → WritesNothing B mid new → WritesNothing C old new
nothing_on old mid new left right split no_further one two = record {
  runs = runs_on old mid new left right split one.runs two.runs;
  seen = two.seen ∙ one.seen;
  leaves = goes_on old mid new (λ _. IsImage old.now) one.leaves
      (weaker mid new (λ _. IsImage mid.now) (λ _. IsImage old.now) (λ m image is. exit_images old mid (λ _. IsImage old.now) one.leaves image is) two.leaves);
  stops = stops_on old mid new no_further two.runs.faults one.stops two.stops;
}

pub nothing_then : {A B : Type 0} (old mid new : DiskState) → ¬ A → WritesNothing A old mid → WritesNothing B mid new → WritesNothing B old new
nothing_then old mid new well one two = nothing_on old mid new (λ told. absurd (well told)) (λ told. told) (λ told. inr told) (went_well old mid new well one.runs) one two
