-- Runs of calls of both disks of a copy: of one disk, one after another, and with another answer.
use Rattle.std.proofs.Common.{◌≡◌, inl, inr, ◌≤◌, List, Result, Err, refl, ◌∙◌, arith}
use Rattle.std.specs.Prelude.{IsErrOf}
use Rattle.std.specs.Result.{IsErrAnd}
use Rattle.rs_disk.specs.Medium.{DiskState}
use Rattle.rs_disk.specs.Runs.{GoesNoFurther, HasFailed, RunsReading, RunsWriting, StopsAtFault}
use Rattle.rs_copy.proofs.FromBelow.{reading_none, writing_none, stops_on, rests, rests_on, advances, advances_on, outside_on}
use Rattle.rs_extent.specs.declared.Extent.{Extent}
use Rattle.rs_extent.specs.Extents.{in_some, IsSubset}
use Rattle.rs_body.specs.Outside.{WritesOnly}
use Rattle.rs_copy.specs.declared.faults.CopyFault.{CopyFault}
use Rattle.rs_copy.specs.Copies.{Disks}
use Rattle.rs_copy.specs.Copying.{CopiesOnly, RunsCopying}
use Rattle.rs_copy.proofs.Handed.{handed_err, told_on}

-- a failure in the second of two runs is one of both
failed_then : (old mid new : DiskState) → old.faults ≤ mid.faults → HasFailed mid new → HasFailed old new
failed_then old mid new up (inl more) = inl (omega (arith, more, up))
failed_then old mid new up (inr spent) = inr spent

pub copying_as : {A B : Type 0} {old new : Disks} → (A → B) → (B → A) → RunsCopying A old new → RunsCopying B old new
copying_as to from run = record {
  rests = run.rests;
  advances = run.advances;
  failed = λ blames. run.failed (from blames);
  sound = λ not. run.sound (λ blames. not (to blames));
  stops = run.stops;
}

-- after a run without a failed call
stops_behind : (old mid new : DiskState) → mid.faults ≡ old.faults → mid.faults ≤ new.faults → StopsAtFault old mid → StopsAtFault mid new → StopsAtFault old new
stops_behind old mid new same up one two =
    let no_further : GoesNoFurther old mid new = λ rose. absurd (omega (arith, rose, same)) in
    stops_on old mid new no_further up one two

pub copying_then : {A B : Type 0} {old mid new : Disks} → ¬ A → RunsCopying A old mid → RunsCopying B mid new → RunsCopying B old new
copying_then {old = old} {mid = mid} {new = new} well one two = record {
  rests = rests_on old.from mid.from new.from one.rests two.rests;
  advances = advances_on old.to mid.to new.to one.advances two.advances;
  failed = λ blames. elim (two.failed blames) [
    | inl read ↦ inl (failed_then old.from mid.from new.from one.rests.faults read)
    | inr written ↦ inr (failed_then old.to mid.to new.to one.advances.faults written)
  ];
  sound = λ not. ((two.sound not).0 ∙ (one.sound well).0, (two.sound not).1 ∙ (one.sound well).1);
  stops = record {
    from = stops_behind old.from mid.from new.from (one.sound well).0 two.rests.faults one.stops.from two.stops.from;
    to = stops_behind old.to mid.to new.to (one.sound well).1 two.advances.faults one.stops.to two.stops.to;
    one = λ rose. two.stops.one (omega (arith, rose, (one.sound well).0)) ∙ (one.sound well).1;
  };
}

pub copying_read : {A : Type 0} (old new to : DiskState) → RunsReading A old new → RunsCopying A (record { from = old; to = to }) (record { from = new; to = to })
copying_read old new to run = record {
  rests = rests old new run;
  advances = advances to to (writing_none {A = ⊥} to (λ none. none));
  failed = λ blames. inl (run.runs.failed blames);
  sound = λ not. (run.runs.sound not, refl);
  stops = record { from = run.stops; to = (writing_none {A = ⊥} to (λ none. none)).stops; one = λ rose. refl };
}

pub copying_write : {A : Type 0} (from old new : DiskState) → RunsWriting A old new → RunsCopying A (record { from = from; to = old }) (record { from = from; to = new })
copying_write from old new run = record {
  rests = rests from from (reading_none {A = ⊥} from (λ none. none));
  advances = advances old new run;
  failed = λ blames. inr (run.runs.failed blames);
  sound = λ not. (refl, run.runs.sound not);
  stops = record { from = (reading_none {A = ⊥} from (λ none. none)).stops; to = run.stops; one = λ rose. absurd (omega (arith, rose)) };
}

-- The same for runs that write only some extents of the second disk.
pub copies_as : {A B : Type 0} {xs : List Extent} {old new : Disks} → (A → B) → (B → A) → CopiesOnly xs A old new → CopiesOnly xs B old new
copies_as to from run = record { runs = copying_as to from run.runs; outside = run.outside }

pub copies_handed : {S T : Type 0} {xs : List Extent} {old new : Disks} (r : Result T CopyFault) (e fault : CopyFault) → IsErrAnd r (λ y. y ≡ e)
    → CopiesOnly xs (IsErrOf {T = S} (Err e) fault) old new → CopiesOnly xs (IsErrOf r fault) old new
copies_handed {S} r e fault handed run = copies_as (told_on {S = S} r e fault handed) (handed_err r e fault handed) run

pub copies_then : {A B : Type 0} {xs ys : List Extent} {old mid new : Disks} (zs : List Extent) → IsSubset (in_some xs) (in_some zs) → IsSubset (in_some ys) (in_some zs)
    → ¬ A → CopiesOnly xs A old mid → CopiesOnly ys B mid new → CopiesOnly zs B old new
copies_then {old = old} {mid = mid} {new = new} zs first second well one two = record {
  runs = copying_then well one.runs two.runs;
  outside = λ kept beside. outside_on kept old.to mid.to new.to (one.outside kept (λ b is. beside b (first b is))) (two.outside kept (λ b is. beside b (second b is)));
}

pub copies_within : {A : Type 0} {xs : List Extent} {old new : Disks} (zs : List Extent) → IsSubset (in_some xs) (in_some zs) → CopiesOnly xs A old new → CopiesOnly zs A old new
copies_within zs part run = record { runs = run.runs; outside = λ kept beside. run.outside kept (λ b is. beside b (part b is)) }

pub copies_read : {A B : Type 0} {xs : List Extent} {old mid : Disks} {from : DiskState} → ¬ A → CopiesOnly xs A old mid → RunsReading B mid.from from
    → CopiesOnly xs B old (record { from = from; to = mid.to })
copies_read {mid = mid} {from = from} well one run = record { runs = copying_then well one.runs (copying_read mid.from from mid.to run); outside = one.outside }

pub copies_write : {A B : Type 0} {xs ys : List Extent} {old mid : Disks} {to : DiskState} → IsSubset (in_some ys) (in_some xs)
    → ¬ A → CopiesOnly xs A old mid → WritesOnly ys B mid.to to → CopiesOnly xs B old (record { from = mid.from; to = to })
copies_write {xs = xs} {mid = mid} {to = to} part well one run =
    copies_then xs (λ b is. is) part well one (record { runs = copying_write mid.from mid.to to run.runs; outside = run.outside })
