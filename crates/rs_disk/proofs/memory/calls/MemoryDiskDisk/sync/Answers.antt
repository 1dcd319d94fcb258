use Rattle.std.proofs.Common.{arith, refl, ◌∙◌, ap, is_ok}
use Rattle.rs_disk.specs.Medium.{Medium, resting}
use Rattle.rs_disk.specs.Calls.{Stays, Settles}
use Rattle.rs_disk.specs.Memory.{memory_state}
use Rattle.rs_disk.proofs.CallParts.{kept, changed, passes_from, ok_from, err_from, not_ok, on_err}
use Rattle.rs_disk.proofs.memory.calls.MemoryDiskDisk.sync.Goals as goal
use Rattle.rs_disk.proofs.memory.calls.MemoryDiskDisk.sync.Goals.{in-Works, in_default}

pub returns-clause-settles : goal.returns-clause-settles
returns-clause-settles c =
    let old = memory_state c.args.self.now in
    let new = memory_state c.end_call.new.self in
    let b = c.in_ok-call.ensures in
    elim c.match-step.branch [
      | in-Works w ↦
          ok_from w.settle.result c.end_call.result (ap is_ok (c.end_call.ensures.result ∙ w.done-is) ∙ w.map_err-done.ensures.variant)
          (λ changes.
          let total = changed old (memory_state c.begin_call.new.self) (memory_state w.settle.new.self) (memory_state c.match-step.self) new _ _ _ b.call b.state (ap memory_state w.self-is) c.end_call.ensures.state (λ (m : Medium). m) (λ (m : Medium). resting m.seen) changes in
          let settles : Settles old new = record { now = total.now; passes = passes_from old new old.now (resting old.now.seen) total } in
          settles)
          w.settle.ensures.ok
      | in_default w ↦ not_ok (Settles old new) c.end_call.result _ (c.end_call.ensures.result ∙ w.done-is)
    ]

pub returns-clause-stays : goal.returns-clause-stays
returns-clause-stays c =
    let d = c.args.self.now in
    let old = memory_state d in
    let new = memory_state c.end_call.new.self in
    let begun = memory_state c.begin_call.new.self in
    let b = c.in_ok-call.ensures in
    elim c.match-step.branch [
      | in-Works w ↦
          err_from w.settle.result c.end_call.result (ap is_ok (c.end_call.ensures.result ∙ w.done-is) ∙ w.map_err-done.ensures.variant)
          (kept old begun (memory_state w.settle.new.self) (memory_state c.match-step.self) new _ _ _ b.call b.state (ap memory_state w.self-is) c.end_call.ensures.state (d.replays d.calls (omega arith)))
          w.settle.ensures.err
      | in_default w ↦
          on_err (Stays old new) c.end_call.result
          (kept old begun begun (memory_state c.match-step.self) new _ _ _ b.call b.state (ap memory_state w.self-is) c.end_call.ensures.state (d.replays d.calls (omega arith)) (record { now = refl; past = λ m. refl }))
    ]
