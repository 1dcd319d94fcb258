use Rattle.std.proofs.Common.{arith, refl, ◌∙◌, ◌≡◌, ◌≤◌, ◌/◌, ℕ, [], ap, is_ok, length, take, length-take}
use Rattle.rs_disk.specs.Medium.{Medium, widened, written}
use Rattle.rs_disk.specs.Calls.{Writes, Tears}
use Rattle.rs_disk.specs.Memory.{memory_state}
use Rattle.rs_disk.proofs.CallParts.{kept, changed, torn_put, passes_from, refuses_from, ok_from, err_from, not_ok, on_err}
use Rattle.rs_disk.proofs.memory.calls.MemoryDiskDisk.write.Goals as goal
use Rattle.rs_disk.proofs.memory.calls.MemoryDiskDisk.write.Goals.{in-Works, in-FailsHalfway, in-FailsAtStart, in-Refused}

pub returns-clause-writes : goal.returns-clause-writes
returns-clause-writes c =
    let at = c.args.at in
    let bytes = c.args.bytes.now in
    let old = memory_state c.args.self.now in
    let new = memory_state c.end_call.new.self in
    let b = c.in_ok-call.ensures in
    elim c.match-step.branch [
      | in-Works w ↦
          ok_from w.put.result c.end_call.result (ap is_ok (c.end_call.ensures.result ∙ w.done-is) ∙ w.map_err-done.ensures.variant)
          (λ changes.
          let total = changed old (memory_state c.begin_call.new.self) (memory_state w.put.new.self) (memory_state c.match-step.self) new _ _ _ b.call b.state (ap memory_state w.self-is) c.end_call.ensures.state (λ (m : Medium). widened m at (length bytes)) (λ (m : Medium). written m at bytes) changes in
          let writes : Writes at bytes old new = record { now = total.now; passes = passes_from old new (widened old.now at (length bytes)) (written old.now at bytes) total } in
          writes)
          w.put.ensures.ok
      | in-FailsHalfway w ↦ not_ok (Writes at bytes old new) c.end_call.result _ (c.end_call.ensures.result ∙ w.done-is)
      | in-FailsAtStart w ↦ not_ok (Writes at bytes old new) c.end_call.result _ (c.end_call.ensures.result ∙ w.done-is)
      | in-Refused w ↦ not_ok (Writes at bytes old new) c.end_call.result _ (c.end_call.ensures.result ∙ w.done-is)
    ]

pub returns-clause-tears : goal.returns-clause-tears
returns-clause-tears c =
    let d = c.args.self.now in
    let at = c.args.at in
    let bytes = c.args.bytes.now in
    let n : ℕ = length bytes in
    let half : length (take (n / 2) bytes) ≤ n = omega (arith, length-take (n / 2) bytes) in
    let none : length {A = ℕ} [] ≤ n = omega arith in
    let old = memory_state d in
    let begun = memory_state c.begin_call.new.self in
    let mid = memory_state c.match-step.self in
    let new = memory_state c.end_call.new.self in
    let b = c.in_ok-call.ensures in
    let current : old.within old.calls ≡ old.now = d.replays d.calls (omega arith) in
    elim c.match-step.branch [
      | in-Works w ↦
          err_from w.put.result c.end_call.result (ap is_ok (c.end_call.ensures.result ∙ w.done-is) ∙ w.map_err-done.ensures.variant)
          (λ keeps. refuses_from old new at n (kept old begun (memory_state w.put.new.self) mid new _ _ _ b.call b.state (ap memory_state w.self-is) c.end_call.ensures.state current keeps))
          w.put.ensures.err
      | in-FailsHalfway w ↦
          on_err (Tears at n old new) c.end_call.result
          (torn_put old begun (memory_state w.put-noted.new.self) mid new _ _ _ b.call b.state (ap memory_state w.self-is) c.end_call.ensures.state
          at n (take (n / 2) bytes) w.put-noted.result d.contents.sound c.requires half current w.put-noted.ensures.ok w.put-noted.ensures.err)
      | in-FailsAtStart w ↦
          on_err (Tears at n old new) c.end_call.result
          (torn_put old begun (memory_state w.put-noted-in-FailsAtStart.new.self) mid new _ _ _ b.call b.state (ap memory_state w.self-is) c.end_call.ensures.state
          at n [] w.put-noted-in-FailsAtStart.result d.contents.sound c.requires none current w.put-noted-in-FailsAtStart.ensures.ok w.put-noted-in-FailsAtStart.ensures.err)
      | in-Refused w ↦
          on_err (Tears at n old new) c.end_call.result
          (refuses_from old new at n (kept old begun begun mid new _ _ _ b.call b.state (ap memory_state w.self-is) c.end_call.ensures.state current (record { now = refl; past = λ m. refl })))
    ]
