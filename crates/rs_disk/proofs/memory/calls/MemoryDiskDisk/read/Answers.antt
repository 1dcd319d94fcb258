use Rattle.std.proofs.Common.{arith, refl}
use Rattle.rs_disk.specs.Memory.{memory_state}
use Rattle.rs_disk.proofs.CallParts.{kept}
use Rattle.rs_disk.proofs.memory.calls.MemoryDiskDisk.read.Goals as goal

pub returns-clause-stays : goal.returns-clause-stays
returns-clause-stays c =
    let d = c.args.self.now in
    let b = c.in_ok-begin_call.ensures in
    let begun = memory_state c.begin_call.new.self in
    kept (memory_state d) begun begun begun (memory_state c.end_call.new.self) _ _ _ b.call b.state refl c.end_call.ensures.state (d.replays d.calls (omega arith)) (record { now = refl; past = λ m. refl })
