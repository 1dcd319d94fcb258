-- The bytes taken and those after them are all the bytes.
use Rattle.std.proofs.Common.{◌≡◌, ◌+◌, ◌<◌, ◌≤◌, ◌-◌, ℕ, List, [], ◌++◌, length, take, drop, refl, sym, ap, ◌∙◌, take-append-drop, length-drop, arith}
use Rattle.std.proofs.Math.Seq.{take-add}
use Rattle.std.proofs.lemmas.List.{take_rest}
use Rattle.std.proofs.KnownBytes.{Keeps-refl}
use Rattle.std.specs.Io.KnownBytes.{Keeps}
use Rattle.rs_io.specs.Watch.{watched, Wrote}
use Rattle.rs_io.proofs.Faults.{on_fault, failed_last, failed_at_once}
use Rattle.rs_io.proofs.Growth.{appends_then}
use Rattle.rs_io.proofs.watch.Watched.put.Goals as goal

-- the bytes after the first n
rest_of : (bytes : List ℕ) (n : ℕ) → take n bytes ++ take (length bytes - n) (drop n bytes) ≡ bytes
rest_of bytes n = ap (λ l. take n bytes ++ l) (take_rest bytes n) ∙ take-append-drop n bytes

-- the first n bytes, and then m more
more_of : (bytes : List ℕ) (n m : ℕ) → take n bytes ++ take m (take (length bytes - n) (drop n bytes)) ≡ take (n + m) bytes
more_of bytes n m = ap (λ l. take n bytes ++ take m l) (take_rest bytes n) ∙ sym (take-add n m bytes)

pub returns-in_err-count-clause-fault : goal.returns-in_err-count-clause-fault
returns-in_err-count-clause-fault g c =
    on_fault c.from_residual.result
    (failed_last g.W.Write.contents c.args.self.now _ _ _ _ _ c.loop-written.invariant.wrote c.in_err-count.ensures.fault (rest_of c.args.bytes.now c.loop-written.written))

pub returns-in-None-2-clause-fault : goal.returns-in-None-2-clause-fault
returns-in-None-2-clause-fault g c =
    let contents = g.W.Write.contents in
    let bytes = c.args.bytes.now in
    let written = c.loop-written.written in
    let tried = c.put_some.new.self in
    let nothing : Wrote contents c.loop-written.self tried [] = rw c.in-None.is at c.in_ok-count.ensures.ok in
    let rest = take (length bytes - written) (drop written bytes) in
    let after = c.count_failure-in-None-2.new.self in
    let kept : Keeps (contents (watched tried)) (contents (watched after)) = rw c.count_failure-in-None-2.ensures.inner (Keeps-refl _) in
    failed_last contents c.args.self.now c.loop-written.self after _ rest _ c.loop-written.invariant.wrote
    (failed_last contents c.loop-written.self tried after [] rest rest nothing (failed_at_once contents tried after rest kept c.count_failure-in-None-2.ensures.failed) refl)
    (rest_of bytes written)

pub loop-written-preserved-in-Some : goal.loop-written-preserved-in-Some
loop-written-preserved-in-Some g c =
    let bytes = c.args.bytes.now in
    let written = c.loop-written.written in
    let count = c.in-Some.count in
    let rest = take (length bytes - written) (drop written bytes) in
    let took : Wrote g.W.Write.contents c.loop-written.self c.put_some.new.self (take count rest) = rw c.in-Some.is at c.in_ok-count.ensures.ok in
    let most : count ≤ length rest = rw c.in-Some.is at c.in_ok-count.ensures.most in
    let some : 0 < count = rw c.in-Some.is at c.in_ok-count.ensures.some in
    let room : length rest ≡ length bytes - written = ap (λ l. length l) (take_rest bytes written) ∙ length-drop written bytes in
    record {
      within = omega (arith, most, room, c.loop-written.invariant.within);
      few = c.loop-written.invariant.few;
      wrote = (appends_then _ _ _ _ _ _ c.loop-written.invariant.wrote.0 took.0 (more_of bytes written count), took.1 ∙ c.loop-written.invariant.wrote.1);
      unflushed = c.in_ok-count.ensures.flushed ∙ c.loop-written.invariant.unflushed;
      calls = grind (arith, c.loop-written.invariant.calls, c.in_ok-count.ensures.called);
      tried = grind (arith, c.loop-written.invariant.tried, c.in_ok-count.ensures.called, some);
    }
