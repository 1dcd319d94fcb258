use Rattle.std.proofs.Common.{◌∙◌, ◌+◌, arith}
use Rattle.rs_lists.proofs.Escaping.{reference_written, run_over, run_on, run_within, reference_within, last_run}
use Rattle.rs_lists.proofs.escape.write_escaped.Goals.{in-Some+in_ok-put+in_ok-put-2, in_default}
use Rattle.rs_lists.proofs.FromBelow.{on_fault, failed_then, on_failed_last, wrote_then}
use Rattle.rs_lists.proofs.escape.write_escaped.Goals as goal

pub loop-i-preserved : goal.loop-i-preserved
loop-i-preserved g c =
    let b = c.args.bytes.now in
    let i = c.loop-i.i in
    let kept = c.loop-i.invariant in
    elim c.match-reference_of.branch [
      | in-Some+in_ok-put+in_ok-put-2 w ↦
          rw (w.out-is, w.start-is) (record {
            order = omega arith;
            written = (
              reference_written _ _ _ _ b _ c.loop-i.start i c.loop-i-test.true w.in-Some.ensures kept.run kept.written.0 w.in_ok-put.ensures.ok.0 w.in_ok-put-2.ensures.ok.0,
              w.in_ok-put-2.ensures.ok.1 ∙ w.in_ok-put.ensures.ok.1 ∙ kept.written.1,
            );
            run = run_over b (i + 1);
          })
      | in_default w ↦
          rw (w.out-is, w.start-is) (record { order = omega arith; written = kept.written; run = run_on b c.loop-i.start i kept.order c.loop-i-test.true w.in_default.ensures kept.run })
    ]

pub returns-in_err-put-clause-within : goal.returns-in_err-put-clause-within
returns-in_err-put-clause-within g c =
    let kept = c.loop-i.invariant in
    on_fault c.from_residual.result
    (failed_then g.W.Write.contents c.args.out.now c.loop-i.out c.put.new.self _ _ _ _ kept.written c.in_err-put.ensures.fault
    (run_within c.args.bytes.now c.loop-i.start c.loop-i.i kept.run))

pub returns-in_err-put-2-clause-within : goal.returns-in_err-put-2-clause-within
returns-in_err-put-2-clause-within g c =
    let kept = c.loop-i.invariant in
    let contents = g.W.Write.contents in
    on_fault c.from_residual-in_err-put-2.result
    (failed_then contents c.args.out.now c.put.new.self c.put-in-Some.new.self _ _ _ _ (wrote_then contents c.args.out.now c.loop-i.out c.put.new.self _ _ kept.written c.in_ok-put.ensures.ok)
    c.in_err-put-2.ensures.fault (reference_within c.args.bytes.now _ c.loop-i.start c.loop-i.i c.loop-i-test.true c.in-Some.ensures kept.run))

pub returns-clause-within : goal.returns-clause-within
returns-clause-within g c =
    let kept = c.loop-i.invariant in
    on_failed_last g.W.Write.contents c.put-2.result c.args.out.now c.loop-i.out c.put-2.new.self _ _ _ kept.written c.put-2.ensures.fault
    (last_run c.args.bytes.now c.loop-i.start c.loop-i.i c.loop-i-test.false kept.run)
