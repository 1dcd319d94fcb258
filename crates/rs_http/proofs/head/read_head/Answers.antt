-- The bytes that came stay, and the next byte ends them or does not.
use Rattle.std.proofs.Common.{◌<◌, ◌≤◌, ◌+◌, take, set, length, arith, refl, sym, ◌∙◌}
use Rattle.std.proofs.lemmas.Grind.{common_steps}
use Rattle.std.proofs.KnownBytes.{Consumes-nil, Consumes-kept}
use Rattle.rs_io.specs.Watch.{watched}
use Rattle.rs_http.proofs.FromBelow.{reads_last}
use Rattle.rs_http.proofs.Ends.{HasNoEnd-more, IsHead-more, came_more, no_end_at_none, on_err}
use Rattle.rs_http.proofs.head.read_head.Goals as goal

pub loop-came-init : goal.loop-came-init
loop-came-init g c = record {
  came = (Consumes-nil (g.R.Read.remaining (watched c.args.reader.now)), refl);
  reads = omega arith;
  open_yet = no_end_at_none;
}

pub returns-in_err-byte-clause-err : goal.returns-in_err-byte-clause-err
returns-in_err-byte-clause-err g c =
    let bytes = take c.loop-came.came c.loop-came.buf in
    let small : c.loop-came.came < length c.loop-came.buf = omega arith in
    let short : length bytes < 8192 = grind (arith, common_steps) in
    on_err c.from_residual.result (
      bytes,
      Consumes-kept (g.R.Read.remaining (watched c.args.reader.now)) (g.R.Read.remaining (watched c.loop-came.reader)) (g.R.Read.remaining (watched c.read_byte.new.reader)) bytes
          c.loop-came.invariant.came.0 c.in_err-byte.ensures.err,
      c.loop-came.invariant.open_yet,
      short,
      reads_last c.args.reader.now c.loop-came.reader c.read_byte.new.reader bytes (grind (arith, common_steps)) c.loop-came.invariant.came.1
          c.read_byte.ensures.called c.read_byte.ensures.once,
    )

pub returns-then-is_end-clause-ok : goal.returns-then-is_end-clause-ok
returns-then-is_end-clause-ok g c =
    let small : c.loop-came.came < length c.loop-came.buf = omega arith in
    let e = rw c.in-Some.is at c.in_ok-byte.ensures.ok in
    let at_most : length (take (c.loop-came.came + 1) (set c.loop-came.buf c.loop-came.came c.in-Some.byte)) ≤ 8192 = grind (arith, common_steps) in (
      omega arith,
      (
        came_more (g.R.Read.remaining (watched c.args.reader.now)) (g.R.Read.remaining (watched c.loop-came.reader)) (g.R.Read.remaining (watched c.read_byte.new.reader))
            c.loop-came.buf c.loop-came.came c.in-Some.byte small c.loop-came.invariant.came.0 e.0,
        e.1 ∙ c.loop-came.invariant.came.1,
      ),
      (at_most, IsHead-more c.loop-came.buf c.loop-came.came c.in-Some.byte small c.loop-came.invariant.open_yet (sym c.is_end.ensures ∙ c.if-is_end.true)),
    )

pub loop-came-preserved : goal.loop-came-preserved
loop-came-preserved g c =
    let small : c.loop-came.came < length c.loop-came.buf = omega arith in
    let e = rw c.in-Some.is at c.in_ok-byte.ensures.ok in
    record {
      came = (
        came_more (g.R.Read.remaining (watched c.args.reader.now)) (g.R.Read.remaining (watched c.loop-came.reader)) (g.R.Read.remaining (watched c.read_byte.new.reader))
            c.loop-came.buf c.loop-came.came c.in-Some.byte small c.loop-came.invariant.came.0 e.0,
        e.1 ∙ c.loop-came.invariant.came.1,
      );
      reads = omega (arith, c.loop-came.invariant.reads, c.read_byte.ensures.called);
      open_yet = HasNoEnd-more c.loop-came.buf c.loop-came.came c.in-Some.byte small c.loop-came.invariant.open_yet (sym c.is_end.ensures ∙ c.if-is_end.false);
    }
