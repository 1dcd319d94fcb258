use Rattle.std.proofs.Common.{◌≡◌, ◌+◌, ◌++◌, length, List, ℕ, take, drop, sym, ◌∙◌, ap, subst, arith}
use Rattle.std.specs.Io.KnownBytes.{Consumes}
use Rattle.std.proofs.KnownBytes.{Consumes-kept, Consumes-trans}
use Rattle.std.proofs.lemmas.List.{length-take}
use Rattle.std.proofs.Math.Seq.{take-add}
use Rattle.rs_io.specs.Watch.{watched}
use Rattle.rs_store.proofs.ReaderCounts.{reads_last}
use Rattle.rs_store.proofs.receiving.read_into.Goals as goal

pub loop-filled-preserved : goal.loop-filled-preserved
loop-filled-preserved g c =
    let inv = c.loop-filled.invariant in
    let e = c.in-Ok.ensures in
    let filled = c.loop-filled.filled in
    let new = c.read_behind.new.buf in
    let count = c.in-Ok.count in
    let now = take count (drop filled new) in
    let joined : take (filled + count) new ≡ take filled c.loop-filled.buf ++ now = take-add filled count new ∙ ap (λ front. front ++ now) e.front in
    let same : Consumes (g.R.Read.remaining (watched c.args.reader.now)) (g.R.Read.remaining (watched c.read_behind.new.reader)) (take filled c.loop-filled.buf ++ now) =
    Consumes-trans (g.R.Read.remaining (watched c.args.reader.now)) (g.R.Read.remaining (watched c.loop-filled.reader)) (g.R.Read.remaining (watched c.read_behind.new.reader)) (take filled c.loop-filled.buf) now inv.came.0 e.ok.0 in
    record {
      within = omega (arith, e.fits, e.size);
      size = e.size ∙ inv.size;
      came = (
        subst (λ (came : List ℕ). Consumes (g.R.Read.remaining (watched c.args.reader.now)) (g.R.Read.remaining (watched c.read_behind.new.reader)) came) (sym joined) same,
        e.ok.1 ∙ inv.came.1,
      );
      reads = omega (arith, inv.reads, e.called);
    }

-- a read failed: it was the last
pub returns-in-Err-clause-cut : goal.returns-in-Err-clause-cut
returns-in-Err-clause-cut g c =
    let inv = c.loop-filled.invariant in
    let front : List ℕ = take c.loop-filled.filled c.loop-filled.buf in
    let long : length front ≡ c.loop-filled.filled = omega (arith, length-take {A = ℕ}, inv.within) in (
      front,
      Consumes-kept (g.R.Read.remaining (watched c.args.reader.now)) (g.R.Read.remaining (watched c.loop-filled.reader)) (g.R.Read.remaining (watched c.read_behind.new.reader)) front inv.came.0
          c.in-Err.ensures.err,
      omega (arith, long, inv.size, c.loop-filled-test.true),
      reads_last c.args.reader.now c.loop-filled.reader c.read_behind.new.reader front (omega (arith, inv.reads, long)) inv.came.1 c.read_behind.ensures.called c.read_behind.ensures.once,
    )
