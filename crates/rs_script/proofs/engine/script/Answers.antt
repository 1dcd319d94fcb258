-- Every exit, by the bytes that came before it.
use Rattle.std.proofs.Common.{rules, ℕ, [], ◌++◌, take, arith, inl, inr, refl, subst, ◌∙◌}
use Rattle.std.proofs.KnownBytes.{Consumes-nil, Consumes-kept, Appends-kept, Keeps-refl}
use Rattle.rs_io.specs.Watch.{watched, seen_by}
use Rattle.rs_script.proofs.FromBelow.{later_fault}
use Rattle.rs_script.specs.Answers.{output_of}
use Rattle.rs_script.specs.Finished.{bytes_of}
use Rattle.rs_script.specs.Progress.{IsCalled, stand}
use Rattle.rs_script.proofs.ReaderCalls.{answers, was_sound, not_broken}
use Rattle.rs_script.proofs.Steps.{Progress-none, Progress-kept, ran_of, broke_after, Consumes-end, Gave-front, count_more}
use Rattle.rs_script.proofs.Turns.{read_more, reads_within, stops_reading, stops_flushing, stops_within, tells_all, tells_part, tells_so_far}
use Rattle.rs_script.proofs.engine.script.Goals as goal

pub loop-init : goal.loop-init
loop-init g c = record {
  input = [];
  reads = record {
    took = (Consumes-nil (g.R.Read.remaining (watched c.args.reader.now)), refl);
    most = omega arith;
    called = inl (omega arith);
    counted = omega arith;
  };
  progress = Progress-none g.D.Disk.state g.W.Write.contents (stand c.new-pending.result c.args.source.now c.args.writer.now) c.args.source.now refl
      c.new-pending.ensures.moment c.new-pending.ensures.group c.new-pending.ensures.line;
  some = omega arith;
  writer_still = λ _. (refl, refl, refl);
  reader_still = λ _. (refl, refl);
}

pub returns-in_err-flush-clause-write : goal.returns-in_err-flush-clause-write
returns-in_err-flush-clause-write g c = λ _.
    let inv = c.loop.invariant in
    stops_flushing g.D.Disk.state g.R.Read.remaining g.W.Write.contents (c.scripts_recover.ensures, c.scripts_make_walks.ensures) c.args.source.now c.args.reader.now c.args.writer.now
    c.loop.reader (stand c.loop.pending c.loop.source c.loop.writer) inv.input c.flush.new.self inv.progress inv.reads.took c.flush.ensures.bytes c.in_err-flush.ensures.flush_failed c.flush.ensures.once

pub returns-in_err-count-clause-read : goal.returns-in_err-count-clause-read
returns-in_err-count-clause-read g c = λ _.
    let inv = c.loop.invariant in
    let p = Progress-kept g.D.Disk.state g.W.Write.contents _ inv.input _ c.flush.new.self c.flush.ensures.bytes c.in_ok-flush.ensures.sound inv.progress in
    stops_reading g.D.Disk.state g.R.Read.remaining g.W.Write.contents (c.scripts_recover.ensures, c.scripts_make_walks.ensures) c.args.source.now c.args.reader.now c.args.writer.now
    c.read.new.self (stand c.loop.pending c.loop.source c.flush.new.self) inv.input p
    (Consumes-kept (g.R.Read.remaining (watched c.args.reader.now)) (g.R.Read.remaining (watched c.loop.reader)) (g.R.Read.remaining (watched c.read.new.self)) inv.input inv.reads.took.0 c.in_err-count.ensures.err)
    (inl (later_fault c.args.reader.now c.loop.reader c.read.new.self inv.reads.took.1 c.in_err-count.ensures.failed, c.in_ok-flush.ensures.flushed))

pub returns-clause-read : goal.returns-clause-read
returns-clause-read g c = λ _.
    let inv = c.loop.invariant in
    stops_reading g.D.Disk.state g.R.Read.remaining g.W.Write.contents (c.scripts_recover.ensures, c.scripts_make_walks.ensures) c.args.source.now c.args.reader.now c.args.writer.now
    c.loop.reader (stand c.loop.pending c.loop.source c.loop.writer) inv.input inv.progress inv.reads.took.0
    (inr (subst (λ (n : ℕ). IsCalled n c.args.reader.now c.loop.reader) (omega arith) inv.reads.called, omega (arith, inv.some)))

pub returns-in_err-take_end-clause-write : goal.returns-in_err-take_end-clause-write
returns-in_err-take_end-clause-write g c = λ _.
    let inv = c.loop.invariant in
    let p = Progress-kept g.D.Disk.state g.W.Write.contents _ inv.input _ c.flush.new.self c.flush.ensures.bytes c.in_ok-flush.ensures.sound inv.progress in
    let gave = Consumes-end _ _ _ inv.input c.read.new.buf c.in_ok-count.count c.if-count-eq0.true inv.reads.took.0 c.in_ok-count.ensures.ok.0 in
    stops_within g.D.Disk.state g.R.Read.remaining g.W.Write.contents (c.scripts_recover.ensures, c.scripts_make_walks.ensures) c.args.source.now c.args.reader.now c.args.writer.now
    c.read.new.self (stand c.take_end.new.self c.take_end.new.source c.take_end.new.writer) inv.input (c.in_err-take_end.ensures.err _ inv.input p) (inr (gave, c.in_ok-count.ensures.end c.if-count-eq0.true (omega arith)))
    (was_sound c.args.writer.now c.loop.writer inv.progress.written.1 (answers c.flush.result c.in_ok-flush.field-0 c.loop.writer c.flush.new.self c.in_ok-flush.was c.flush.ensures.broken))
    (c.in_ok-count.ensures.ok.1 ∙ inv.reads.took.1)

pub returns-in_err-flush-2-clause-write : goal.returns-in_err-flush-2-clause-write
returns-in_err-flush-2-clause-write g c = λ _.
    let inv = c.loop.invariant in
    let p = Progress-kept g.D.Disk.state g.W.Write.contents _ inv.input _ c.flush.new.self c.flush.ensures.bytes c.in_ok-flush.ensures.sound inv.progress in
    let gave = Consumes-end _ _ _ inv.input c.read.new.buf c.in_ok-count.count c.if-count-eq0.true inv.reads.took.0 c.in_ok-count.ensures.ok.0 in
    let end = c.in_ok-take_end.ensures.ok _ inv.input p in
    record {
      ran = ran_of g.D.Disk.state (c.scripts_recover.ensures, c.scripts_make_walks.ensures) c.args.source.now c.take_end.new.source inv.input end.0 end.1 c.take_end.new.self.between.moment end.2;
      came = inr (gave, c.in_ok-count.ensures.end c.if-count-eq0.true (omega arith));
      breaks = inr (broke_after bytes_of (seen_by g.W.Write.contents c.args.writer.now) (seen_by g.W.Write.contents c.take_end.new.writer) (seen_by g.W.Write.contents c.flush-then-count-eq0.new.self)
          end.0 end.3 c.flush-then-count-eq0.ensures.bytes c.in_err-flush-2.ensures.flush_failed c.flush-then-count-eq0.ensures.once);
      read = c.in_ok-count.ensures.ok.1 ∙ inv.reads.took.1;
    }

pub returns-then-count-eq0-clause-ok : goal.returns-then-count-eq0-clause-ok
returns-then-count-eq0-clause-ok g c =
    let inv = c.loop.invariant in
    let p = Progress-kept g.D.Disk.state g.W.Write.contents _ inv.input _ c.flush.new.self c.flush.ensures.bytes c.in_ok-flush.ensures.sound inv.progress in
    let gave = Consumes-end _ _ _ inv.input c.read.new.buf c.in_ok-count.count c.if-count-eq0.true inv.reads.took.0 c.in_ok-count.ensures.ok.0 in
    let end = c.in_ok-take_end.ensures.ok _ inv.input p in
    record {
      ran = ran_of g.D.Disk.state (c.scripts_recover.ensures, c.scripts_make_walks.ensures) c.args.source.now c.take_end.new.source inv.input end.0 end.1 c.take_end.new.self.between.moment end.2;
      took = ((gave, c.in_ok-count.ensures.ok.1 ∙ inv.reads.took.1), c.in_ok-count.ensures.end c.if-count-eq0.true (omega arith));
      wrote = (
        Appends-kept (g.W.Write.contents (watched c.args.writer.now)) (g.W.Write.contents (watched c.take_end.new.writer))
            (g.W.Write.contents (watched c.flush-then-count-eq0.new.self)) (output_of end.0) end.3.0 c.flush-then-count-eq0.ensures.bytes,
        c.in_ok-flush-2.ensures.sound ∙ end.3.1,
      );
      flushed = c.in_ok-flush-2.ensures.flushed;
    }

pub returns-in_err-take_piece-clause-write : goal.returns-in_err-take_piece-clause-write
returns-in_err-take_piece-clause-write g c = λ _.
    let inv = c.loop.invariant in
    let p = Progress-kept g.D.Disk.state g.W.Write.contents _ inv.input _ c.flush.new.self c.flush.ensures.bytes c.in_ok-flush.ensures.sound inv.progress in
    let e = c.in_err-take_piece.ensures.err in
    let stops = e.3 _ inv.input p in
    stops_within g.D.Disk.state g.R.Read.remaining g.W.Write.contents (c.scripts_recover.ensures, c.scripts_make_walks.ensures) c.args.source.now c.args.reader.now c.args.writer.now
    c.read.new.self (stand c.take_piece.new.self c.take_piece.new.source c.take_piece.new.writer) (inv.input ++ e.0) stops.0
    (inl (Gave-front _ _ _ inv.input (take c.in_ok-count.count c.read.new.buf) e.0 e.1 e.2 inv.reads.took.0 c.in_ok-count.ensures.ok.0, stops.1))
    (was_sound c.args.writer.now c.loop.writer inv.progress.written.1 (answers c.flush.result c.in_ok-flush.field-0 c.loop.writer c.flush.new.self c.in_ok-flush.was c.flush.ensures.broken))
    (c.in_ok-count.ensures.ok.1 ∙ inv.reads.took.1)

pub returns-in_err-take_piece-clause-reads : goal.returns-in_err-take_piece-clause-reads
returns-in_err-take_piece-clause-reads g c =
    let inv = c.loop.invariant in
    let sound = answers c.read.result c.in_ok-count.count c.loop.reader c.read.new.self c.in_ok-count.was c.read.ensures.broken in
    reads_within g.R.Read.remaining c.args.reader.now c.read.new.self _ _
    (read_more g.R.Read.remaining c.args.reader.now c.loop.reader c.read.new.self c.loop.counter c.in_ok-count.count inv.input c.read.new.buf inv.reads c.in_ok-count.ensures.ok c.in_ok-count.ensures.bound
    (search rules) (c.read.ensures.called sound)) (omega arith)

pub loop-preserved : goal.loop-preserved
loop-preserved g c =
    let inv = c.loop.invariant in
    let sound = answers c.read.result c.in_ok-count.count c.loop.reader c.read.new.self c.in_ok-count.was c.read.ensures.broken in
    let p = Progress-kept g.D.Disk.state g.W.Write.contents _ inv.input _ c.flush.new.self c.flush.ensures.bytes c.in_ok-flush.ensures.sound inv.progress in
    record {
      input = inv.input ++ take c.in_ok-count.count c.read.new.buf;
      reads = read_more g.R.Read.remaining c.args.reader.now c.loop.reader c.read.new.self c.loop.counter c.in_ok-count.count inv.input c.read.new.buf inv.reads c.in_ok-count.ensures.ok c.in_ok-count.ensures.bound
          (search rules) (c.read.ensures.called sound);
      progress = c.in_ok-take_piece.ensures.ok _ inv.input p;
      some = count_more c.loop.counter c.in_ok-count.count inv.input c.read.new.buf inv.some c.if-count-eq0.false c.in_ok-count.ensures.bound;
      writer_still = not_broken c.args.writer.now (was_sound c.args.writer.now c.loop.writer inv.progress.written.1 (answers c.flush.result c.in_ok-flush.field-0 c.loop.writer c.flush.new.self c.in_ok-flush.was c.flush.ensures.broken));
      reader_still = not_broken c.args.reader.now (was_sound c.args.reader.now c.loop.reader inv.reads.took.1 sound);
    }

pub returns-in_err-flush-clause-answered : goal.returns-in_err-flush-clause-answered
returns-in_err-flush-clause-answered g c =
    tells_so_far g.D.Disk.state g.R.Read.remaining g.W.Write.contents (c.scripts_recover.ensures, c.scripts_make_walks.ensures) (c.scripts_do_statements.ensures.done, c.scripts_do_statements.ensures.names)
    c.args.source.now c.args.reader.now c.loop.reader c.args.writer.now c.flush.new.self
    (stand c.loop.pending c.loop.source c.loop.writer) c.loop.invariant.input c.loop.invariant.progress c.loop.invariant.reads.took.0 c.flush.ensures.bytes

pub returns-in_err-count-clause-answered : goal.returns-in_err-count-clause-answered
returns-in_err-count-clause-answered g c =
    tells_so_far g.D.Disk.state g.R.Read.remaining g.W.Write.contents (c.scripts_recover.ensures, c.scripts_make_walks.ensures) (c.scripts_do_statements.ensures.done, c.scripts_do_statements.ensures.names)
    c.args.source.now c.args.reader.now c.read.new.self c.args.writer.now c.flush.new.self
    (stand c.loop.pending c.loop.source c.loop.writer) c.loop.invariant.input c.loop.invariant.progress
    (Consumes-kept (g.R.Read.remaining (watched c.args.reader.now)) (g.R.Read.remaining (watched c.loop.reader)) (g.R.Read.remaining (watched c.read.new.self)) c.loop.invariant.input c.loop.invariant.reads.took.0 c.in_err-count.ensures.err)
    c.flush.ensures.bytes

pub returns-clause-answered : goal.returns-clause-answered
returns-clause-answered g c =
    tells_so_far g.D.Disk.state g.R.Read.remaining g.W.Write.contents (c.scripts_recover.ensures, c.scripts_make_walks.ensures) (c.scripts_do_statements.ensures.done, c.scripts_do_statements.ensures.names)
    c.args.source.now c.args.reader.now c.loop.reader c.args.writer.now c.loop.writer
    (stand c.loop.pending c.loop.source c.loop.writer) c.loop.invariant.input c.loop.invariant.progress c.loop.invariant.reads.took.0 (Keeps-refl (g.W.Write.contents (watched c.loop.writer)))

pub returns-in_err-take_end-clause-answered : goal.returns-in_err-take_end-clause-answered
returns-in_err-take_end-clause-answered g c =
    let inv = c.loop.invariant in
    let p = Progress-kept g.D.Disk.state g.W.Write.contents _ inv.input _ c.flush.new.self c.flush.ensures.bytes c.in_ok-flush.ensures.sound inv.progress in
    let gave = Consumes-end _ _ _ inv.input c.read.new.buf c.in_ok-count.count c.if-count-eq0.true inv.reads.took.0 c.in_ok-count.ensures.ok.0 in
    let end = c.in_err-take_end.ensures.err _ inv.input p in
    tells_part g.D.Disk.state g.R.Read.remaining g.W.Write.contents (c.scripts_recover.ensures, c.scripts_make_walks.ensures) (c.scripts_do_statements.ensures.done, c.scripts_do_statements.ensures.names)
    c.args.source.now c.args.reader.now c.read.new.self c.args.writer.now c.take_end.new.writer
    c.take_end.new.source c.take_end.new.self.between.moment inv.input end.0 end.1 end.2 (inr (gave, c.in_ok-count.ensures.end c.if-count-eq0.true (omega arith))) end.3

pub returns-in_err-flush-2-clause-answered : goal.returns-in_err-flush-2-clause-answered
returns-in_err-flush-2-clause-answered g c =
    let inv = c.loop.invariant in
    let p = Progress-kept g.D.Disk.state g.W.Write.contents _ inv.input _ c.flush.new.self c.flush.ensures.bytes c.in_ok-flush.ensures.sound inv.progress in
    let gave = Consumes-end _ _ _ inv.input c.read.new.buf c.in_ok-count.count c.if-count-eq0.true inv.reads.took.0 c.in_ok-count.ensures.ok.0 in
    let end = c.in_ok-take_end.ensures.ok _ inv.input p in
    tells_all g.D.Disk.state g.R.Read.remaining g.W.Write.contents (c.scripts_recover.ensures, c.scripts_make_walks.ensures) (c.scripts_do_statements.ensures.done, c.scripts_do_statements.ensures.names)
    c.args.source.now c.args.reader.now c.read.new.self c.args.writer.now c.flush-then-count-eq0.new.self
    c.take_end.new.source c.take_end.new.self.between.moment inv.input end.0 end.1 end.2 (inr (gave, c.in_ok-count.ensures.end c.if-count-eq0.true (omega arith)))
    (Appends-kept (g.W.Write.contents (watched c.args.writer.now)) (g.W.Write.contents (watched c.take_end.new.writer))
    (g.W.Write.contents (watched c.flush-then-count-eq0.new.self)) (output_of end.0) end.3.0 c.flush-then-count-eq0.ensures.bytes)

pub returns-then-count-eq0-clause-answered : goal.returns-then-count-eq0-clause-answered
returns-then-count-eq0-clause-answered g c =
    let inv = c.loop.invariant in
    let p = Progress-kept g.D.Disk.state g.W.Write.contents _ inv.input _ c.flush.new.self c.flush.ensures.bytes c.in_ok-flush.ensures.sound inv.progress in
    let gave = Consumes-end _ _ _ inv.input c.read.new.buf c.in_ok-count.count c.if-count-eq0.true inv.reads.took.0 c.in_ok-count.ensures.ok.0 in
    let end = c.in_ok-take_end.ensures.ok _ inv.input p in
    tells_all g.D.Disk.state g.R.Read.remaining g.W.Write.contents (c.scripts_recover.ensures, c.scripts_make_walks.ensures) (c.scripts_do_statements.ensures.done, c.scripts_do_statements.ensures.names)
    c.args.source.now c.args.reader.now c.read.new.self c.args.writer.now c.flush-then-count-eq0.new.self
    c.take_end.new.source c.take_end.new.self.between.moment inv.input end.0 end.1 end.2 (inr (gave, c.in_ok-count.ensures.end c.if-count-eq0.true (omega arith)))
    (Appends-kept (g.W.Write.contents (watched c.args.writer.now)) (g.W.Write.contents (watched c.take_end.new.writer))
    (g.W.Write.contents (watched c.flush-then-count-eq0.new.self)) (output_of end.0) end.3.0 c.flush-then-count-eq0.ensures.bytes)

pub returns-in_err-take_piece-clause-answered : goal.returns-in_err-take_piece-clause-answered
returns-in_err-take_piece-clause-answered g c =
    let inv = c.loop.invariant in
    let p = Progress-kept g.D.Disk.state g.W.Write.contents _ inv.input _ c.flush.new.self c.flush.ensures.bytes c.in_ok-flush.ensures.sound inv.progress in
    let e = c.in_err-take_piece.ensures.err in
    let stops = e.3 _ inv.input p in
    let gave = Gave-front _ _ _ inv.input (take c.in_ok-count.count c.read.new.buf) e.0 e.1 e.2 inv.reads.took.0 c.in_ok-count.ensures.ok.0 in
    tells_part g.D.Disk.state g.R.Read.remaining g.W.Write.contents (c.scripts_recover.ensures, c.scripts_make_walks.ensures) (c.scripts_do_statements.ensures.done, c.scripts_do_statements.ensures.names)
    c.args.source.now c.args.reader.now c.read.new.self c.args.writer.now c.take_piece.new.writer
    c.take_piece.new.source c.take_piece.new.self.between.moment (inv.input ++ e.0) stops.0.0 stops.0.1 stops.0.2
    (inl (gave, stops.1)) stops.0.3
