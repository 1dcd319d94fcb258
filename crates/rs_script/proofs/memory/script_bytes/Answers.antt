-- The input is one piece, and then it ends.
use Rattle.std.proofs.Common.{[], inl, inr, refl, sym, append-nil}
use Rattle.rs_script.specs.Progress.{stand}
use Rattle.rs_script.proofs.FromBelow.{later_fault}
use Rattle.rs_script.proofs.Steps.{Progress-none, on_err, ran_of}
use Rattle.rs_script.proofs.memory.script_bytes.Goals as goal

pub returns-in_err-take_piece-clause-err : goal.returns-in_err-take_piece-clause-err
returns-in_err-take_piece-clause-err g c =
    let begun = Progress-none g.D.Disk.state g.W.Write.contents (stand c.new-pending.result c.args.source.now c.args.writer.now) c.args.source.now refl c.new-pending.ensures.moment c.new-pending.ensures.group c.new-pending.ensures.line in
    let e = c.in_err-take_piece.ensures.err in
    let stops = e.3 _ [] begun in
    on_err c.from_residual.result (record {
      ran = ran_of g.D.Disk.state (c.scripts_recover.ensures, c.scripts_make_walks.ensures) c.args.source.now c.take_piece.new.source e.0 stops.0.0 stops.0.1 c.take_piece.new.self.between.moment stops.0.2;
      tail = e.1;
      input_is = e.2;
      come = inl stops.1;
      breaks = stops.0.3;
    })

pub returns-in_err-take_end-clause-err : goal.returns-in_err-take_end-clause-err
returns-in_err-take_end-clause-err g c =
    let begun = Progress-none g.D.Disk.state g.W.Write.contents (stand c.new-pending.result c.args.source.now c.args.writer.now) c.args.source.now refl c.new-pending.ensures.moment c.new-pending.ensures.group c.new-pending.ensures.line in
    let input = c.args.input.now in
    let end = c.in_err-take_end.ensures.err _ input (c.in_ok-take_piece.ensures.ok _ [] begun) in
    on_err c.from_residual-in_err-take_end.result (record {
      ran = ran_of g.D.Disk.state (c.scripts_recover.ensures, c.scripts_make_walks.ensures) c.args.source.now c.take_end.new.source input end.0 end.1 c.take_end.new.self.between.moment end.2;
      tail = [];
      input_is = sym (append-nil input);
      come = inr refl;
      breaks = end.3;
    })

pub returns-clause-ok : goal.returns-clause-ok
returns-clause-ok g c =
    let begun = Progress-none g.D.Disk.state g.W.Write.contents (stand c.new-pending.result c.args.source.now c.args.writer.now) c.args.source.now refl c.new-pending.ensures.moment c.new-pending.ensures.group c.new-pending.ensures.line in
    let input = c.args.input.now in
    let end = c.in_ok-take_end.ensures.ok _ input (c.in_ok-take_piece.ensures.ok _ [] begun) in (
      ran_of g.D.Disk.state (c.scripts_recover.ensures, c.scripts_make_walks.ensures) c.args.source.now c.take_end.new.source input end.0 end.1 c.take_end.new.self.between.moment end.2,
      refl,
      end.3,
    )

pub returns-in_err-take_end-clause-failed : goal.returns-in_err-take_end-clause-failed
returns-in_err-take_end-clause-failed g c =
    let begun = Progress-none g.D.Disk.state g.W.Write.contents (stand c.new-pending.result c.args.source.now c.args.writer.now) c.args.source.now refl c.new-pending.ensures.moment c.new-pending.ensures.group c.new-pending.ensures.line in
    let come = c.in_ok-take_piece.ensures.ok _ [] begun in
    on_err c.from_residual-in_err-take_end.result
    (later_fault c.args.writer.now c.take_piece.new.writer c.take_end.new.writer come.written.1 c.in_err-take_end.ensures.failed)
