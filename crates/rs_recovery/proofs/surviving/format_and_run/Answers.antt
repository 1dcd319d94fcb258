use Rattle.std.proofs.Common.{sym, subst, Ok}
use Rattle.rs_model.specs.State.{Source, start_of}
use Rattle.rs_store.specs.Runs.{Holding, AreAnswered}
use Rattle.rs_recovery.proofs.Halted.{may_format, format_halted}
use Rattle.rs_recovery.proofs.surviving.format_and_run.Goals as goal

pub returns-in-Ok-run-clause-ran : goal.returns-in-Ok-run-clause-ran
returns-in-Ok-run-clause-ran g c =
    let start : Source = start_of c.args.base.now c.args.limit c.args.now in
    let run = c.in-Ok-run.ensures.answered start c.in-Ok.ensures.holds in (
      g.D.Disk.state c.in-Ok.source.disk,
      subst (λ (left : g.row.D.Denot). AreAnswered (g.D.Disk.state c.in-Ok.source.disk) (Holding start) c.args.commands.now c.in-Ok-run.acks.items (g.D.Disk.state left)) (sym c.into_disk.ensures) run,
    )

pub returns-in-Ok-run-clause-may : goal.returns-in-Ok-run-clause-may
returns-in-Ok-run-clause-may g c =
    may_format {D = g.row.D.Denot} c.args.base.now c.args.limit (g.D.Disk.state c.args.disk).size (Ok c.in-Ok.source)
    c.in-Ok.ensures.bad_base c.in-Ok.ensures.bad_limit c.in-Ok.ensures.too_small (λ is. is) (λ is. is) (λ is. is)

pub returns-in-Err-clause-halted : goal.returns-in-Err-clause-halted
returns-in-Err-clause-halted g c =
    format_halted {D = g.row.D.Denot} c.args.base.now c.args.limit (g.D.Disk.state c.args.disk).size c.in-Err.field-0-0 c.in-Err.fault
    c.in-Err.ensures.bad_base c.in-Err.ensures.bad_limit c.in-Err.ensures.too_small

pub returns-in-Err-run-clause-halted : goal.returns-in-Err-run-clause-halted
returns-in-Err-run-clause-halted g c = (
  c.in-Err-run.ensures.only,
  may_format {D = g.row.D.Denot} c.args.base.now c.args.limit (g.D.Disk.state c.args.disk).size (Ok c.in-Ok.source)
      c.in-Ok.ensures.bad_base c.in-Ok.ensures.bad_limit c.in-Ok.ensures.too_small (λ is. is) (λ is. is) (λ is. is),
)
