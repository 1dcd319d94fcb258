use Rattle.std.proofs.Common.{sym, subst}
use Rattle.rs_store.specs.Runs.{Holding, AreAnswered}
use Rattle.rs_recovery.proofs.Reopened.{not_lost}
use Rattle.rs_recovery.proofs.reopening.recover_and_run.Goals as goal

pub returns-in-Ok-run-clause-ran : goal.returns-in-Ok-run-clause-ran
returns-in-Ok-run-clause-ran g c = (
  g.D.Disk.state c.in-Ok.source.disk,
  λ honest.
      let opened = c.in-Ok.ensures.opened honest in
      let run = c.in-Ok-run.ensures.answered opened.0 opened.2 in
      (opened.0, opened.1, subst (λ (left : g.row.D.Denot). AreAnswered (g.D.Disk.state c.in-Ok.source.disk) (Holding opened.0) c.args.commands.now c.in-Ok-run.acks.items (g.D.Disk.state left)) (sym c.into_disk.ensures) run),
)

pub returns-in-Err-clause-found : goal.returns-in-Err-clause-found
returns-in-Err-clause-found g c = λ honest s stands.
    not_lost (g.D.Disk.state c.args.disk) (g.D.Disk.state c.in-Err.disk) c.in-Err.fault (c.in-Err.ensures.recovers honest s stands)

pub returns-in-Err-run-clause-halted : goal.returns-in-Err-run-clause-halted
returns-in-Err-run-clause-halted g c = λ base limit size may. (c.in-Err-run.ensures.only, may)
