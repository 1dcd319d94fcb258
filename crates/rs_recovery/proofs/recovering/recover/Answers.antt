use Rattle.std.proofs.Common.{ℕ, List, ◌∷◌, take, sym, subst}
use Rattle.rs_model.specs.Regular.{IsRegular, IsTimely}
use Rattle.rs_model.specs.State.{Source, start_of}
use Rattle.rs_model.specs.Step.{fold_of}
use Rattle.rs_image.specs.StateOfImage.{StandsFor}
use Rattle.rs_store.specs.Counted.{counted_commands}
use Rattle.rs_recovery.specs.Sessions.{commands_left}
use Rattle.rs_recovery.proofs.Opened.{gives_back, opened_on}
use Rattle.rs_recovery.proofs.Sessions.{image_left, yields_held}
use Rattle.rs_recovery.proofs.recovering.recover.Goals as goal

pub returns-clause-recovers : goal.returns-clause-recovers
returns-clause-recovers g c =
    gives_back c.stands_once.ensures g.D.Disk.state c.args.disk c.open.result c.open.ensures.opened c.open.ensures.refused

pub returns-clause-opened : goal.returns-clause-opened
returns-clause-opened g c = opened_on g.D.Disk.state c.args.disk c.open.result c.open.ensures.opened

pub returns-clause-after_a_run : goal.returns-clause-after_a_run
returns-clause-after_a_run g c = λ s commands acks m prefix honest.
    record {
      j = prefix.j;
      least = prefix.least;
      most = prefix.most;
      state = returns-clause-recovers g c honest (fold_of s (take prefix.j (counted_commands commands acks))) prefix.stands;
    }

pub returns-clause-served : goal.returns-clause-served
returns-clause-served g c = λ base limit moment before x past are bytes honest.
    let start : Source = fold_of (start_of base limit moment) before in
    let found = c.sessions_stand.ensures start (x ∷ past) are in
    let s : Source = fold_of start (commands_left (x ∷ past) found.0) in
    let here : StandsFor (g.D.Disk.state c.args.disk).now.seen s = subst (λ (l : List ℕ). StandsFor l s) (sym bytes) (image_left start x past found.0 found.1.holds) in
    record {
      standing = found.0;
      stand = found.1;
      state = returns-clause-recovers g c honest s here;
    }

pub returns-clause-headline : goal.returns-clause-headline
returns-clause-headline g c = λ base limit moment before x past are bytes honest.
    let formatted : Source = start_of base limit moment in
    let start : Source = fold_of formatted before in
    let began : IsRegular start = c.fold_is_regular.ensures.regular formatted before (c.start_is_regular.ensures.regular base limit moment) in
    let on_time : IsTimely start =
    c.fold_is_regular.ensures.timely formatted before (c.start_is_regular.ensures.regular base limit moment) (c.start_is_regular.ensures.timely base limit moment) in
    let kept = returns-clause-served g c base limit moment before x past are bytes honest in
    let commands = commands_left (x ∷ past) kept.standing in
    let regular = c.fold_is_regular.ensures.regular start commands began in
    record {
      standing = kept.standing;
      left = kept.stand.holds;
      state = kept.state;
      yields = yields_held (fold_of start commands) regular;
      regular = regular;
      timely = c.fold_is_regular.ensures.timely start commands began on_time;
    }
