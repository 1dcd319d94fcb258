use Rattle.std.proofs.Common.{refl}
use Rattle.rs_recovery.proofs.Coming.{comes_in_turn}
use Rattle.rs_recovery.proofs.TurnsJoined.{readings_idle, cut_puts_idle}
use Rattle.rs_recovery.proofs.laws.runs_go_on.Goals as goal

pub returns-clause-join : goal.returns-clause-join
returns-clause-join g c = c.turns_go_on.ensures.join

pub returns-clause-command : goal.returns-clause-command
returns-clause-command g c = λ old new command now reply answers.
    (old, c.held_sources_rest.ensures.idle old, new, answers, refl, c.held_sources_rest.ensures.idle new)

pub returns-clause-coming : goal.returns-clause-coming
returns-clause-coming g c = λ old new name kind n now came result.
    comes_in_turn g.D.Disk.state
    (λ before after command at reply answers. (before, c.held_sources_rest.ensures.idle before, after, answers, refl, c.held_sources_rest.ensures.idle after))
    (cut_puts_idle g.D.Disk.state c.held_sources_rest.ensures.stands) old new name kind n now came
    c.early_faults_leave.ensures c.refused_is_not_done.ensures.kinds c.refused_is_not_done.ensures.kept result

pub returns-clause-reading : goal.returns-clause-reading
returns-clause-reading g c = readings_idle g.D.Disk.state c.held_sources_rest.ensures.stands

pub returns-clause-cut : goal.returns-clause-cut
returns-clause-cut g c = cut_puts_idle g.D.Disk.state c.held_sources_rest.ensures.stands
