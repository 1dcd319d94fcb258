use Rattle.rs_recovery.proofs.GoingOn.{sessions_go_on, sessions_last}
use Rattle.rs_recovery.proofs.TurnsJoined.{holds_on}
use Rattle.rs_recovery.proofs.laws.sessions_go_on.Goals as goal

pub returns-clause-begins : goal.returns-clause-begins
returns-clause-begins g c = λ source s holds. ((c.held_sources_rest.ensures.idle source).holds s holds).1

pub returns-clause-joined : goal.returns-clause-joined
returns-clause-joined g c = sessions_go_on

pub returns-clause-lasts : goal.returns-clause-lasts
returns-clause-lasts g c = sessions_last

pub returns-clause-held : goal.returns-clause-held
returns-clause-held g c = λ old new s reads holds. holds_on g.D.Disk.state old new reads s holds
