use Rattle.rs_store.proofs.Turns.{in_turn_on, calls_rise}
use Rattle.rs_store.proofs.laws.turns_go_on.Goals as goal

pub returns-clause-join : goal.returns-clause-join
returns-clause-join g c = λ old mid new first later early late one two. in_turn_on g.D.Disk.state old mid new first later early late one two

pub returns-clause-calls : goal.returns-clause-calls
returns-clause-calls g c = calls_rise g.D.Disk.state
