use Rattle.rs_disk.proofs.Runs.{runs_one, writing_one, reading_one, nothing_synced}
use Rattle.rs_disk.proofs.laws.one_call_runs.Goals as goal

pub returns-clause-any : goal.returns-clause-any
returns-clause-any g c = λ old new result. runs_one old new result

pub returns-clause-writing : goal.returns-clause-writing
returns-clause-writing g c = λ old new result. writing_one old new result

pub returns-clause-reading : goal.returns-clause-reading
returns-clause-reading g c = λ old new result. reading_one old new result

pub returns-clause-syncing : goal.returns-clause-syncing
returns-clause-syncing g c = λ old new result. nothing_synced old new result
