use Rattle.rs_disk.proofs.Runs.{runs_on, writing_on, reading_on, nothing_on}
use Rattle.rs_disk.proofs.laws.runs_join.Goals as goal

pub returns-clause-any : goal.returns-clause-any
returns-clause-any g c = λ old mid new left right split one two. runs_on old mid new left right split one two

pub returns-clause-writing : goal.returns-clause-writing
returns-clause-writing g c = λ old mid new left right split no_further one two. writing_on old mid new left right split no_further one two

pub returns-clause-reading : goal.returns-clause-reading
returns-clause-reading g c = λ old mid new left right split no_further one two. reading_on old mid new left right split no_further one two

pub returns-clause-nothing : goal.returns-clause-nothing
returns-clause-nothing g c = λ old mid new left right split no_further one two. nothing_on old mid new left right split no_further one two
