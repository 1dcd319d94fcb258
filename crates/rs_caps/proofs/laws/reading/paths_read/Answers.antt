use Rattle.rs_caps.proofs.PathsRead.{doc_of-path_of, doc_of-exact}
use Rattle.rs_caps.proofs.laws.reading.paths_read.Goals as goal

pub returns-clause-read : goal.returns-clause-read
returns-clause-read c = doc_of-path_of

pub returns-clause-exact : goal.returns-clause-exact
returns-clause-exact c = doc_of-exact
