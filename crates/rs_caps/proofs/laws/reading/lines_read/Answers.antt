use Rattle.rs_caps.proofs.Lines.{lines_of-joined, lines_of-exact}
use Rattle.rs_caps.proofs.laws.reading.lines_read.Goals as goal

pub returns-clause-read : goal.returns-clause-read
returns-clause-read c = lines_of-joined

pub returns-clause-exact : goal.returns-clause-exact
returns-clause-exact c = lines_of-exact
