use Rattle.rs_caps.proofs.Numbers.{read_number-decimal, read_number-exact}
use Rattle.rs_caps.proofs.laws.reading.numbers_read.Goals as goal

pub returns-clause-read : goal.returns-clause-read
returns-clause-read c = read_number-decimal

pub returns-clause-exact : goal.returns-clause-exact
returns-clause-exact c = read_number-exact
