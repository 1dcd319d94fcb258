use Rattle.rs_caps.proofs.Escaping.{unescape-escape, unescape-exact}
use Rattle.rs_caps.proofs.laws.reading.escaped_reads.Goals as goal

pub returns-clause-read : goal.returns-clause-read
returns-clause-read c = unescape-escape

pub returns-clause-exact : goal.returns-clause-exact
returns-clause-exact c = unescape-exact
