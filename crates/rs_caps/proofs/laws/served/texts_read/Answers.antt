use Rattle.rs_caps.proofs.ListsRead.{texts_answered, texts_read}
use Rattle.rs_caps.proofs.laws.served.texts_read.Goals as goal

pub returns-clause-answered : goal.returns-clause-answered
returns-clause-answered c = texts_answered

pub returns-clause-read : goal.returns-clause-read
returns-clause-read c = texts_read
