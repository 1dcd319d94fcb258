use Rattle.rs_time.proofs.MomentTexts.{read_moment-text, read_moment-exact}
use Rattle.rs_time.proofs.laws.moment_texts_read_back.Goals as goal

pub returns-clause-read : goal.returns-clause-read
returns-clause-read c = read_moment-text

pub returns-clause-exact : goal.returns-clause-exact
returns-clause-exact c = read_moment-exact
