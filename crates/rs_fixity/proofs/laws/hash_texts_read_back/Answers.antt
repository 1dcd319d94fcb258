use Rattle.rs_fixity.proofs.HashTexts.{read_hash-text, read_hash-exact}
use Rattle.rs_fixity.proofs.laws.hash_texts_read_back.Goals as goal

pub returns-clause-read : goal.returns-clause-read
returns-clause-read c = read_hash-text

pub returns-clause-exact : goal.returns-clause-exact
returns-clause-exact c = read_hash-exact
