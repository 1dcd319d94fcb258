use Rattle.rs_fixity.proofs.HashTexts.{hash_text-unescaped}
use Rattle.rs_fixity.proofs.laws.hash_texts_need_no_escaping.Goals as goal

pub returns : goal.returns
returns c = hash_text-unescaped
