use Rattle.rs_time.proofs.MomentTexts.{moment_text-bytes, moment_text-unescaped}
use Rattle.rs_time.proofs.laws.moment_texts_need_no_escaping.Goals as goal

pub returns-clause-bytes : goal.returns-clause-bytes
returns-clause-bytes c = moment_text-bytes

pub returns-clause-unescaped : goal.returns-clause-unescaped
returns-clause-unescaped c = moment_text-unescaped
