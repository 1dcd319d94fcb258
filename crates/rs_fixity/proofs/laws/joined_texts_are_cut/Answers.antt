use Rattle.rs_fixity.proofs.CutLemmas.{strip_own, cut_value}
use Rattle.rs_fixity.proofs.laws.joined_texts_are_cut.Goals as goal

pub returns-clause-strip : goal.returns-clause-strip
returns-clause-strip c = strip_own

pub returns-clause-cut : goal.returns-clause-cut
returns-clause-cut c = cut_value
