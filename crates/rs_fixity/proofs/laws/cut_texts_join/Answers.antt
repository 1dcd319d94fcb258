use Rattle.rs_fixity.proofs.CutLemmas.{strip_gave, cut_is}
use Rattle.rs_fixity.proofs.laws.cut_texts_join.Goals as goal

pub returns-clause-strip : goal.returns-clause-strip
returns-clause-strip c = strip_gave

pub returns-clause-cut : goal.returns-clause-cut
returns-clause-cut c mark text = (cut_is mark text).joined

pub returns-clause-lacks : goal.returns-clause-lacks
returns-clause-lacks c mark text = (cut_is mark text).lacking

pub returns-clause-rest : goal.returns-clause-rest
returns-clause-rest c mark d text rest = (cut_is mark text).marked d rest
