-- The text up to the mark, by its place.
use Rattle.rs_caps.proofs.Cutting.{cut-found, cut-none}
use Rattle.rs_caps.proofs.documents.path_reading.cut.Goals as goal

pub returns-in-Some : goal.returns-in-Some
returns-in-Some c = cut-found c.args.mark c.args.text.now _ _ c.in-Some.at c.in-Some.ensures c.split_at.ensures.front c.split_at.ensures.back

pub returns-in-None : goal.returns-in-None
returns-in-None c = cut-none c.args.mark c.args.text.now c.in-None.ensures
