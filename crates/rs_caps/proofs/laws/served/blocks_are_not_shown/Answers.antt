use Rattle.rs_caps.proofs.BlocksNotShown.{blocks_not_shown, alike_views}
use Rattle.rs_caps.proofs.laws.served.blocks_are_not_shown.Goals as goal

pub returns-clause-bare : goal.returns-clause-bare
returns-clause-bare c = blocks_not_shown

pub returns-clause-alike : goal.returns-clause-alike
returns-clause-alike c = alike_views
