use Rattle.std.proofs.Common.{None}
use Rattle.rs_lists.proofs.Sizes.{change_md_small}
use Rattle.rs_lists.proofs.change_list.ChangesListing.put_bounds.Goals as goal

pub returns-clause-small : goal.returns-clause-small
returns-clause-small g c = change_md_small (g.V.View.shown c.args.view.now).begin None
