use Rattle.rs_lists.proofs.Sizes.{resource_md_small}
use Rattle.rs_lists.proofs.resource_list.ResourcesListing.put_bounds.Goals as goal

pub returns-clause-small : goal.returns-clause-small
returns-clause-small g c = resource_md_small (g.V.View.shown c.args.view.now).at
