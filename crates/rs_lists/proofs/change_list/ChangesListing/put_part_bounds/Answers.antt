use Rattle.rs_lists.specs.Text.{from_of, until_of}
use Rattle.rs_lists.proofs.Sizes.{change_md_small}
use Rattle.rs_lists.proofs.change_list.ChangesListing.put_part_bounds.Goals as goal

pub returns-clause-small : goal.returns-clause-small
returns-clause-small g c = let s = g.V.View.shown c.args.view.now in change_md_small (from_of s c.args.part) (until_of s c.args.part)
