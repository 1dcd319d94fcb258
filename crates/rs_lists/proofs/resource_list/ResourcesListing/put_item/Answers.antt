use Rattle.std.proofs.Common.{subst, List, ℕ, ◌≤◌, length}
use Rattle.rs_lists.specs.Text.{resource_line}
use Rattle.rs_lists.proofs.Runs.{puts_same}
use Rattle.rs_lists.proofs.Items.{item_line}
use Rattle.rs_lists.proofs.resource_list.ResourcesListing.put_item.Goals as goal

pub returns-clause-puts : goal.returns-clause-puts
returns-clause-puts g c = puts_same c.put_resource.ensures.puts (item_line resource_line _ _ _ c.args.i _ c.base.ensures c.published.ensures)

pub returns-clause-small : goal.returns-clause-small
returns-clause-small g c = subst (λ (x : List ℕ). length x ≤ 2450) (item_line resource_line _ _ _ c.args.i _ c.base.ensures c.published.ensures) c.put_resource.ensures.small
