use Rattle.std.proofs.Common.{subst, List, ℕ, ◌≤◌, length}
use Rattle.rs_lists.specs.Text.{change_line}
use Rattle.rs_lists.proofs.Runs.{puts_same}
use Rattle.rs_lists.proofs.Items.{item_line}
use Rattle.rs_lists.proofs.change_list.ChangesListing.put_item.Goals as goal

pub returns-clause-puts : goal.returns-clause-puts
returns-clause-puts g c = puts_same c.put_change.ensures.puts (item_line change_line _ _ _ c.args.i _ c.base.ensures c.change.ensures)

pub returns-clause-small : goal.returns-clause-small
returns-clause-small g c = subst (λ (x : List ℕ). length x ≤ 2450) (item_line change_line _ _ _ c.args.i _ c.base.ensures c.change.ensures) c.put_change.ensures.small
