use Rattle.rs_plan.proofs.Replies.{item_made}
use Rattle.rs_plan.proofs.planning.grouping.lists_after_item.Goals as goal

pub returns-in-Put : goal.returns-in-Put
returns-in-Put c =
    item_made c.lists_after_put.result c.args.old.now c.args.item.now c.in-Put.name c.in-Put.kind c.in-Put.bytes c.bytes-bytes.result.now c.digests_of-digests.result
    c.args.body c.args.moment c.in-Put.is c.bytes-bytes.ensures c.digests_of-digests.ensures c.lists_after_put.ensures
