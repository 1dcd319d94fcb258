use Rattle.std.proofs.Common.{◌∙◌, sym, arith}
use Rattle.rs_lists.proofs.Runs.{puts_same}
use Rattle.rs_lists.proofs.Items.{resource_pieces}
use Rattle.rs_lists.proofs.Bounds.{resource_line_small}
use Rattle.rs_lists.proofs.resource_list.put_resource.Goals as goal

pub returns-clause-puts : goal.returns-clause-puts
returns-clause-puts g c =
    puts_same c.put_line.ensures (resource_pieces c.args.base.now c.args.«record».now _ _ _ c.bytes.ensures.lawful c.bytes.ensures.value c.bytes-2.ensures.value c.bytes-3.ensures.value)

pub returns-clause-small : goal.returns-clause-small
returns-clause-small g c =
    resource_line_small c.args.base.now c.args.«record».now c.bytes.ensures.lawful c.bytes-2.ensures.lawful c.bytes-3.ensures.lawful (omega arith)
    (sym c.hash_length-bytes.ensures.value ∙ c.hash_length-bytes.ensures.constant)
