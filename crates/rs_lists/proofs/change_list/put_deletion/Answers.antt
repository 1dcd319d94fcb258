use Rattle.rs_lists.proofs.Bounds.{unbound_line_small}
use Rattle.rs_lists.proofs.Runs.{puts_same}
use Rattle.rs_lists.proofs.Items.{unbound_pieces}
use Rattle.rs_lists.proofs.change_list.put_deletion.Goals as goal

pub returns-clause-puts : goal.returns-clause-puts
returns-clause-puts g c =
    puts_same c.put_line.ensures (unbound_pieces c.args.base.now c.args.change.now _ _ _ c.bytes.ensures.lawful c.requires c.bytes.ensures.value c.bytes-2.ensures.value c.word.ensures)

pub returns-clause-small : goal.returns-clause-small
returns-clause-small g c = unbound_line_small c.args.base.now c.args.change.now c.requires c.bytes.ensures.lawful c.bytes-2.ensures.lawful
