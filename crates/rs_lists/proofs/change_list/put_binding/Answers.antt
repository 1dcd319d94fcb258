use Rattle.std.proofs.Common.{◌∙◌, sym, arith}
use Rattle.rs_lists.proofs.Bounds.{bound_line_small}
use Rattle.rs_lists.proofs.Runs.{puts_same}
use Rattle.rs_lists.proofs.Items.{bound_pieces}
use Rattle.rs_lists.proofs.change_list.put_binding.Goals as goal

pub returns-clause-puts : goal.returns-clause-puts
returns-clause-puts g c =
    puts_same c.put_line.ensures
    (bound_pieces c.args.base.now c.args.change.now c.args.facts.now _ _ _ _ c.bytes.ensures.lawful c.requires c.bytes.ensures.value c.bytes-2.ensures.value c.word.ensures
    c.bytes-3.ensures.value)

pub returns-clause-small : goal.returns-clause-small
returns-clause-small g c =
    bound_line_small c.args.base.now c.args.change.now c.args.facts.now c.requires c.bytes.ensures.lawful c.bytes-2.ensures.lawful c.bytes-3.ensures.lawful (omega arith)
    (sym c.hash_length-bytes.ensures.value ∙ c.hash_length-bytes.ensures.constant)
