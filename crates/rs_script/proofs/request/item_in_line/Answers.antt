-- A line that does not begin as an item is no item.
use Rattle.std.proofs.Common.{◌∙◌, codes, nat_eq, inl, sym, ap}
use Rattle.std.specs.List.{starts_with}
use Rattle.rs_script.specs.Statements.{or_refused}
use Rattle.rs_script.proofs.ForeignLemmas.{either_false, is_no_item}
use Rattle.rs_script.proofs.request.item_in_line.Goals as goal

pub returns-then-not-begins_item : goal.returns-then-not-begins_item
returns-then-not-begins_item c =
    let line = c.args.line.now in
    let none = either_false (starts_with nat_eq line (codes "put ")) (starts_with nat_eq line (codes "delete ")) (sym c.begins_item.ensures ∙ c.if-not-begins_item.true) in
    inl (sym (ap or_refused (is_no_item line none.0 none.1)))
