-- No bytes are no line.
use Rattle.std.proofs.Common.{◌≡◌, [], length, take, ap, sym, ◌∙◌, append-nil}
use Rattle.std.proofs.lemmas.Bool.{eqb-true}
use Rattle.std.proofs.lemmas.List.{take_all}
use Rattle.rs_http.proofs.Lines.{no_item}
use Rattle.rs_http.proofs.group.add_last.Goals as goal

pub returns-then-is_empty-clause-ok : goal.returns-then-is_empty-clause-ok
returns-then-is_empty-clause-ok c =
    let items = c.args.items.now.items in
    let empty : length c.args.bytes.now ≡ 0 = eqb-true (length c.args.bytes.now) 0 (sym c.is_empty.ensures ∙ c.if-is_empty.true) in
    ([], no_item c.args.bytes.now empty, sym (ap (take 17) (append-nil items) ∙ take_all 17 items c.requires))
