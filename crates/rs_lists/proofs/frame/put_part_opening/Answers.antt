use Rattle.std.proofs.Common.{sym, ◌∷◌, []}
use Rattle.std.specs.Prelude.{codes}
use Rattle.rs_lists.specs.Text.{xml_line, open_line, up_line, link_line}
use Rattle.rs_lists.proofs.Runs.{puts_last, stops_first}
use Rattle.rs_lists.proofs.Lines.{joined-next}
use Rattle.rs_lists.proofs.frame.put_part_opening.Goals as goal

pub returns-in_err-put_opening-clause-puts : goal.returns-in_err-put_opening-clause-puts
returns-in_err-put_opening-clause-puts g c =
    stops_first _ g.met.S.Sink.laws c.from_residual.ensures.0 c.in_err-put_opening.ensures.puts.failed
    (sym (joined-next (xml_line ∷ open_line (codes "urlset") ∷ up_line c.args.base.now ∷ []) (link_line (codes "index") c.args.base.now c.args.index.now)))

pub returns-clause-puts : goal.returns-clause-puts
returns-clause-puts g c =
    puts_last g.met.S.Sink.laws c.in_ok-put_opening.ensures.puts.took c.put_link.ensures.puts
    (sym (joined-next (xml_line ∷ open_line (codes "urlset") ∷ up_line c.args.base.now ∷ []) (link_line (codes "index") c.args.base.now c.args.index.now)))
