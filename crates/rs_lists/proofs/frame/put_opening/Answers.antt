use Rattle.std.proofs.Common.{◌++◌, [], refl}
use Rattle.rs_lists.specs.Root.{tag_of}
use Rattle.rs_lists.specs.Text.{line, open_line, up_line}
use Rattle.rs_lists.proofs.Runs.{puts_last, stops_first, stops_then}
use Rattle.rs_lists.proofs.Lines.{opening_lines}
use Rattle.rs_lists.proofs.frame.put_opening.Goals as goal

pub returns-in_err-put_line-clause-puts : goal.returns-in_err-put_line-clause-puts
returns-in_err-put_line-clause-puts g c = stops_first (line (open_line (tag_of c.args.root)) ++ (line (up_line c.args.base.now) ++ [])) g.met.S.Sink.laws c.from_residual.ensures.0 c.in_err-put_line.ensures.failed refl

pub returns-in_err-put_line-2-clause-puts : goal.returns-in_err-put_line-2-clause-puts
returns-in_err-put_line-2-clause-puts g c =
    stops_then _ g.met.S.Sink.laws c.from_residual-in_err-put_line-2.ensures.0 c.in_ok-put_line.ensures.took c.in_err-put_line-2.ensures.failed (opening_lines _ _ c.args.base.now c.tag.ensures)

pub returns-clause-puts : goal.returns-clause-puts
returns-clause-puts g c =
    puts_last g.met.S.Sink.laws (g.met.S.Sink.laws.more _ _ _ _ _ c.in_ok-put_line.ensures.took c.in_ok-put_line-2.ensures.took) c.put_link.ensures.puts (opening_lines _ _ c.args.base.now c.tag.ensures)
