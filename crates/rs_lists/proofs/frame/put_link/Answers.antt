use Rattle.std.proofs.Common.{ap, List, ℕ}
use Rattle.rs_lists.specs.Text.{line, link_line}
use Rattle.rs_lists.proofs.Runs.{puts_same}
use Rattle.rs_lists.proofs.frame.put_link.Goals as goal

pub returns-clause-puts : goal.returns-clause-puts
returns-clause-puts g c = puts_same c.put_line.ensures (ap (λ (b : List ℕ). line (link_line c.args.relation.now b c.args.path.now)) c.bytes.ensures.value)
