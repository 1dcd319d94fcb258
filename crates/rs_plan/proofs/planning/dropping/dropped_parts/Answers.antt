use Rattle.std.proofs.Common.{[]}
use Rattle.rs_plan.proofs.FromBelow.{dropped_within}
use Rattle.rs_image.specs.StateOfImage.{state_in}
use Rattle.rs_plan.proofs.planning.dropping.dropped_parts.Goals as goal

pub returns-clause-full : goal.returns-clause-full
returns-clause-full c = dropped_within (state_in [] c.args.contents.now)
