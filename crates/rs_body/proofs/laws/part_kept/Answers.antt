use Rattle.rs_body.proofs.KeptBlocks.{part_kept, image_part_kept}
use Rattle.rs_body.proofs.laws.part_kept.Goals as goal

pub returns-clause-part : goal.returns-clause-part
returns-clause-part c = part_kept

pub returns-clause-image : goal.returns-clause-image
returns-clause-image c = image_part_kept
