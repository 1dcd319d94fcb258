use Rattle.rs_disk.proofs.Choice.{image_of_image, image_has_choice}
use Rattle.rs_disk.proofs.laws.choices_reach_each_image.Goals as goal

pub returns-clause-sound : goal.returns-clause-sound
returns-clause-sound c = image_of_image

pub returns-clause-complete : goal.returns-clause-complete
returns-clause-complete c = image_has_choice
