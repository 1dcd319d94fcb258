use Rattle.rs_disk.proofs.Images.{torn_from, image_torn}
use Rattle.rs_disk.proofs.laws.write_unsettles_its_range.Goals as goal

pub returns-clause-within : goal.returns-clause-within
returns-clause-within c = λ m size at n is fits image. (torn_from m size at n is fits image, image_torn m size at n is fits image)
