use Rattle.std.proofs.Common.{refl}
use Rattle.rs_lists.specs.Escape.{stands_as_it_is}
use Rattle.rs_lists.proofs.Plain.{escape-plain}
use Rattle.rs_lists.proofs.laws.plain_texts_stay.Goals as goal

pub returns : goal.returns
returns c = escape-plain stands_as_it_is refl refl refl refl refl
