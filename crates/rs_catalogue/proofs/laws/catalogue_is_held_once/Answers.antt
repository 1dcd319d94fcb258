use Rattle.rs_catalogue.proofs.laws.catalogue_is_held_once.Goals as goal

pub returns : goal.returns
returns c refs image a b first second = c.pages_hold_once.ensures.pages refs image a b first.hold second.hold
