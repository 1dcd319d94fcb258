use Rattle.rs_image.proofs.placed.names_placed.Goals as goal

pub returns : goal.returns
returns c pages names = c.are_placed.ensures pages (c.entries_of.ensures pages names)
