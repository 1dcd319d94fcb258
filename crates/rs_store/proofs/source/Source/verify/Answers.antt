use Rattle.rs_store.proofs.Damaged.{all_have_places}
use Rattle.rs_store.proofs.source.Source.verify.Goals as goal

pub damaged_in-requires : goal.damaged_in-requires
damaged_in-requires g c =
    all_have_places (g.D.Disk.state c.self.inside.disk).size c.self.inside.slots.root c.self.inside.contents c.self.invariant.rooted.whole
