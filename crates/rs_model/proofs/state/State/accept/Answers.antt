use Rattle.std.proofs.Common.{◌≡◌, ◌<◌, ap, arith}
use Rattle.rs_model.proofs.LawfulLemmas.{item_below}
use Rattle.rs_model.proofs.state.State.accept.Goals as goal

pub next_moment-moment-requires : goal.next_moment-moment-requires
next_moment-moment-requires c =
    let same : c.self.inside.last ≡ c.args.self.now.last = ap (λ s. s.last) c.self.view_is in
    let below : c.args.self.now.last < 253402300799999 = item_below c.args.self.now c.args.item c.requires.accepted in
    omega (arith, same, below)
