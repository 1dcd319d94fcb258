use Rattle.std.proofs.Common.{◌≡◌, ◌<◌, sym, ap, arith}
use Rattle.rs_model.proofs.LawfulLemmas.{below_greatest}
use Rattle.rs_model.proofs.state.State.apply.Goals as goal

pub next_moment-moment-requires : goal.next_moment-moment-requires
next_moment-moment-requires c =
    let same : c.self.inside.last ≡ c.args.self.now.last = ap (λ s. s.last) c.self.view_is in
    let below : c.args.self.now.last < 253402300799999 = below_greatest c.args.self.now c.args.command c.args.now (sym c.in_default.ensures) in
    omega (arith, same, below)
