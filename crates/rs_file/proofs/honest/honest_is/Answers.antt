use Rattle.std.proofs.Common.{◌↔◌, ℕ, IsTrue, sym, subst}
use Rattle.rs_file.specs.File.{state_of, events_of}
use Rattle.rs_file.specs.Honest.{AllRight}
use Rattle.rs_file.proofs.Following.{to_right, from_right}
use Rattle.rs_file.proofs.honest.honest_is.Goals as goal

pub returns : goal.returns
returns g c =
    let d = c.args._disk.now in
    let start = g.S.Start in
    let same : IsTrue (state_of start d).honest ↔ AllRight start.first start.torn d.size (events_of d) =
    (to_right start.first start.torn d.size (events_of d), from_right start.first start.torn d.size (events_of d)) in
    subst (λ (n : ℕ). IsTrue (state_of start d).honest ↔ AllRight start.first start.torn n (events_of d)) (sym d.long) same
