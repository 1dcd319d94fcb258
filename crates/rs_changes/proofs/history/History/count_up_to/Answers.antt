use Rattle.std.proofs.Common.{◌<◌, ◌≤◌, ◌+◌, ◌/◌, sym, ◌∙◌, arith}
use Rattle.std.proofs.lemmas.Map.Keys.{le_from_is_le}
use Rattle.rs_model.specs.Step.{passed_by}
use Rattle.rs_changes.specs.History.{changes_of}
use Rattle.rs_changes.proofs.Rising.{above}
use Rattle.rs_changes.proofs.Passed.{begun, passed_at, passed_before}
use Rattle.rs_changes.proofs.history.History.count_up_to.Goals as goal

pub loop-low-init : goal.loop-low-init
loop-low-init c = begun c.len-high.result c.args.moment (changes_of c.args.self.now.pages) c.len-high.ensures.value

-- the change in the middle is not after the moment, so no change before it is
pub loop-low-preserved-then-le : goal.loop-low-preserved-then-le
loop-low-preserved-then-le c =
    let changes = changes_of c.args.self.now.pages in
    let middle = (c.loop-low.low + c.loop-low.high) / 2 in
    let this = c.at.result.now in
    let low : this.moment ≤ c.args.moment = le_from_is_le this.moment c.args.moment (sym c.le.ensures ∙ c.if-le.true) in
    let passed : middle < passed_by c.args.moment changes = passed_at c.args.moment changes middle this c.len-high.ensures.lawful.kept.rising c.at.ensures low in
    record { above = omega (arith, passed); below = c.loop-low.invariant.below; inside = c.loop-low.invariant.inside }

-- it is after the moment
pub loop-low-preserved : goal.loop-low-preserved
loop-low-preserved c =
    let changes = changes_of c.args.self.now.pages in
    let middle = (c.loop-low.low + c.loop-low.high) / 2 in
    let this = c.at.result.now in
    let high : c.args.moment < this.moment = above this.moment c.args.moment (sym c.le.ensures ∙ c.if-le.false) in
    record { above = c.loop-low.invariant.above; below = passed_before c.args.moment changes middle this c.at.ensures high; inside = omega (arith, c.loop-low.invariant.inside, c.loop-low-test.true) }
