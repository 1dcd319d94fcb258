use Rattle.std.proofs.Common.{◌≡◌, false, take, get_or, sym, ap, ◌∙◌, arith}
use Rattle.std.specs.Option.{unwrap_or}
use Rattle.std.proofs.lemmas.Bool.Decides.{nat_tests}
use Rattle.rs_model.specs.Grouping.{held_after}
use Rattle.rs_model.proofs.DecidedLemmas.{none_reached, known_held, refused_there, passed_there, all_passed}
use Rattle.rs_model.proofs.grouping.group_refusal.Goals as goal

pub loop-i-init : goal.loop-i-init
loop-i-init c = λ s b. none_reached s _ _ _ _ b

pub returns-in-Some : goal.returns-in-Some
returns-in-Some c = λ s b.
    let first : c.unwrap_or-before.result ≡ get_or c.args.held.now c.loop-i.i false =
    c.unwrap_or-before.ensures ∙ ap (λ o. unwrap_or o false) c.copied.ensures ∙ c.get.ensures.lookup.4 (omega arith) false in
    let held = known_held s c.args.items.now c.args.held.now c.args.counts c.args.now c.loop-i.i c.index-items-i.result _ _ b c.loop-i-test.true c.index-items-i.is first
    (c.is_held_after-is_held.ensures ∙ ap (held_after (take c.loop-i.i c.args.items.now) c.unwrap_or-before.result) c.name.ensures) in
    refused_there s _ _ _ _ _ _ _ (c.loop-i.invariant s b) c.loop-i-test.true (omega arith) c.index-items-i.is held c.in-Some.ensures

pub loop-i-preserved : goal.loop-i-preserved
loop-i-preserved c = λ s b.
    let first : c.unwrap_or-before.result ≡ get_or c.args.held.now c.loop-i.i false =
    c.unwrap_or-before.ensures ∙ ap (λ o. unwrap_or o false) c.copied.ensures ∙ c.get.ensures.lookup.4 (omega arith) false in
    let held = known_held s c.args.items.now c.args.held.now c.args.counts c.args.now c.loop-i.i c.index-items-i.result _ _ b c.loop-i-test.true c.index-items-i.is first
    (c.is_held_after-is_held.ensures ∙ ap (held_after (take c.loop-i.i c.args.items.now) c.unwrap_or-before.result) c.name.ensures) in
    passed_there s _ _ _ _ _ _ _ (c.loop-i.invariant s b) c.loop-i-test.true c.index-items-i.is held (sym c.in_default.ensures) c.pass.ensures

pub returns : goal.returns
returns c = λ s b. all_passed s _ _ _ _ (c.loop-i.invariant s b) (omega arith) (grind (arith, nat_tests)) (omega arith)
