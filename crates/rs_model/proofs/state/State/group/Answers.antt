use Rattle.std.proofs.Common.{◌≡◌, ◌<◌, sym, ap, ◌∙◌, arith}
use Rattle.rs_model.specs.declared.command.Command.TheVariants.{Group}
use Rattle.rs_model.proofs.LawfulLemmas.{below_greatest}
use Rattle.rs_model.proofs.ItemLemmas.{none_left, same_states, accepted_again}
use Rattle.rs_model.proofs.GroupLemmas.{item_accepted, group_accepted}
use Rattle.rs_model.specs.Step.{first_cause, items_causes, moment_at, after_items}
use Rattle.rs_model.proofs.state.State.group.Goals as goal

pub next_moment-first-requires : goal.next_moment-first-requires
next_moment-first-requires c =
    let same : c.self.inside.last ≡ c.args.self.now.last = ap (λ s. s.last) c.self.view_is in
    let below : c.args.self.now.last < 253402300799999 = below_greatest c.args.self.now (Group c.args.group) c.args.now c.requires.accepted in
    omega (arith, same, below)

pub loop-item-init : goal.loop-item-init
loop-item-init c =
    let items : c.into_iter-item-iterator.result.rest.items ≡ c.args.group = c.into_iter-item-iterator.ensures.into_iter_gives.0 ∙ c.into_items-items.ensures in
    let same : c.in_ok-next.next ≡ c.args.self.now = c.in_ok-next.ensures in (
      ap (λ l. first_cause (items_causes c.in_ok-next.next l c.args.now)) items
          ∙ ap (λ s. first_cause (items_causes s c.args.group c.args.now)) same
          ∙ (group_accepted c.args.self.now c.args.group c.args.now c.requires.accepted).1,
      ap (λ l. after_items c.in_ok-next.next l c.args.now) items ∙ ap (λ s. after_items s c.args.group c.args.now) same,
    )

pub accept-requires : goal.accept-requires
accept-requires c =
    let left = ap (λ l. first_cause (items_causes c.loop-item.next l c.args.now)) (sym c.in-Some.ensures.steps.0) ∙ c.loop-item.invariant.0 in
    record { accepted = (item_accepted c.loop-item.next c.in-Some.item _ _ left).0 }

pub loop-item-preserved : goal.loop-item-preserved
loop-item-preserved c =
    let left = ap (λ l. first_cause (items_causes c.loop-item.next l c.args.now)) (sym c.in-Some.ensures.steps.0) ∙ c.loop-item.invariant.0 in (
      ap (λ s. first_cause (items_causes s c.next.new.self.rest.items c.args.now)) c.in_ok-accept.ensures
          ∙ (item_accepted c.loop-item.next c.in-Some.item _ _ left).1,
      ap (λ s. after_items s c.next.new.self.rest.items c.args.now) c.in_ok-accept.ensures
          ∙ ap (λ l. after_items c.loop-item.next l c.args.now) (sym c.in-Some.ensures.steps.0) ∙ c.loop-item.invariant.1,
    )

pub returns-clause-state : goal.returns-clause-state
returns-clause-state c =
    let none = none_left c.loop-item.item-iterator.rest.items (sym c.loop-item.item-iterator.rest.ok.0 ∙ c.in-None.ensures.steps.0) in
    c.next-2.view_is ∙ ap (λ l. after_items c.loop-item.next l c.args.now) (sym none) ∙ c.loop-item.invariant.1
    ∙ sym (same_states c.args.self.now c.args.group (moment_at c.args.self.now c.args.now) c.args.now (accepted_again c.args.self.now c.args.now))
