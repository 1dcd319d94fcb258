use Rattle.std.proofs.Common.{◌≡◌, ◌<◌, ◌+◌, [], ◌∷◌, ◌++◌, List, ℕ, take, length, Bool, true, cond, vec_len, refl, sym, ◌∙◌, ap, subst, arith, IsTrue, IsErrOf}
use Rattle.std.specs.Prelude.{is_ok}
use Rattle.std.specs.List.{AllZip}
use Rattle.std.specs.Vec.{vec_capacity}
use Rattle.std.proofs.lemmas.List.{take_more, take_all}
use Rattle.rs_model.specs.declared.command.Command.{Command}
use Rattle.rs_store.specs.declared.running.Ack.{Ack}
use Rattle.rs_store.specs.Source.{Stored}
use Rattle.rs_store.specs.declared.refusal.Refusal.TheVariants.{Closed}
use Rattle.rs_store.specs.Runs.{InTurn}
use Rattle.rs_store.proofs.Turns.{idle_at, in_turn_push, none_device, zip_push}
use Rattle.rs_store.proofs.Moments.{holds_all}
use Rattle.rs_store.proofs.Answering.{are_answered, each_moment}
use Rattle.rs_store.proofs.source.Source.run.Goals as goal

abbrev IsClosedTo : Command × ℕ → Ack → Type 0
IsClosedTo command a = IsErrOf a.reply Closed

pub loop-command-preserved : goal.loop-command-preserved
loop-command-preserved g c =
    let i = c.loop-command.command-index in
    let commands = c.args.commands.now in
    let acks = c.loop-command.acks.items in
    let new = c.command-reply.new.self in
    let item : Command × ℕ = c.loop-command-item.result in
    let lt : i < length commands = omega arith in
    let ack : Ack = record { reply = c.command-reply.result; at_call = c.calls-at_call.result } in
    let more = in_turn_push g.D.Disk.state g.met.D.Disk.holds c.args.self.now (take i commands) acks c.loop-command.self item ack new c.loop-command.invariant.turn c.command-reply.ensures c.calls-at_call.ensures in
    let these : take i commands ++ item ∷ [] ≡ take (i + 1) commands =
    ap (λ (x : Command × ℕ). take i commands ++ x ∷ []) c.loop-command-item.is ∙ sym (take_more commands i item lt) in
    let fits : vec_len c.loop-command.acks < vec_capacity c.loop-command.acks = omega (arith, lt, c.loop-command.invariant.many, c.loop-command.invariant.room) in
    let pushed : is_ok c.push.result ≡ true = c.push.ensures.succeeds fits in
    let items : c.push.new.self.items ≡ acks ++ ack ∷ [] = c.push.ensures.items ∙ ap (λ (b : Bool). cond b (acks ++ ack ∷ []) acks) pushed in
    let many : vec_len c.push.new.self ≡ vec_len c.loop-command.acks + 1 = c.push.ensures.len ∙ ap (λ (b : Bool). cond b (vec_len c.loop-command.acks + 1) (vec_len c.loop-command.acks)) pushed in
    record {
      turn = subst (λ (answers : List Ack). InTurn g.D.Disk.state c.args.self.now (take (i + 1) commands) answers new) (sym items)
          (subst (λ (cs : List (Command × ℕ)). InTurn g.D.Disk.state c.args.self.now cs (acks ++ ack ∷ []) new) these more);
      closed = λ shut.
          let before = c.loop-command.invariant.closed shut in
          let still : IsTrue c.loop-command.self.is_closed = ap (λ (x : Stored g.row.D.Denot). x.is_closed) before.0 ∙ shut in
          let met = c.command-reply.ensures.closed still in
          let answers = zip_push IsClosedTo (take i commands) acks item ack before.1 met.0 in (
            met.1 ∙ before.0,
            subst (λ (l : List Ack). AllZip IsClosedTo (take (i + 1) commands) l) (sym items)
                (subst (λ (cs : List (Command × ℕ)). AllZip IsClosedTo cs (acks ++ ack ∷ [])) these answers),
          );
      room = omega (arith, c.loop-command.invariant.room, c.push.ensures.capacity);
      many = omega (arith, many, c.loop-command.invariant.many);
    }

pub returns-clause-in_turn : goal.returns-clause-in_turn
returns-clause-in_turn g c =
    subst (λ (cs : List (Command × ℕ)). InTurn g.D.Disk.state c.args.self.now cs c.loop-command.acks.items c.loop-command.self)
    (take_all c.loop-command.command-index c.args.commands.now c.loop-command-test.false) c.loop-command.invariant.turn

pub returns-clause-closed : goal.returns-clause-closed
returns-clause-closed g c = λ shut.
    let at_end = c.loop-command.invariant.closed shut in (
      at_end.0,
      subst (λ (cs : List (Command × ℕ)). AllZip IsClosedTo cs c.loop-command.acks.items)
          (take_all c.loop-command.command-index c.args.commands.now c.loop-command-test.false) at_end.1,
    )

pub returns-clause-closes : goal.returns-clause-closes
returns-clause-closes g c = λ is_open.
    none_device g.D.Disk.state c.args.self.now c.args.commands.now c.loop-command.acks.items c.loop-command.self (returns-clause-in_turn g c) is_open

pub returns-clause-any_moment : goal.returns-clause-any_moment
returns-clause-any_moment g c = λ s holds.
    each_moment g.D.Disk.state g.met.D.Disk.holds s c.args.self.now c.args.commands.now c.loop-command.acks.items c.loop-command.self holds (returns-clause-in_turn g c)

pub returns-clause-at_exit : goal.returns-clause-at_exit
returns-clause-at_exit g c = λ s holds open_then.
    holds_all g.D.Disk.state s c.args.self.now c.args.commands.now c.loop-command.acks.items c.loop-command.self holds (returns-clause-in_turn g c) open_then

pub returns-clause-answered : goal.returns-clause-answered
returns-clause-answered g c = λ s holds.
    are_answered g.D.Disk.state g.met.D.Disk.holds s c.args.self.now c.args.commands.now c.loop-command.acks.items c.loop-command.self holds (returns-clause-in_turn g c)

pub loop-command-init : goal.loop-command-init
loop-command-init g c = record {
  turn = subst (λ (answers : List Ack). InTurn g.D.Disk.state c.args.self.now [] answers c.args.self.now) (sym c.in_ok-acks.ensures.items)
      (idle_at g.D.Disk.state g.met.D.Disk.holds c.args.self.now);
  closed = λ shut. (refl, subst (λ (answers : List Ack). AllZip IsClosedTo [] answers) (sym c.in_ok-acks.ensures.items) tt);
  room = omega (arith, c.in_ok-acks.ensures.capacity);
  many = c.in_ok-acks.ensures.len;
}
