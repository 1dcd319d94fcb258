-- A session goes on.
use Rattle.std.proofs.Common.{◌≡◌, ℕ, [], ◌∷◌, ◌++◌, refl, sym, subst, Result, Ok, Err}
use Rattle.std.specs.Prelude.{IsErrOf}
use Rattle.std.proofs.lemmas.List.Elements.{All-head, All-tail}
use Rattle.rs_disk.specs.Medium.{DiskState, IsImage}
use Rattle.rs_model.specs.State.{Source}
use Rattle.rs_model.specs.Step.{step, state_after, fold_of}
use Rattle.rs_model.specs.declared.command.Command.{Command}
use Rattle.rs_model.specs.declared.command.Reply.{Reply}
use Rattle.rs_store.specs.declared.refusal.Refusal.{Refusal}
use Rattle.rs_store.specs.declared.refusal.Refusal.TheVariants.{Device}
use Rattle.rs_store.specs.declared.running.Ack.{Ack}
use Rattle.rs_store.specs.Counted.{counted_commands}
use Rattle.rs_store.specs.Laws.{AreNotDevice}
use Rattle.rs_store.specs.Runs.{Condition, Holding, MayStandFor, condition_after, condition_behind, AreAnswered}
use Rattle.rs_recovery.specs.Sessions.{SessionsGoOn, SessionsLast}
use Rattle.rs_recovery.proofs.Below.{Commands, Acks, weaker}
use Rattle.rs_recovery.proofs.FromBelow.{exit_images, goes_on}

-- more commands, from the condition that the first ones left
answers_join : (is : Condition) (old mid new : DiskState) (cs ds : Commands) (acks late : Acks)
    → AreAnswered old is cs acks mid → AreAnswered mid (condition_behind is cs acks) ds late new → AreAnswered old is (cs ++ ds) (acks ++ late) new
answers_join is old mid new [] [] [] [] first then = goes_on old mid new (λ _. MayStandFor is) first then
answers_join is old mid new [] (d ∷ ds) [] (a ∷ late) first then = (
  then.0,
  record {
    ready = then.1.ready;
    idle = goes_on old mid then.1.ready (λ _. MayStandFor is) first then.1.idle;
    within = then.1.within;
    reply = then.1.reply;
    at_call = then.1.at_call;
  },
  then.2,
)
answers_join is old mid new [] [] [] (a ∷ late) first then = absurd then
answers_join is old mid new [] (d ∷ ds) [] [] first then = absurd then
answers_join is old mid new (c ∷ cs) ds (a ∷ acks) late first then =
    (first.0, first.1, answers_join (condition_after is c a.reply) first.0 mid new cs ds acks late first.2 then)
answers_join is old mid new [] ds (a ∷ acks) late first then = absurd first
answers_join is old mid new (c ∷ cs) ds [] late first then = absurd first

abbrev IsNoDevice : Ack → Type 0
IsNoDevice a = ¬ IsErrOf a.reply Device

-- one more answer, which is not Device
one_more : (s : Source) (c : Command × ℕ) (cs : Commands) (reply : Result Reply Refusal) (call : ℕ) (acks : Acks) → ¬ IsErrOf reply Device
    → ((t : Source) → condition_behind (Holding t) cs acks ≡ Holding (fold_of t (counted_commands cs acks)))
    → condition_behind (condition_after (Holding s) c reply) cs acks ≡ Holding (fold_of s (counted_commands (c ∷ cs) (record { reply = reply; at_call = call } ∷ acks)))
one_more s c cs (Ok reply) call acks other rest = rest (state_after s (step s c.0 c.1))
one_more s c cs (Err Device) call acks other rest = absurd (other refl)
one_more s c cs (Err refusal) call acks other rest = rest s

-- if no answer is Device, the counted commands make the final state
open_behind : (s : Source) (cs : Commands) (acks : Acks) → AreNotDevice acks → condition_behind (Holding s) cs acks ≡ Holding (fold_of s (counted_commands cs acks))
open_behind s [] acks none = refl
open_behind s (c ∷ cs) [] none = refl
open_behind s (c ∷ cs) (a ∷ acks) none =
    one_more s c cs a.reply a.at_call acks (All-head IsNoDevice a acks none) (λ t. open_behind t cs acks (All-tail IsNoDevice a acks none))

pub sessions_go_on : SessionsGoOn
sessions_go_on s old mid new cs ds acks late first none then =
    answers_join (Holding s) old mid new cs ds acks late first
    (subst (λ (k : Condition). AreAnswered mid k ds late new) (sym (open_behind s cs acks none)) then)

pub sessions_last : SessionsLast
sessions_last is old mid new [] [] all rests = goes_on old mid new (λ _. MayStandFor is) all
    (weaker mid new (λ _. IsImage mid.now) (λ _. MayStandFor is) (λ m image left. exit_images old mid (λ _. MayStandFor is) all image left) rests.leaves)
sessions_last is old mid new (c ∷ cs) (a ∷ acks) all rests = (all.0, all.1, sessions_last (condition_after is c a.reply) all.0 mid new cs acks all.2 rests)
sessions_last is old mid new [] (a ∷ acks) all rests = absurd all
sessions_last is old mid new (c ∷ cs) [] all rests = absurd all
