-- Every command that was accepted in a run was acknowledged before its end.
use Rattle.std.proofs.Common.{◌≡◌, ◌≤◌, ℕ, [], ◌∷◌, length, take, refl, sym, ap, subst, arith}
use Rattle.std.specs.List.{AllByRecursion}
use Rattle.std.proofs.lemmas.List.{take_all}
use Rattle.rs_disk.specs.Medium.{DiskState}
use Rattle.rs_store.specs.Source.{Stored}
use Rattle.rs_store.specs.Counted.{is_accepted, answered, acknowledged}
use Rattle.rs_store.specs.Runs.{InTurn, Condition, condition_after, AreAnswered}
use Rattle.rs_store.specs.Laws.{CallsRise}
use Rattle.rs_recovery.proofs.Below.{Commands, Acks}
use Rattle.rs_recovery.proofs.Counts.{answered_length}
use Rattle.rs_recovery.proofs.FromBelow.{answered_rise}
use Rattle.rs_recovery.proofs.Sessions.{few_answered}

-- all answers came before the end
pub all_by : {D : Type 0} (device : D → DiskState) → CallsRise device → (old : Stored D) (cs : Commands) (acks : Acks) (new : Stored D) → InTurn device old cs acks new
    → AllByRecursion (λ a. a.at_call ≤ (device new.disk).calls) acks
all_by {D} device rise old cs [] new turn = tt
all_by {D} device rise old (c ∷ cs) (a ∷ acks) new turn = (omega (arith, turn.4, rise turn.2 cs acks new turn.5), all_by device rise turn.2 cs acks new turn.5)
all_by {D} device rise old [] (a ∷ acks) new turn = absurd turn

pub same_length : {D : Type 0} (device : D → DiskState) (old : Stored D) (cs : Commands) (acks : Acks) (new : Stored D) → InTurn device old cs acks new → length cs ≡ length acks
same_length {D} device old [] [] new turn = refl
same_length {D} device old (c ∷ cs) (a ∷ acks) new turn = let more : length cs ≡ length acks = same_length device turn.2 cs acks new turn.5 in omega (arith, more)
same_length {D} device old cs acks new turn = absurd turn

-- If all answers came by m calls, all accepted commands were acknowledged by then.
accepted_by : (m : ℕ) (cs : Commands) (acks : Acks) → length cs ≡ length acks → AllByRecursion (λ a. a.at_call ≤ m) acks → length (answered is_accepted cs acks) ≤ acknowledged m acks
accepted_by m cs acks same all =
    let n = length acks in
    let all_acks : take n acks ≡ acks = take_all n acks (omega arith) in
    let all_cs : take n cs ≡ cs = take_all n cs (omega (arith, same)) in
    let few = few_answered m n cs acks (subst (AllByRecursion (λ a. a.at_call ≤ m)) (sym all_acks) all) in
    let these : answered is_accepted (take n cs) (take n acks) ≡ answered is_accepted cs acks = λ i. answered is_accepted (all_cs i) (all_acks i) in
    omega (arith, few, ap length these)

-- all accepted commands were acknowledged before the end
pub all_acknowledged : {D : Type 0} (device : D → DiskState) → CallsRise device → (old : Stored D) (cs : Commands) (acks : Acks) (new : Stored D) → InTurn device old cs acks new
    → length (answered is_accepted cs acks) ≤ acknowledged (device new.disk).calls acks
all_acknowledged {D} device rise old cs acks new turn =
    accepted_by (device new.disk).calls cs acks (same_length device old cs acks new turn) (all_by device rise old cs acks new turn)

-- the same, as the disk sees it
answered_by_end : (old : DiskState) (is : Condition) (cs : Commands) (acks : Acks) (new : DiskState) → AreAnswered old is cs acks new → AllByRecursion (λ a. a.at_call ≤ new.calls) acks
answered_by_end old is [] [] new all = tt
answered_by_end old is (c ∷ cs) (a ∷ acks) new all =
    let next = condition_after is c a.reply in
    (omega (arith, all.1.at_call, answered_rise all.0 next cs acks new all.2), answered_by_end all.0 next cs acks new all.2)
answered_by_end old is cs acks new all = absurd all

pub accepted_acknowledged : (old : DiskState) (is : Condition) (cs : Commands) (acks : Acks) (new : DiskState) → AreAnswered old is cs acks new
    → length (answered is_accepted cs acks) ≤ acknowledged new.calls acks
accepted_acknowledged old is cs acks new all = accepted_by new.calls cs acks (answered_length old is cs acks new all) (answered_by_end old is cs acks new all)
