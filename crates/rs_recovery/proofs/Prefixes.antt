-- Commands that are asked one by one are a run, and a stop leaves the state after the first of them.
use Rattle.std.proofs.Common.{◌≡◌, ◌⊎◌, inl, inr, ⊎_elim, ℕ, ◌+◌, ◌≤◌, Bool, true, false, ◌&&◌, ◌||◌, List, [], ◌∷◌, ◌++◌, length, refl, sym, ◌∙◌, ap, subst, arith, cond, Result, Ok, Err, append_assoc, append-nil}
use Rattle.std.specs.Prelude.{nat_le}
use Rattle.std.proofs.lemmas.Bool.{leb-true, le-leb}
use Rattle.std.proofs.lemmas.List.{length-append}
use Rattle.rs_disk.specs.Medium.{DiskState, IsImageAt}
use Rattle.rs_model.specs.State.{Source}
use Rattle.rs_model.specs.declared.command.Command.{Command}
use Rattle.rs_model.specs.declared.command.Reply.{Reply}
use Rattle.rs_store.specs.declared.refusal.Refusal.{Refusal}
use Rattle.rs_store.specs.declared.refusal.Refusal.TheVariants.{Device}
use Rattle.rs_store.specs.Source.{Stored, Holds}
use Rattle.rs_store.specs.Answered.{Answers}
use Rattle.rs_store.specs.Counted.{is_accepted, is_device, is_in_doubt, answered, counted_commands, acknowledged, begun}
use Rattle.rs_store.specs.Runs.{InTurn, StandsForPrefix}
use Rattle.rs_store.specs.Laws.{CallsRise, TurnsGoOn}
use Rattle.rs_recovery.specs.Below.{Below}
use Rattle.rs_recovery.specs.Prefixes.{counted_as, StandsForFirst, LeavesPrefixes, RunsRecover, IdleIsRun, CommandIsRun, RunsJoin}
use Rattle.rs_recovery.specs.Turns.{CommandsAreTurns}
use Rattle.rs_recovery.proofs.Below.{Commands, Acks, one, weaker}
use Rattle.rs_recovery.proofs.Counts.{begun_counts}
use Rattle.rs_recovery.proofs.Acknowledged.{all_acknowledged, all_by, same_length}
use Rattle.rs_recovery.proofs.Sessions.{answered_joined}

-- acknowledged commands stay acknowledged
later_one : (b : Bool) (call m n : ℕ) → m ≤ n → one (b && nat_le call m) ≤ one (b && nat_le call n)
later_one false call m n le = omega arith
later_one true call m n le = elim (nat_le call m) as (λ x. nat_le call m ≡ x → one x ≤ one (nat_le call n)) [
  | true ↦ λ is. let early : call ≤ m = leb-true call m is in
      let late : nat_le call n ≡ true = le-leb call n (omega (arith, early, le)) in
      subst (λ (x : Bool). 1 ≤ one x) (sym late) (omega arith)
  | false ↦ λ is. omega arith
] refl

pub acknowledged_rises : (acks : Acks) (m n : ℕ) → m ≤ n → acknowledged m acks ≤ acknowledged n acks
acknowledged_rises [] m n le = omega arith
acknowledged_rises (a ∷ acks) m n le =
    omega (arith, later_one (is_accepted a) a.at_call m n le, acknowledged_rises acks m n le)

-- one more command, if the rest has begun at most one more than was acknowledged
one_begun : (by accepted doubt : Bool) (rest done : ℕ) → rest ≤ done + 1 → (doubt ≡ true → rest ≡ 0)
    → one (accepted || doubt) + cond by rest 0 ≤ one (accepted && by) + done + 1
one_begun true true doubt rest done le none = omega (arith, le)
one_begun false true doubt rest done le none = omega arith
one_begun true false true rest done le none = omega (arith, none refl)
one_begun false false true rest done le none = omega arith
one_begun true false false rest done le none = omega (arith, le)
one_begun false false false rest done le none = omega arith

-- the commands of one ack
alone_counted : (command : Command) (now : ℕ) (reply : Result Reply Refusal) (call : ℕ)
    → counted_commands ((command, now) ∷ []) (record { reply = reply; at_call = call } ∷ []) ≡ counted_as command now reply
alone_counted command now (Ok reply) call = refl
alone_counted command now (Err Device) call = refl
alone_counted command now (Err refusal) call = refl

module _ {D : Type 0} (device : D → DiskState) (below : Below device) where
  -- an answer that leaves doubt closes the source
  closed_by_doubt : (old new : Stored D) (command : Command) (now : ℕ) (reply : Result Reply Refusal) → Answers device old new command now reply → is_device reply ≡ true → new.is_closed ≡ true
  closed_by_doubt old new command now (Ok reply) answers is = absurd cc
  closed_by_doubt old new command now (Err Device) answers is = answers.closes refl
  closed_by_doubt old new command now (Err refusal) answers is = absurd cc

  -- a closed source runs no command that counts
  none_count : (old new : Stored D) (cs : Commands) (acks : Acks) → old.is_closed ≡ true → InTurn device old cs acks new
      → (answered is_accepted cs acks ≡ []) × (answered is_in_doubt cs acks ≡ [])
  none_count old new cs acks shut turn = below.none_counts cs acks (below.closed old cs acks new shut turn).2

  none_begun : (m : ℕ) (old new : Stored D) (cs : Commands) (acks : Acks) → old.is_closed ≡ true → InTurn device old cs acks new → begun m acks ≡ 0
  none_begun m old new cs acks shut turn =
      let none = none_count old new cs acks shut turn in
      let all = begun_counts m cs acks (same_length device old cs acks new turn) in
      let both = length-append (answered is_accepted cs acks) (answered is_in_doubt cs acks) in
      omega (arith, all, both, ap length none.0, ap length none.1)

  -- at most one command has begun that was not acknowledged
  pub few_begun : (m : ℕ) (old new : Stored D) (cs : Commands) (acks : Acks) → InTurn device old cs acks new → begun m acks ≤ acknowledged m acks + 1
  few_begun m old new [] [] turn = omega arith
  few_begun m old new (c ∷ cs) (a ∷ acks) turn =
      one_begun (nat_le a.at_call m) (is_accepted a) (is_in_doubt a) (begun m acks) (acknowledged m acks)
      (few_begun m turn.2 new cs acks turn.5)
      (λ doubt. none_begun m turn.2 new cs acks (closed_by_doubt turn.0 turn.2 c.0 c.1 a.reply turn.3 doubt) turn.5)
  few_begun m old new cs acks turn = absurd turn

  -- no answer leaves doubt, or one does, and the source is closed
  pub few_doubts : (old new : Stored D) (cs : Commands) (acks : Acks) → InTurn device old cs acks new
      → (answered is_in_doubt cs acks ≡ []) ⊎ ((length (answered is_in_doubt cs acks) ≡ 1) × (new.is_closed ≡ true))
  few_doubts old new [] [] turn = inl refl
  few_doubts old new (c ∷ cs) (a ∷ acks) turn = elim (is_in_doubt a) as (λ b. is_in_doubt a ≡ b
      → (cond b (c ∷ answered is_in_doubt cs acks) (answered is_in_doubt cs acks) ≡ [])
      ⊎ ((length (cond b (c ∷ answered is_in_doubt cs acks) (answered is_in_doubt cs acks)) ≡ 1) × (new.is_closed ≡ true))) [
        | true ↦ λ doubt.
            let shut = closed_by_doubt turn.0 turn.2 c.0 c.1 a.reply turn.3 doubt in
            let none = (none_count turn.2 new cs acks shut turn.5).1 in
            let length_is : length (c ∷ answered is_in_doubt cs acks) ≡ 1 = ap (λ (l : Commands). length (c ∷ l)) none in
            inr (length_is, (below.closed turn.2 cs acks new shut turn.5).0)
        | false ↦ λ sure. few_doubts turn.2 new cs acks turn.5
      ] refl
  few_doubts old new cs acks turn = absurd turn

  join_counted : (old mid new : Stored D) (cs more : Commands) (acks late : Acks) → InTurn device old cs acks mid → InTurn device mid more late new
      → counted_commands (cs ++ more) (acks ++ late) ≡ counted_commands cs acks ++ counted_commands more late
  join_counted old mid new cs more acks late turn then =
      let same = same_length device old cs acks mid turn in
      let accepted = answered_joined is_accepted cs more acks late same in
      let doubts = answered_joined is_in_doubt cs more acks late same in
      let a = answered is_accepted cs acks in
      let d = answered is_in_doubt cs acks in
      let b = answered is_accepted more late in
      let e = answered is_in_doubt more late in
      let both : counted_commands (cs ++ more) (acks ++ late) ≡ (a ++ b) ++ (d ++ e) = λ i. accepted i ++ doubts i in
      let none_first : d ≡ [] → (a ++ b) ++ (d ++ e) ≡ (a ++ d) ++ (b ++ e) = λ none.
      let left : (a ++ b) ++ (d ++ e) ≡ (a ++ b) ++ e = ap (λ (l : Commands). (a ++ b) ++ (l ++ e)) none in
      let right : (a ++ d) ++ (b ++ e) ≡ a ++ (b ++ e) = ap (λ (l : Commands). (a ++ l) ++ (b ++ e)) none ∙ ap (λ (l : Commands). l ++ (b ++ e)) (append-nil a) in
      left ∙ append_assoc a b e ∙ sym right in
      let none_later : (b ≡ []) × (e ≡ []) → (a ++ b) ++ (d ++ e) ≡ (a ++ d) ++ (b ++ e) = λ none.
      let left : (a ++ b) ++ (d ++ e) ≡ a ++ d = (λ i. (a ++ none.0 i) ++ (d ++ none.1 i)) ∙ (λ i. append-nil a i ++ append-nil d i) in
      let right : (a ++ d) ++ (b ++ e) ≡ a ++ d = (λ i. (a ++ d) ++ (none.0 i ++ none.1 i)) ∙ append-nil (a ++ d) in
      left ∙ sym right in
      both ∙ ⊎_elim none_first (λ (one : (length d ≡ 1) × (mid.is_closed ≡ true)). none_later (none_count mid new more late one.1 then)) (few_doubts old mid cs acks turn)

  module _ (go_on : TurnsGoOn device) where
    pub runs_join : RunsJoin device
    runs_join old mid new first then run more = record {
      asked = run.asked ++ more.asked;
      acks = run.acks ++ more.acks;
      turn = go_on old mid new run.asked more.asked run.acks more.acks run.turn more.turn;
      count = join_counted old mid new run.asked more.asked run.acks more.acks run.turn more.turn ∙ (λ i. run.count i ++ more.count i);
    }

  pub idle_is_run : IdleIsRun device
  idle_is_run old new idle = record { asked = []; acks = []; turn = idle; count = refl }

  pub command_is_run : CommandsAreTurns device → CommandIsRun device
  command_is_run turns old new command now reply answers = record {
    asked = (command, now) ∷ [];
    acks = record { reply = reply; at_call = (device new.disk).calls } ∷ [];
    turn = turns old new command now reply answers;
    count = alone_counted command now reply (device new.disk).calls;
  }

  module _ (rise : CallsRise device) (s : Source) (old new : Stored D) (cs : Commands) (acks : Acks) (turn : InTurn device old cs acks new) (held : Holds device old s) where
    -- an image at a moment of the run
    first_of : (m : ℕ) (image : List ℕ) → StandsForPrefix s cs acks m image
        → (j : ℕ) × (acknowledged m acks ≤ j) × (j ≤ acknowledged m acks + 1) × StandsForFirst s (counted_commands cs acks) j image
    first_of m image p =
        let few = few_begun m old new cs acks turn in
        let all = begun_counts m cs acks (same_length device old cs acks new turn) in (
          p.j,
          p.least,
          omega (arith, p.most, few),
          record { most = omega (arith, p.most, all); stands = p.stands },
        )

    -- at the end at most one command is not acknowledged, and no command if the source is open
    all_done : (j : ℕ) → acknowledged (device new.disk).calls acks ≤ j → j ≤ length (counted_commands cs acks)
        → (length (counted_commands cs acks) ≤ j + 1) × (new.is_closed ≡ false → j ≡ length (counted_commands cs acks))
    all_done j least most =
        let accepted = all_acknowledged device rise old cs acks new turn in
        let both = length-append (answered is_accepted cs acks) (answered is_in_doubt cs acks) in
        ⊎_elim
        (λ (none : answered is_in_doubt cs acks ≡ []).
        let no : length (answered is_in_doubt cs acks) ≡ 0 = ap length none in
        (omega (arith, least, accepted, both, no), λ _. omega (arith, least, most, accepted, both, no)))
        (λ (one : (length (answered is_in_doubt cs acks) ≡ 1) × (new.is_closed ≡ true)).
        let single = one.0 in
        (omega (arith, least, accepted, both, single), λ (is : new.is_closed ≡ false). absurd (let shut = one.1 in cc)))
        (few_doubts old new cs acks turn)

    pub leaves_prefixes : LeavesPrefixes device old s (counted_commands cs acks) new
    leaves_prefixes =
        let run = below.moments s old cs acks new held turn in
        let last = (device new.disk).calls in record {
          asked = cs;
          acks = acks;
          answered = below.answered s old cs acks new held turn;
          count = refl;
          by_exit = all_by device rise old cs acks new turn;
          rises = acknowledged_rises acks;
          each = weaker (device old.disk) (device new.disk) (StandsForPrefix s cs acks) _ first_of run;
          holds = below.end s old cs acks new held turn;
          at_exit = λ image is.
              let at : IsImageAt (device new.disk) last image = record { past = λ lt. absurd (omega (arith, lt)); now = λ _. is } in
              let first = first_of last image (run.each last image run.later (omega arith) at) in
              let all = all_done first.0 first.1 first.3.most in
              (first.0, all.0, all.1, first.3);
        }

  pub runs_recover : CallsRise device → RunsRecover device
  runs_recover rise old new commands run s held =
      subst (λ (l : Commands). LeavesPrefixes device old s l new) run.count
      (leaves_prefixes rise s old new run.asked run.acks run.turn held)
