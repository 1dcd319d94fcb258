-- The answers of a script before a stop and after it.
use Rattle.std.proofs.Common.{◌≡◌, ◌≤◌, ◌<◌, inl, inr, ℕ, Bool, true, false, List, [], ◌∷◌, ◌++◌, length, length-append, append_assoc, append-nil, Option, Some, None, Result, Ok, Err, refl, ap, sym, ◌∙◌, cond, ◌&&◌, nat_le, arith}
use Rattle.std.proofs.lemmas.Bool.{cases_lt}
use Rattle.std.proofs.lemmas.Bool.Decides.{nat_tests}
use Rattle.std.proofs.lemmas.Grind.{flat_map-append}
use Rattle.std.specs.Prelude.{flat_map, is_ok}
use Rattle.rs_disk.specs.Medium.{DiskState}
use Rattle.rs_disk.specs.Leaves.{Leaves}
use Rattle.rs_model.specs.State.{Source}
use Rattle.rs_model.specs.declared.command.Command.{Command}
use Rattle.rs_model.specs.declared.command.Reply.{Reply}
use Rattle.rs_store.specs.declared.refusal.Refusal as stored
use Rattle.rs_store.specs.declared.running.Ack.{Ack}
use Rattle.rs_store.specs.Counted.{acknowledged}
use Rattle.rs_store.specs.Laws.{AnswersLeavePrefixes}
use Rattle.rs_store.specs.Runs.{Condition, Holding, condition_after, AreAnswered}
use Rattle.rs_recovery.specs.Replies.{AnsweredCommand, ack_of, reply_in, replies_in}
use Rattle.rs_script.specs.Outcomes.{outcome_of_reply}
use Rattle.rs_script.specs.Session.{LineOutcome, moment_set, replied, shown, counted, verified, refused}
use Rattle.rs_script.specs.Stopped.{replies_by, BeginsWithReply, SplitAtStop, ScriptsSplit}
use Rattle.rs_script.specs.Statements.{request_by}
use Rattle.rs_script.specs.declared.refusal.Refusal.{Refusal}
use Rattle.rs_script.specs.declared.request.Request.{Request}
use Rattle.rs_script.specs.Told.{line_reply, DoneStatement, IsOwnOutcome, IsStatementOutcome, moment_behind, AreDone, commands_of, acks_of, outcomes_of}

told_reply : (result : Result Reply stored.Refusal) → line_reply (outcome_of_reply result) ≡ reply_in result
told_reply (Ok reply) = refl
told_reply (Err refusal) = refl

one_reply : (reply : Result Reply stored.Refusal) (b : Bool) → length (cond b (reply_in reply) []) ≡ cond (is_ok reply && b) 1 0
one_reply (Ok reply) true = refl
one_reply (Ok reply) false = refl
one_reply (Err refusal) true = refl
one_reply (Err refusal) false = refl

-- a reply for every command that was acknowledged
as_many : (m : ℕ) (acks : List Ack) → length (replies_by m acks) ≡ acknowledged m acks
as_many m [] = refl
as_many m (a ∷ acks) =
    let here : List Reply = cond (nat_le a.at_call m) (reply_in a.reply) [] in
    omega (arith, length-append here (replies_by m acks), one_reply a.reply (nat_le a.at_call m), as_many m acks)

too_early : (m n : ℕ) → m < n → nat_le n m ≡ false
too_early m n lt = grind (arith, nat_tests)

due : (m n : ℕ) → n ≤ m → nat_le n m ≡ true
due m n le = grind (arith, nat_tests)

-- no reply was acknowledged before the first call
none_yet : (m : ℕ) (old : DiskState) (is : Condition) (commands : List (Command × ℕ)) (acks : List Ack) (new : DiskState) → AreAnswered old is commands acks new
    → m < old.calls → replies_by m acks ≡ []
none_yet m old is [] [] new all lt = refl
none_yet m old is (c ∷ commands) (a ∷ acks) new all lt =
    let mid : DiskState = all.0 in
    let early : m < mid.calls = omega (arith, lt, all.1.idle.later, all.1.within.later) in
    let here : nat_le a.at_call m ≡ false = too_early m a.at_call (omega (arith, early, all.1.at_call)) in
    ap (λ (b : Bool). cond b (reply_in a.reply) [] ++ replies_by m acks) here ∙ none_yet m mid (condition_after is c a.reply) commands acks new all.2 early
none_yet m old is commands acks new all lt = absurd all

-- the replies that were acknowledged are the first ones
first_ones : (m : ℕ) (old : DiskState) (is : Condition) (commands : List (Command × ℕ)) (acks : List Ack) (new : DiskState) → AreAnswered old is commands acks new
    → (rest : List Reply) × (replies_in acks ≡ replies_by m acks ++ rest)
first_ones m old is [] [] new all = ([], refl)
first_ones m old is (c ∷ commands) (a ∷ acks) new all =
    let mid : DiskState = all.0 in
    let next : Condition = condition_after is c a.reply in
    let more = first_ones m mid next commands acks new all.2 in
    elim (cases_lt m mid.calls) [
      | inl early ↦
          (let here : nat_le a.at_call m ≡ false = too_early m a.at_call (omega (arith, early, all.1.at_call)) in
          let none : replies_by m (a ∷ acks) ≡ [] =
          ap (λ (b : Bool). cond b (reply_in a.reply) [] ++ replies_by m acks) here ∙ none_yet m mid next commands acks new all.2 early in
          (replies_in (a ∷ acks), sym (ap (λ (l : List Reply). l ++ replies_in (a ∷ acks)) none)))
      | inr late ↦
          (let here : nat_le a.at_call m ≡ true = due m a.at_call (omega (arith, late, all.1.at_call)) in (
            more.0,
            ap (λ (l : List Reply). reply_in a.reply ++ l) more.1
                ∙ sym (append_assoc (reply_in a.reply) (replies_by m acks) more.0)
                ∙ ap (λ (b : Bool). (cond b (reply_in a.reply) [] ++ replies_by m acks) ++ more.0) (sym here),
          ))
    ]
first_ones m old is commands acks new all = absurd all

-- outcomes of which the first ones have exactly these replies
record CutAt (outcomes : List LineOutcome) (replies : List Reply) : Type 0 where
  first : List LineOutcome
  later : List LineOutcome
  outcomes_are : outcomes ≡ first ++ later
  next : BeginsWithReply later
  has : flat_map line_reply first ≡ replies

silent : (outcome : LineOutcome) (outcomes : List LineOutcome) (replies : List Reply) → line_reply outcome ≡ [] → CutAt outcomes replies → CutAt (outcome ∷ outcomes) replies
silent outcome outcomes replies none cut = record {
  first = outcome ∷ cut.first;
  later = cut.later;
  outcomes_are = ap (λ (l : List LineOutcome). outcome ∷ l) cut.outcomes_are;
  next = cut.next;
  has = ap (λ (l : List Reply). l ++ flat_map line_reply cut.first) none ∙ cut.has;
}

same_head : (r q : Reply) (rs qs : List Reply) → r ∷ rs ≡ q ∷ qs → r ≡ q
same_head r q rs qs e = cc

same_tail : (r q : Reply) (rs qs : List Reply) → r ∷ rs ≡ q ∷ qs → rs ≡ qs
same_tail r q rs qs e = cc

cut_at : (outcomes : List LineOutcome) (replies rest : List Reply) → flat_map line_reply outcomes ≡ replies ++ rest → CutAt outcomes replies
cut_at [] [] rest e = record { first = []; later = []; outcomes_are = refl; next = tt; has = refl }
cut_at [] (q ∷ replies) rest e = absurd cc
cut_at (replied r ∷ outcomes) [] rest e = record { first = []; later = replied r ∷ outcomes; outcomes_are = refl; next = (r, refl); has = refl }
cut_at (replied r ∷ outcomes) (q ∷ replies) rest e =
    let cut = cut_at outcomes replies rest (same_tail r q (flat_map line_reply outcomes) (replies ++ rest) e) in
    let head : r ≡ q = same_head r q (flat_map line_reply outcomes) (replies ++ rest) e in
    record {
      first = replied r ∷ cut.first;
      later = cut.later;
      outcomes_are = ap (λ (l : List LineOutcome). replied r ∷ l) cut.outcomes_are;
      next = cut.next;
      has = ap (λ (l : List Reply). r ∷ l) cut.has ∙ ap (λ (x : Reply). x ∷ replies) head;
    }
cut_at (moment_set ∷ outcomes) replies rest e = silent moment_set outcomes replies refl (cut_at outcomes replies rest e)
cut_at (shown bytes ∷ outcomes) replies rest e = silent (shown bytes) outcomes replies refl (cut_at outcomes replies rest e)
cut_at (counted status ∷ outcomes) replies rest e = silent (counted status) outcomes replies refl (cut_at outcomes replies rest e)
cut_at (verified names sound ∷ outcomes) replies rest e = silent (verified names sound) outcomes replies refl (cut_at outcomes replies rest e)
cut_at (refused refusal ∷ outcomes) replies rest e = silent (refused refusal) outcomes replies refl (cut_at outcomes replies rest e)

parts : AnswersLeavePrefixes → (s : Source) (old : DiskState) (commands : List (Command × ℕ)) (acks : List Ack) (new : DiskState) (outcomes : List LineOutcome)
    → AreAnswered old (Holding s) commands acks new → replies_in acks ≡ flat_map line_reply outcomes → Leaves old new (SplitAtStop s commands acks outcomes)
parts prefixes s old commands acks new outcomes all are =
    let stops = prefixes s old commands acks new all in
    record {
      later = stops.later;
      before = stops.before;
      each = λ m image from to is.
          let kept = stops.each m image from to is in
          let ones = first_ones m old (Holding s) commands acks new all in
          let cut = cut_at outcomes (replies_by m acks) ones.0 (sym are ∙ ones.1) in
          record {
            first = cut.first;
            later = cut.later;
            outcomes_are = cut.outcomes_are;
            next = cut.next;
            by_then = cut.has;
            kept = kept;
            each_kept = omega (arith, ap length cut.has, as_many m acks, kept.least);
          };
    }

-- a statement's own outcome is no reply
own_is_silent : (request : Result Request Refusal) (outcome : LineOutcome) → IsOwnOutcome request outcome → line_reply outcome ≡ []
own_is_silent request (replied reply) own = absurd own
own_is_silent request moment_set own = refl
own_is_silent request (shown bytes) own = refl
own_is_silent request (counted status) own = refl
own_is_silent request (verified names sound) own = refl
own_is_silent request (refused refusal) own = refl

-- the outcome of a statement has the reply to its command
one_told : (request : Result Request Refusal) (now : ℕ) (got : Option AnsweredCommand) (outcome : LineOutcome) → IsStatementOutcome request now got outcome
    → replies_in (ack_of got) ≡ line_reply outcome
one_told request now None outcome is = sym (own_is_silent request outcome is)
one_told request now (Some got) outcome is = append-nil (reply_in got.ack.reply) ∙ sym (told_reply got.ack.reply) ∙ ap line_reply (sym is.2)

-- the replies to the commands that the source got are the reported replies
all_told : (now : ℕ) (done : List DoneStatement) → AreDone now done → replies_in (acks_of done) ≡ flat_map line_reply (outcomes_of done)
all_told now [] each = refl
all_told now (d ∷ done) each =
    let request = request_by d.statement in
    flat_map-append (λ (a : Ack). reply_in a.reply) (ack_of d.got) (acks_of done)
    ∙ ap (λ (l : List Reply). l ++ replies_in (acks_of done)) (one_told request now d.got d.outcome each.0)
    ∙ ap (λ (l : List Reply). line_reply d.outcome ++ l) (all_told (moment_behind request now d.outcome) done each.1)

pub stops_split : {D : Type 0} (device : D → DiskState) → AnswersLeavePrefixes → ScriptsSplit device
stops_split device prefixes old new done s done_so seen held =
    parts prefixes s (device old.disk) (commands_of done) (acks_of done) (device new.disk) (outcomes_of done) (seen.answered s held) (all_told 0 done done_so)
