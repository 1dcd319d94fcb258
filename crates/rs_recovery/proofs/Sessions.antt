-- Sessions one after another.
use Rattle.std.proofs.Common.{◌≡◌, ⊎_elim, ℕ, zero, suc, ◌+◌, ◌≤◌, Bool, true, false, ◌&&◌, List, [], ◌∷◌, ◌++◌, length, take, refl, sym, ◌∙◌, ap, subst, arith, cond, Result, Ok, Err, Option, Some, None, append_assoc, inl, inr, ◌<◌}
use Rattle.std.specs.List.{AllByRecursion}
use Rattle.std.proofs.lemmas.Bool.{le-leb}
use Rattle.std.proofs.lemmas.List.{append-nil, length-append}
use Rattle.rs_disk.specs.Medium.{IsImage, IsImageAt}
use Rattle.rs_model.specs.State.{Source}
use Rattle.rs_model.specs.Regular.{IsRegular}
use Rattle.rs_model.specs.Step.{step, state_after, fold_of}
use Rattle.rs_model.specs.declared.command.Command.{Command}
use Rattle.rs_model.specs.declared.command.Reply.{Reply}
use Rattle.rs_image.specs.StateOfImage.{StandsFor}
use Rattle.rs_image.specs.Laws.{StandsOnce}
use Rattle.rs_store.specs.declared.refusal.Refusal.{Refusal}
use Rattle.rs_store.specs.declared.refusal.Refusal.TheVariants.{Device}
use Rattle.rs_store.specs.declared.running.Ack.{Ack}
use Rattle.rs_store.specs.Counted.{is_accepted, is_in_doubt, answered, counted_commands, acknowledged}
use Rattle.rs_store.specs.Laws.{AnswersLeavePrefixes}
use Rattle.rs_store.specs.Runs.{StandsForPrefix, Holding, condition_after, condition_behind}
use Rattle.rs_recovery.specs.Sessions.{Session, all_asked, all_ended, asked, ended, counted, IsSessionFrom, AreSessions, commands_left, AreLeft, OneStanding, OpeningsStopToo}
use Rattle.rs_recovery.specs.Served.{Asking, CouldServe, HasServed, IsNoLater, IsPrefixOf, CommandsStand, SessionsStand}
use Rattle.rs_recovery.specs.Recovered.{YieldsHeld}
use Rattle.rs_recovery.proofs.FromBelow.{doubt_stays, held_is}
use Rattle.rs_recovery.proofs.Counts.{answered_length, one_number}
use Rattle.rs_recovery.proofs.Below.{Commands, Acks, one, weaker}

pub fold_append : (s : Source) (a b : Commands) → fold_of s (a ++ b) ≡ fold_of (fold_of s a) b
fold_append s [] b = refl
fold_append s (c ∷ a) b = fold_append (state_after s (step s c.0 c.1)) a b

-- the first of a list's commands, up to some further one
front_of : (front rest : Commands) (j : ℕ) → length front ≤ j → IsPrefixOf front (take j (front ++ rest))
front_of [] rest j le = (take j rest, refl)
front_of (c ∷ front) rest zero le = absurd (omega arith)
front_of (c ∷ front) rest (suc j) le = let more = front_of front rest j (omega arith) in (more.0, ap (λ (l : Commands). c ∷ l) more.1)

-- the commands that pass a test, among the first n
first_answered : (test : Ack → Bool) (n : ℕ) (cs : Commands) (acks : Acks) → IsPrefixOf (answered test (take n cs) (take n acks)) (answered test cs acks)
first_answered test zero cs acks = (answered test cs acks, refl)
first_answered test (suc n) [] acks = ([], refl)
first_answered test (suc n) (c ∷ cs) [] = ([], refl)
first_answered test (suc n) (c ∷ cs) (a ∷ acks) =
    let more = first_answered test n cs acks in
    elim (test a) as (λ b. IsPrefixOf (cond b (c ∷ answered test (take n cs) (take n acks)) (answered test (take n cs) (take n acks))) (cond b (c ∷ answered test cs acks) (answered test cs acks))) [
      | true ↦ (more.0, ap (λ (l : Commands). c ∷ l) more.1)
      | false ↦ more
    ]

first_of_more : (test : Ack → Bool) (n m : ℕ) (cs : Commands) (acks : Acks) → n ≤ m → IsPrefixOf (answered test (take n cs) (take n acks)) (answered test (take m cs) (take m acks))
first_of_more test zero m cs acks le = (answered test (take m cs) (take m acks), refl)
first_of_more test (suc n) zero cs acks le = absurd (omega arith)
first_of_more test (suc n) (suc m) [] acks le = ([], refl)
first_of_more test (suc n) (suc m) (c ∷ cs) [] le = ([], refl)
first_of_more test (suc n) (suc m) (c ∷ cs) (a ∷ acks) le =
    let more = first_of_more test n m cs acks (omega (arith, le)) in
    elim (test a) as (λ b. IsPrefixOf (cond b (c ∷ answered test (take n cs) (take n acks)) (answered test (take n cs) (take n acks)))
    (cond b (c ∷ answered test (take m cs) (take m acks)) (answered test (take m cs) (take m acks)))) [
      | true ↦ (more.0, ap (λ (l : Commands). c ∷ l) more.1)
      | false ↦ more
    ]

-- of the first n commands, the accepted ones were acknowledged if all were answered by then
pub few_answered : (m n : ℕ) (cs : Commands) (acks : Acks) → AllByRecursion (λ a. a.at_call ≤ m) (take n acks) → length (answered is_accepted (take n cs) (take n acks)) ≤ acknowledged m acks
few_answered m zero cs acks all = omega arith
few_answered m (suc n) [] acks all = omega arith
few_answered m (suc n) (c ∷ cs) [] all = omega arith
few_answered m (suc n) (c ∷ cs) (a ∷ acks) all =
    let more = few_answered m n cs acks all.1 in
    let here : acknowledged m (a ∷ acks) ≡ one (is_accepted a && true) + acknowledged m acks = ap (λ (b : Bool). one (is_accepted a && b) + acknowledged m acks) (le-leb a.at_call m all.0) in
    elim (is_accepted a) as (λ b. acknowledged m (a ∷ acks) ≡ one (b && true) + acknowledged m acks
    → length (cond b (c ∷ answered is_accepted (take n cs) (take n acks)) (answered is_accepted (take n cs) (take n acks))) ≤ acknowledged m (a ∷ acks)) [
      | true ↦ λ e. omega (arith, e, more)
      | false ↦ λ e. omega (arith, e, more)
    ] here

-- a prefix stays a prefix if more commands follow the whole
prefix_on : (front whole more : Commands) → IsPrefixOf front whole → IsPrefixOf front (whole ++ more)
prefix_on front whole more (rest, is) = (rest ++ more, sym (append_assoc front rest more) ∙ ap (λ (l : Commands). l ++ more) is)

prefix_under : (base front whole : Commands) → IsPrefixOf front whole → IsPrefixOf (base ++ front) (base ++ whole)
prefix_under base front whole (rest, is) = (rest, append_assoc base front rest ∙ ap (λ (l : Commands). base ++ l) is)

-- the answers to commands, and to more commands after them
pub answered_joined : (test : Ack → Bool) (cs more : Commands) (acks late : Acks) → length cs ≡ length acks
    → answered test (cs ++ more) (acks ++ late) ≡ answered test cs acks ++ answered test more late
answered_joined test [] more [] late same = refl
answered_joined test (c ∷ cs) more (a ∷ acks) late same =
    let rest : answered test (cs ++ more) (acks ++ late) ≡ answered test cs acks ++ answered test more late = answered_joined test cs more acks late (omega (arith, same)) in
    elim (test a) as (λ b. cond b (c ∷ answered test (cs ++ more) (acks ++ late)) (answered test (cs ++ more) (acks ++ late))
    ≡ cond b (c ∷ answered test cs acks) (answered test cs acks) ++ answered test more late) [
      | true ↦ ap (λ (l : Commands). c ∷ l) rest
      | false ↦ rest
    ]
answered_joined test [] more (a ∷ acks) late same = absurd (omega (arith, same))
answered_joined test (c ∷ cs) more [] late same = absurd (omega (arith, same))

acknowledged_more : (m : ℕ) (acks late : Acks) → acknowledged m acks ≤ acknowledged m (acks ++ late)
acknowledged_more m [] late = omega arith
acknowledged_more m (a ∷ acks) late = omega (arith, acknowledged_more m acks late)

-- the answered commands of a session have as many answers, if all its commands do
with_answers : (commands : Commands) (acks : Acks) (o : Option (Command × ℕ)) (n : ℕ) → length (all_asked commands o) ≡ length (all_ended acks o n) → length commands ≡ length acks
with_answers commands acks None n same = same
with_answers commands acks (Some c) n same =
    omega (arith, same, length-append commands (c ∷ []), length-append acks (record { reply = Err Device; at_call = n } ∷ []))

acknowledged_ended : (m : ℕ) (acks : Acks) (o : Option (Command × ℕ)) (n : ℕ) → acknowledged m acks ≤ acknowledged m (all_ended acks o n)
acknowledged_ended m acks None n = omega arith
acknowledged_ended m acks (Some c) n = acknowledged_more m acks (record { reply = Err Device; at_call = n } ∷ [])

answered_first : (test : Ack → Bool) (commands : Commands) (acks : Acks) (o : Option (Command × ℕ)) (n : ℕ) → length commands ≡ length acks
    → IsPrefixOf (answered test commands acks) (answered test (all_asked commands o) (all_ended acks o n))
answered_first test commands acks None n same = ([], append-nil (answered test commands acks))
answered_first test commands acks (Some c) n same =
    let late : Acks = record { reply = Err Device; at_call = n } ∷ [] in
    (answered test (c ∷ []) late, sym (answered_joined test commands (c ∷ []) acks late same))

prefix_in : (front mid whole : Commands) → IsPrefixOf front mid → IsPrefixOf mid whole → IsPrefixOf front whole
prefix_in front mid whole (rest, is) more = subst (λ (l : Commands). IsPrefixOf front l) more.1 (subst (λ (l : Commands). IsPrefixOf front (l ++ more.0)) is (rest ++ more.0, sym (append_assoc front rest more.0)))

-- if the answers leave a source that holds a state, no answer leaves a doubt, and the accepted commands make the state
held_is_made : (s : Source) (cs : Commands) (acks : Acks) (t : Source) → condition_behind (Holding s) cs acks ≡ Holding t
    → (answered is_in_doubt cs acks ≡ []) × (t ≡ fold_of s (answered is_accepted cs acks))
held_is_made s [] acks t is = (refl, sym (held_is s t is))
held_is_made s (c ∷ cs) [] t is = (refl, sym (held_is s t is))
held_is_made s (c ∷ cs) (a ∷ acks) t is = after a.reply (λ u same. held_is_made u cs acks t same) is
  where
    after : (reply : Result Reply Refusal)
        → ((u : Source) → condition_behind (Holding u) cs acks ≡ Holding t → (answered is_in_doubt cs acks ≡ []) × (t ≡ fold_of u (answered is_accepted cs acks)))
        → condition_behind (condition_after (Holding s) c reply) cs acks ≡ Holding t
        → (answered is_in_doubt (c ∷ cs) (record { reply = reply; at_call = a.at_call } ∷ acks) ≡ []) × (t ≡ fold_of s (answered is_accepted (c ∷ cs) (record { reply = reply; at_call = a.at_call } ∷ acks)))
    after (Ok reply) rest same = rest (state_after s (step s c.0 c.1)) same
    after (Err Device) rest same = absurd (doubt_stays s (state_after s (step s c.0 c.1)) cs acks t same)
    after (Err refusal) rest same = rest s same

session_lengths : (s : Source) (x : Session) → IsSessionFrom s x → length x.commands ≡ length x.acks
session_lengths s x is =
    with_answers x.commands x.acks x.unanswered x.last.calls (answered_length x.first (Holding s) (asked x) (ended x) x.last is.answered)

-- the state that a session could serve is that of its commands, the first surviving ones
serves : (start : Source) (before : Commands) (x : Session) (j n : ℕ) (t : Source) → length x.commands ≡ length x.acks → acknowledged x.stop (ended x) ≤ j → CouldServe (fold_of start before) x n t
    → (t ≡ fold_of start (before ++ counted_commands (take n x.commands) (take n x.acks)))
    × IsPrefixOf (before ++ counted_commands (take n x.commands) (take n x.acks)) (before ++ take j (counted x))
serves start before x j n t same least could =
    let cs = take n x.commands in
    let acks = take n x.acks in
    let s : Source = fold_of start before in
    let held = held_is_made s cs acks t could.held in
    let accepted : Commands = answered is_accepted cs acks in
    let these : counted_commands cs acks ≡ accepted = ap (λ (l : Commands). accepted ++ l) held.0 ∙ append-nil accepted in
    let all : Commands = answered is_accepted (asked x) (ended x) in
    let part = prefix_in accepted (answered is_accepted x.commands x.acks) all (first_answered is_accepted n x.commands x.acks) (answered_first is_accepted x.commands x.acks x.unanswered x.last.calls same) in
    let whole = prefix_on accepted all (answered is_in_doubt (asked x) (ended x)) part in
    let few : length accepted ≤ j = omega (arith, least, few_answered x.stop n x.commands x.acks could.before, acknowledged_ended x.stop x.acks x.unanswered x.last.calls) in
    let front : IsPrefixOf accepted (take j (counted x)) =
    subst (λ (l : Commands). IsPrefixOf accepted (take j l)) whole.1 (front_of accepted whole.0 j few) in (
      held.1 ∙ sym (ap (λ (l : Commands). fold_of s l) these) ∙ sym (fold_append start before (counted_commands cs acks)),
      prefix_under before (counted_commands cs acks) (take j (counted x)) (subst (λ (l : Commands). IsPrefixOf l (take j (counted x))) (sym these) front),
    )

-- the commands of a session at one answer are the first of those at a later one
serves_on : (s : Source) (x : Session) (n m : ℕ) (t : Source) → n ≤ m → CouldServe s x n t
    → IsPrefixOf (counted_commands (take n x.commands) (take n x.acks)) (counted_commands (take m x.commands) (take m x.acks))
serves_on s x n m t le could =
    let cs = take n x.commands in
    let acks = take n x.acks in
    let none = (held_is_made s cs acks t could.held).0 in
    let these : counted_commands cs acks ≡ answered is_accepted cs acks = ap (λ (l : Commands). answered is_accepted cs acks ++ l) none ∙ append-nil (answered is_accepted cs acks) in
    let front = prefix_on (answered is_accepted cs acks) (answered is_accepted (take m x.commands) (take m x.acks)) (answered is_in_doubt (take m x.commands) (take m x.acks))
    (first_of_more is_accepted n m x.commands x.acks le) in
    subst (λ (l : Commands). IsPrefixOf l (counted_commands (take m x.commands) (take m x.acks))) (sym these) front

-- a served source was asked in one of the sessions
served_in : (start : Source) (sessions : List Session) (standing : List ℕ) (asking : Asking) (commands : Commands) → HasServed start sessions standing asking commands → asking.sessions < length sessions
served_in start [] standing asking commands has = absurd has
served_in start (x ∷ past) [] asking commands has = absurd has
served_in start (x ∷ past) (j ∷ standing) asking commands (inl here) = let same : asking.sessions ≡ length past = here.after in omega (arith, same)
served_in start (x ∷ past) (j ∷ standing) asking commands (inr older) = omega (arith, served_in start past standing asking commands older)

abbrev AreServed : Source → List Session → List ℕ → Type 0
AreServed start sessions standing = (asking : Asking) (commands : Commands) → HasServed start sessions standing asking commands
    → (asking.state ≡ fold_of start commands) × IsPrefixOf commands (commands_left sessions standing)

abbrev AreOrdered : Source → List Session → List ℕ → Type 0
AreOrdered start sessions standing = (asking later : Asking) (commands more : Commands) → IsNoLater asking later
    → HasServed start sessions standing asking commands → HasServed start sessions standing later more → IsPrefixOf commands more

order_on : (start : Source) (x : Session) (past : List Session) (j : ℕ) (standing : List ℕ) → AreServed start past standing → AreOrdered start past standing → AreOrdered start (x ∷ past) (j ∷ standing)
order_on start x past j standing served ordered asking later commands more (inl earlier) (inl first) (inl then) =
    let one : asking.sessions ≡ length past = first.after in
    let two : later.sessions ≡ length past = then.after in
    absurd (omega (arith, earlier, one, two))
order_on start x past j standing served ordered asking later commands more (inr same) (inl first) (inl then) =
    let n = asking.commands in
    let m = later.commands in
    let before : Commands = commands_left past standing in
    let front = prefix_under before (counted_commands (take n x.commands) (take n x.acks)) (counted_commands (take m x.commands) (take m x.acks)) (serves_on (fold_of start before) x n m asking.state same.1 first.could) in
    subst (λ (l : Commands). IsPrefixOf commands l) (sym then.behind)
    (subst (λ (l : Commands). IsPrefixOf l (before ++ counted_commands (take m x.commands) (take m x.acks))) (sym first.behind) front)
order_on start x past j standing served ordered asking later commands more (inl earlier) (inl first) (inr older) =
    let one : asking.sessions ≡ length past = first.after in
    absurd (omega (arith, earlier, one, served_in start past standing later more older))
order_on start x past j standing served ordered asking later commands more (inr same) (inl first) (inr older) =
    let one : asking.sessions ≡ length past = first.after in
    let two : asking.sessions ≡ later.sessions = same.0 in
    absurd (omega (arith, one, two, served_in start past standing later more older))
order_on start x past j standing served ordered asking later commands more no_later (inr older) (inl then) =
    let m = later.commands in
    subst (λ (l : Commands). IsPrefixOf commands l) (sym then.behind)
    (prefix_on commands (commands_left past standing) (counted_commands (take m x.commands) (take m x.acks)) (served asking commands older).1)
order_on start x past j standing served ordered asking later commands more no_later (inr older) (inr then) = ordered asking later commands more no_later older then

-- the latest image
pub image_left : (start : Source) (x : Session) (past : List Session) (standing : List ℕ) → AreLeft start (x ∷ past) standing
    → StandsFor x.image (fold_of start (commands_left (x ∷ past) standing))
image_left start x past [] left = absurd left
image_left start x past (j ∷ standing) left = left.2

module _ (once : StandsOnce) where
  -- the state in which a later session began is the one that the sessions before left
  begins_at : (start s : Source) (x y : Session) (past : List Session) (standing : List ℕ)
      → AreLeft start (y ∷ past) standing → StandsFor y.image s → IsSessionFrom s x
      → IsSessionFrom (fold_of start (commands_left (y ∷ past) standing)) x
  begins_at start s x y past standing left stands is =
      let made : Source = fold_of start (commands_left (y ∷ past) standing) in
      subst (λ (t : Source). IsSessionFrom t x) (once y.image s made stands (image_left start y past standing left)) is

  module _ (leave : AnswersLeavePrefixes) where
    -- the state that a stop of a session leaves
    stopped_at : (s : Source) (x : Session) → IsSessionFrom s x → StandsForPrefix s (asked x) (ended x) x.stop x.image
    stopped_at s x is = (leave s x.first (asked x) (ended x) x.last is.answered).each x.stop x.image is.stopped.from is.stopped.to is.stopped.left

    -- one more session
    one_more : (start : Source) (x : Session) (past : List Session) (standing : List ℕ)
        → IsSessionFrom (fold_of start (commands_left past standing)) x
        → AreLeft start past standing → AreServed start past standing → AreOrdered start past standing
        → (more : List ℕ) × CommandsStand start (x ∷ past) more
    one_more start x past standing is held served ordered =
        let before = commands_left past standing in
        let p = stopped_at (fold_of start before) x is in
        let image : StandsFor x.image (fold_of start (before ++ take p.j (counted x))) =
        subst (λ (t : Source). StandsFor x.image t) (sym (fold_append start before (take p.j (counted x)))) p.stands in (
          p.j ∷ standing,
          record {
            holds = (p.least, p.most, image, held);
            ordered = order_on start x past p.j standing served ordered;
            served = λ asking commands has. ⊎_elim
                (λ here. subst (λ (l : Commands). (asking.state ≡ fold_of start l) × IsPrefixOf l (commands_left (x ∷ past) (p.j ∷ standing))) (sym here.behind)
                (serves start before x p.j asking.commands asking.state (session_lengths (fold_of start before) x is) p.least here.could))
                (λ older. let found = served asking commands older in (found.0, prefix_on commands before (take p.j (counted x)) found.1))
                has;
          },
        )

    pub sessions_stand : SessionsStand
    sessions_stand start [] are = absurd are
    sessions_stand start (x ∷ []) are = one_more start x [] [] are tt (λ asking commands has. absurd has) (λ asking later commands more no_later has then. absurd has)
    sessions_stand start (x ∷ y ∷ past) are =
        let past_stand = sessions_stand start (y ∷ past) are.3 in
        let stand = past_stand.1 in
        one_more start x (y ∷ past) past_stand.0 (begins_at start are.0 x y past past_stand.0 stand.holds are.1 are.2) stand.holds stand.served stand.ordered

  -- two numbers of surviving commands of the latest session, if those of the sessions before are the same
  same_latest : (start : Source) (x : Session) (past : List Session) (standing : List ℕ) (j k : ℕ)
      → IsSessionFrom (fold_of start (commands_left past standing)) x
      → AreLeft start (x ∷ past) (j ∷ standing) → AreLeft start (x ∷ past) (k ∷ standing) → k ≡ j
  same_latest start x past standing j k is left also =
      let before = commands_left past standing in
      one_number once (fold_of start before) x.first (asked x) (ended x) x.last is.answered x.stop x.image j k left.1 also.1
      (subst (λ (t : Source). StandsFor x.image t) (fold_append start before (take j (counted x))) left.2)
      (subst (λ (t : Source). StandsFor x.image t) (fold_append start before (take k (counted x))) also.2)

  pub one_standing : OneStanding
  one_standing start [] standing others are left also = absurd are
  one_standing start (x ∷ past) [] others are left also = absurd left
  one_standing start (x ∷ past) (j ∷ standing) [] are left also = absurd also
  one_standing start (x ∷ []) (j ∷ []) (k ∷ []) are left also = ap (λ (n : ℕ). n ∷ []) (same_latest start x [] [] j k are left also)
  one_standing start (x ∷ []) (j ∷ i ∷ standing) (k ∷ others) are left also = absurd left.3
  one_standing start (x ∷ []) (j ∷ []) (k ∷ i ∷ others) are left also = absurd also.3
  one_standing start (x ∷ y ∷ past) (j ∷ standing) (k ∷ others) are left also =
      let tails : others ≡ standing = one_standing start (y ∷ past) standing others are.3 left.3 also.3 in
      let these : AreLeft start (x ∷ y ∷ past) (k ∷ standing) = subst (λ (l : List ℕ). AreLeft start (x ∷ y ∷ past) (k ∷ l)) tails also in
      let same : k ≡ j = same_latest start x (y ∷ past) standing j k (begins_at start are.0 x y past standing left.3 are.1 are.2) left these in
      λ i. same i ∷ tails i

-- a session whose stop left another image of the same moment
pub openings_stop_too : OpeningsStopToo
openings_stop_too start x past before after are as_left opening =
    weaker before after (λ _. IsImage before.now) (λ _ image. AreSessions start (record x { image = image } ∷ past)) (λ m image is. again past are (as_left.images image is)) opening
  where
    stopped_with : {image : List ℕ} (s : Source) → IsSessionFrom s x → IsImageAt x.last x.stop image
        → IsSessionFrom s (record x { image = image })
    stopped_with s is at = record { answered = is.answered; stopped = record { from = is.stopped.from; to = is.stopped.to; left = at } }

    again : {image : List ℕ} (past : List Session) → AreSessions start (x ∷ past) → IsImageAt x.last x.stop image → AreSessions start (record x { image = image } ∷ past)
    again [] are at = stopped_with start are at
    again (y ∷ past) are at = (are.0, are.1, stopped_with are.0 are.2 at, are.3)

-- a regular state yields its held resources
pub yields_held : (t : Source) → IsRegular t → YieldsHeld t
yields_held t regular = record { mirrored = regular.mirrored; facts = regular.sound }
