-- The outcomes of groups.
use Rattle.std.proofs.Common.{◌≡◌, ◌⊎◌, inl, inr, ℕ, ◌<◌, ◌≤◌, List, [], length, take, refl, ap, sym, ◌∙◌, subst, arith, Bool, true, false, Option, Some, None, Result, Ok, Err, if◌then◌else◌, nat_eq}
use Rattle.std.specs.Result.{result_ok}
use Rattle.std.proofs.lemmas.Bool.{eq-eqb, cases_lt}
use Rattle.std.proofs.lemmas.Bool.Decides.{nat_tests}
use Rattle.std.proofs.lemmas.List.{take_all, length-take-le}
use Rattle.std.specs.Prelude.{not, ◌&&◌, nat_le}
use Rattle.rs_disk.specs.Medium.{DiskState}
use Rattle.rs_model.specs.State.{Source}
use Rattle.rs_model.specs.Step.{is_bad_group, refusal_of, items_causes, first_cause, step}
use Rattle.rs_model.specs.declared.command.Command.TheVariants as commands
use Rattle.rs_model.specs.declared.command.Item.{Item}
use Rattle.rs_model.specs.declared.command.Refusal as model
use Rattle.rs_model.specs.declared.command.Refusal.TheVariants as decides
use Rattle.rs_model.specs.declared.command.Reply.{Reply}
use Rattle.rs_items.specs.declared.item.ItemFault.{ItemFault}
use Rattle.rs_store.specs.Answered.{Answers}
use Rattle.rs_store.specs.Commands.{IsCause, Leads}
use Rattle.rs_store.specs.Refusals.{decided, or_spent, is_spent}
use Rattle.rs_store.specs.Source.{state_of}
use Rattle.rs_store.specs.declared.refusal.Refusal as stored
use Rattle.rs_store.specs.declared.refusal.Refusal.TheVariants.{Closed, BadGroup, ReadFault, ShortBody, NoMemory}
use Rattle.rs_http.specs.Turn.{Turn}
use Rattle.rs_http.specs.Counted.{counted_group}
use Rattle.rs_http.specs.Groups.{items_in, items_asked, IsUnread}
use Rattle.rs_http.specs.Outcomes.{RunComesTo, UnaskedGroup}
use Rattle.rs_http.specs.Responses.{RequestOutcome, refused}

fewer : (m n : ℕ) → m < n → nat_eq m n ≡ false
fewer m n l = grind (arith, nat_tests)

chosen : {T : Type 0} (b : Bool) (x y : T) → b ≡ true → (if b then x else y) ≡ x
chosen true x y e = refl
chosen false x y e = absurd cc

other : {T : Type 0} (b : Bool) (x y : T) → b ≡ false → (if b then x else y) ≡ y
other true x y e = absurd cc
other false x y e = refl

-- the items of a body that came whole
pub asked_whole : (n : ℕ) (came : List ℕ) → length came ≡ n → items_asked n came ≡ result_ok (items_in came)
asked_whole n came whole = chosen (nat_eq (length came) n) (result_ok (items_in came)) None (eq-eqb (length came) n whole)

pub asked_items : (n : ℕ) (came : List ℕ) (items : List Item) → length came ≡ n → items_in came ≡ Ok items → items_asked n came ≡ Some items
asked_items n came items whole are = asked_whole n came whole ∙ ap result_ok are

pub asked_faulty : (n : ℕ) (came : List ℕ) (fault : ItemFault) → length came ≡ n → items_in came ≡ Err fault → items_asked n came ≡ None
asked_faulty n came fault whole is = asked_whole n came whole ∙ ap result_ok is

pub asked_short : (n : ℕ) (came : List ℕ) → length came < n → items_asked n came ≡ None
asked_short n came short = other (nat_eq (length came) n) (result_ok (items_in came)) None (fewer (length came) n short)

no_memory_counts : (asked : Option (List Item)) (now : ℕ) → counted_group asked now (refused NoMemory) ≡ []
no_memory_counts None now = refl
no_memory_counts (Some items) now = refl

-- no command counts if the source did not get the group
pub unasked_counts : (n : ℕ) (came : List ℕ) (rest : Option (List ℕ)) (outcome : RequestOutcome) (now : ℕ) → UnaskedGroup n came rest outcome
    → counted_group (items_asked n came) now outcome ≡ []
unasked_counts n came rest outcome now (inl short) = ap (λ asked. counted_group asked now outcome) (asked_short n came short.0)
unasked_counts n came rest outcome now (inr (inl faulty)) = ap (λ asked. counted_group asked now outcome) (asked_faulty n came faulty.1 faulty.0 faulty.2)
unasked_counts n came rest outcome now (inr (inr (inl body))) = ap (counted_group (items_asked n came) now) body.1 ∙ no_memory_counts (items_asked n came) now
unasked_counts n came rest outcome now (inr (inr (inr items))) = ap (counted_group (items_asked n came) now) items.1 ∙ no_memory_counts (items_asked n came) now

-- a body that did not come into memory
pub unread_unasked : (n : ℕ) (came : List ℕ) (rest : Option (List ℕ)) (refusal : stored.Refusal) → (refusal ≡ ReadFault → ⊥) → IsUnread n rest came refusal
    → UnaskedGroup n came rest (refused refusal)
unread_unasked n came rest NoMemory other_than none = inr (inr (inl (none, refl)))
unread_unasked n came rest ShortBody other_than short = inl (short.0, short.1, refl)
unread_unasked n came rest ReadFault other_than few = absurd (other_than refl)
unread_unasked n came rest refusal other_than none = absurd none

too_many : (n : ℕ) → 17 ≤ n → not (nat_le 1 n && nat_le n 16) ≡ true
too_many n l = grind (arith, nat_tests)

-- the refusals that come before those of the items
abbrev IsEarly : stored.Refusal → Type 0
IsEarly Closed = Unit {0}
IsEarly BadGroup = Unit {0}
IsEarly refusal = ⊥

module _ {D : Type 0} {device : D → DiskState} (turn : Turn device) where
  module _ (one other : List Item) (bad : is_bad_group one ≡ true) (worse : is_bad_group other ≡ true) where
    refused_bad : (items : List Item) → is_bad_group items ≡ true → refusal_of (state_of device turn.old) (commands.Group items) turn.now ≡ Some decides.BadGroup
    refused_bad items is = chosen (is_bad_group items) (Some decides.BadGroup) (first_cause (items_causes (state_of device turn.old) items turn.now)) is

    by_closed : (items : List Item) → is_bad_group items ≡ true
        → decided turn.old (state_of device turn.old) (commands.Group items) turn.now ≡ (if turn.old.is_closed then Some Closed else Some BadGroup)
    by_closed items is = ap (λ (r : Option model.Refusal). if turn.old.is_closed then Some Closed else or_spent r (is_spent turn.old)) (refused_bad items is)

    decided_alike : decided turn.old (state_of device turn.old) (commands.Group one) turn.now ≡ decided turn.old (state_of device turn.old) (commands.Group other) turn.now
    decided_alike = by_closed one bad ∙ sym (by_closed other worse)

    early : (closed : Bool) (found : Option stored.Refusal) → found ≡ (if closed then Some Closed else Some BadGroup) → (r : stored.Refusal) × IsEarly r × (found ≡ Some r)
    early true found is = (Closed, tt, is)
    early false found is = (BadGroup, tt, is)

    early_cause : (r : stored.Refusal) → IsEarly r → IsCause device turn.old turn.new (commands.Group one) turn.now r → IsCause device turn.old turn.new (commands.Group other) turn.now r
    early_cause Closed e is = sym decided_alike ∙ is
    early_cause BadGroup e is = sym decided_alike ∙ is
    early_cause r e is = absurd e

    early_leads : (r : stored.Refusal) (s : Source) → IsEarly r → Leads device turn.old turn.new s (step s (commands.Group one) turn.now) (Err r) → Leads device turn.old turn.new s (step s (commands.Group other) turn.now) (Err r)
    early_leads Closed s e led = led
    early_leads BadGroup s e led = led
    early_leads r s e led = absurd e

    refused_alike : (r : stored.Refusal) → IsEarly r → Answers device turn.old turn.new (commands.Group one) turn.now (Err r) → Answers device turn.old turn.new (commands.Group other) turn.now (Err r)
    refused_alike r e a = record {
      decides = λ r is. a.decides r (decided_alike ∙ is);
      untouched = λ r is. a.untouched r (decided_alike ∙ is);
      full = a.full;
      refused = λ q is. let same : r ≡ q = cc in subst (λ (x : stored.Refusal). IsCause device turn.old turn.new (commands.Group other) turn.now x) same (early_cause r e (a.refused r refl));
      accepted = a.accepted;
      planned = a.planned;
      generation = a.generation;
      version = a.version;
      leads = λ s held. early_leads r s e (a.leads s held);
      runs = a.runs;
      closed = a.closed;
      closes = a.closes;
      stays_open = a.stays_open;
      unchanged = a.unchanged;
    }

    -- two groups with numbers of items that no group may have are answered alike
    answered_alike : (result : Result Reply stored.Refusal) → Answers device turn.old turn.new (commands.Group one) turn.now result → Answers device turn.old turn.new (commands.Group other) turn.now result
    answered_alike result a =
        let found = early turn.old.is_closed (decided turn.old (state_of device turn.old) (commands.Group one) turn.now) (by_closed one bad) in
        let is : result ≡ Err found.0 = a.decides found.0 found.2 in
        let P : Result Reply stored.Refusal → Type 0 = λ r. Answers device turn.old turn.new (commands.Group one) turn.now r in
        let Q : Result Reply stored.Refusal → Type 0 = λ r. Answers device turn.old turn.new (commands.Group other) turn.now r in
        subst Q (sym is) (refused_alike found.0 found.1 (subst P is a))

    alike_comes : (outcome : RequestOutcome) → RunComesTo turn (commands.Group one) outcome → RunComesTo turn (commands.Group other) outcome
    alike_comes outcome r = record { result = r.result; answers = answered_alike r.result r.answers; outcome_is = r.outcome_is }

  by_count : (all : List Item) (outcome : RequestOutcome) → (length all < 17) ⊎ (17 ≤ length all)
      → RunComesTo turn (commands.Group (take 17 all)) outcome → RunComesTo turn (commands.Group all) outcome
  by_count all outcome (inl few) r =
      let same : take 17 all ≡ all = take_all 17 all (omega arith) in
      subst (λ (items : List Item). RunComesTo turn (commands.Group items) outcome) same r
  by_count all outcome (inr many) r =
      let kept : length (take 17 all) ≡ 17 = length-take-le 17 all many in
      alike_comes (take 17 all) all (too_many (length (take 17 all)) (omega arith)) (too_many (length all) many) outcome r

  -- the outcome of a group of the first 17 items is one of the group of all
  pub whole_comes : (all : List Item) (outcome : RequestOutcome) → RunComesTo turn (commands.Group (take 17 all)) outcome → RunComesTo turn (commands.Group all) outcome
  whole_comes all outcome r = by_count all outcome (cases_lt (length all) 17) r
