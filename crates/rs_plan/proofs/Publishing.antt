-- The plan of a publication keeps all rules.
use Rattle.std.proofs.Common.{◌≡◌, inr, ℕ, Bool, List, [], ◌∷◌, ◌++◌, Result, refl, sym, ◌∙◌, zero, suc, ◌+◌, ◌*◌, ◌≤◌, max, ap, subst, arith, zero-mul}
use Rattle.std.specs.Prelude.{IfOk, IsErrOf, All, IsTrue, MatchOption, slice_get, take, drop}
use Rattle.std.proofs.lemmas.List.{append-nil}
use Rattle.rs_time.specs.Moment.{IsMoment}
use Rattle.rs_extent.specs.declared.Extent.{Extent}
use Rattle.rs_record.specs.declared.change.Change.{Change}
use Rattle.rs_page.specs.Pages.{stored_refs, extents_of}
use Rattle.rs_page.specs.SharedPages.{stored_pages}
use Rattle.rs_pages.specs.Dropped.{front_pages, DropsAsOne, DroppingKeeps, DroppingReplacesFront}
use Rattle.rs_changes.specs.History.{IsHistory, changes_of, last_of}
use Rattle.rs_model.specs.declared.command.Command.TheVariants.{Publish}
use Rattle.rs_model.specs.declared.command.Reply.{Reply}
use Rattle.rs_model.specs.Step.{reply_to}
use Rattle.rs_image.specs.declared.contents.Contents.{Contents}
use Rattle.rs_image.specs.Rooted.{Rooted, IsRooted, AreUsed}
use Rattle.rs_image.specs.StateOfImage.{state_in}
use Rattle.rs_plan.specs.declared.plan.Plan.{Plan}
use Rattle.rs_plan.specs.declared.planning.PlanFault.{PlanFault}
use Rattle.rs_plan.specs.declared.planning.PlanFault.TheVariants.{Full}
use Rattle.rs_plan.specs.Allowed.{changes_dropped, MayPublish, parts_dropped}
use Rattle.rs_plan.specs.Freed.{freed_by_publication}
use Rattle.rs_plan.specs.Placed.{AreUnplaced}
use Rattle.rs_plan.specs.PlacedFrom.{IsPlacedFrom, HasNoRoomFrom}
use Rattle.rs_plan.specs.Plans.{IsNext, IsPlanned, IsFullFor}
use Rattle.rs_plan.specs.Published.{lists_after_publish, published_header}
use Rattle.rs_plan.proofs.Sublists.{itself}
use Rattle.rs_plan.proofs.Extents.{takes_none}
use Rattle.rs_plan.proofs.Lacking.{full_for}
use Rattle.rs_plan.proofs.Placing.{all_unplaced}
use Rattle.rs_plan.proofs.GivenBack.{Frees}
use Rattle.rs_plan.proofs.Here.{answered}
use Rattle.rs_plan.proofs.Parts.{shown_in}
use Rattle.rs_plan.proofs.Planned.{planned}
use Rattle.rs_plan.proofs.Turns.{publish_turns}
use Rattle.std.specs.List.{AllByRecursion}
use Rattle.std.proofs.lemmas.List.Elements.{All-nil, All-cons, All-head, All-tail, All-take, All-drop}
use Rattle.rs_commit.specs.declared.root.Root.{Root}
use Rattle.rs_record.specs.Changes.{last_moment}
use Rattle.rs_catalogue.specs.Catalogue.{records_of}
use Rattle.rs_directory.specs.declared.header.Header.{Header}
use Rattle.rs_directory.specs.Directory.{IsLawfulHeader, written_format}
use Rattle.rs_model.specs.Regular.{rises_from, IsAfter}
use Rattle.rs_plan.proofs.FromBelow.{rises_after, all_after, rest_rises, last_later, dropped_within, few_parts}
use Rattle.rs_image.specs.Whole.{IsWhole, IsSoundRecord, IsSoundChange, HasFirstPart, AreMoments}
use Rattle.rs_plan.proofs.Rules.{KeepsRules, later_records, later_changes}

-- changes within two moments are after the first one
after_first : (low high : ℕ) (cs : List Change) → All (IsSoundChange low high) cs → AllByRecursion (IsAfter low) cs
after_first low high [] all = tt
after_first low high (c ∷ cs) all =
    ((All-head (IsSoundChange low high) c cs all).moment.after, after_first low high cs (All-tail (IsSoundChange low high) c cs all))

-- and the last one is not after the second one, ..
last_up_to : (low high from : ℕ) (cs : List Change) → from ≤ high → All (IsSoundChange low high) cs → last_moment from cs ≤ high
last_up_to low high from [] le all = le
last_up_to low high from (c ∷ cs) le all =
    last_up_to low high c.moment cs (All-head (IsSoundChange low high) c cs all).moment.up_to
    (All-tail (IsSoundChange low high) c cs all)

-- .. so no change is later than a later moment
none_later : (low high moment : ℕ) (cs : List Change) (i : ℕ) → high ≤ moment → All (IsSoundChange low high) cs
    → MatchOption (slice_get cs i) (moment ≡ moment) (λ c. moment ≡ max moment c.moment)
none_later low high moment [] i le all = refl
none_later low high moment (c ∷ cs) zero le all = omega (arith, (All-head (IsSoundChange low high) c cs all).moment.up_to)
none_later low high moment (c ∷ cs) (suc i) le all =
    none_later low high moment cs i le (All-tail (IsSoundChange low high) c cs all)

-- they are within other moments where they are after the first one of those
within_more : (low more high : ℕ) (cs : List Change) → All (IsSoundChange low high) cs → AllByRecursion (IsAfter more) cs
    → All (IsSoundChange more high) cs
within_more low more high [] all after = All-nil (IsSoundChange more high)
within_more low more high (c ∷ cs) all after =
    let first : IsSoundChange low high c = All-head (IsSoundChange low high) c cs all in
    All-cons (IsSoundChange more high) c cs (record { moment = record { after = after.0; up_to = first.moment.up_to }; body = first.body })
    (within_more low more high cs (All-tail (IsSoundChange low high) c cs all) after.1)

module _ (size : ℕ) (root : Root) (old : Contents) (moment : ℕ) (whole : IsWhole size root old)
    (is_history : IsHistory old.history.pages) (lawful : IsLawfulHeader root.version old.header) (is_moment : IsMoment moment)
    (may : MayPublish old moment) (drops : DropsAsOne Change) where
  abbrev c : Contents
  c = lists_after_publish old moment

  abbrev was : Header
  was = old.header

  abbrev next : Header
  next = published_header old moment

  abbrev n : ℕ
  n = changes_dropped old

  abbrev cs : List Change
  cs = changes_of old.history.pages

  changes : changes_of c.history.pages ≡ drop n cs
  changes = drops n old.history.pages

  -- the changes rise from where the history begins
  rises : IsTrue (rises_from was.begin cs)
  rises = rises_after was.begin cs is_history.kept.rising (after_first was.begin was.last cs whole.changes)

  -- so it begins later by as many milliseconds as changes are dropped, and no later than the last command
  later : was.begin + n ≤ next.begin
  later = last_later was.begin n cs rises (dropped_within (state_in [] old))

  up_to_last : next.begin ≤ was.last
  up_to_last =
      last_up_to was.begin was.last was.begin (take n cs) (omega (arith, whole.moments.kept, whole.moments.at))
      (All-take (IsSoundChange was.begin was.last) n cs whole.changes)

  kept : All (IsSoundChange next.begin was.last) (drop n cs)
  kept =
      within_more was.begin next.begin was.last (drop n cs) (All-drop (IsSoundChange was.begin was.last) n cs whole.changes)
      (all_after next.begin next.begin (drop n cs) (omega arith) (rest_rises was.begin n cs rises))

  none : was.first + parts_dropped old ≡ 0 → next.begin ≡ was.start
  none is =
      let no_change : n ≡ 0 = ap (λ (parts : ℕ). parts * was.limit) (omega arith) ∙ zero-mul was.limit in
      ap (λ (k : ℕ). last_moment was.begin (take k cs)) no_change ∙ whole.moments.history.none_dropped (omega arith)

  first_part : HasFirstPart next
  first_part = record {
    begun = omega (arith, whole.moments.history.begun, later);
    first = omega (arith, whole.moments.history.first, whole.moments.history.begun, later, few_parts (state_in [] old));
    none_dropped = none;
  }

  lawful_next : IsLawfulHeader written_format next
  lawful_next = record {
    base = lawful.base;
    low = lawful.low;
    high = lawful.high;
    start = lawful.start;
    last = is_moment;
    number = may.number;
    at = is_moment;
    first = omega (arith, may.parts);
    begin = omega (arith, up_to_last, lawful.last);
    untold = λ one. absurd (omega arith);
  }

  moments_next : AreMoments next c
  moments_next = record {
    start = omega (arith, whole.moments.start, whole.moments.at, may.later);
    at = omega arith;
    last = subst (λ (l : List Change). MatchOption (last_of l) (moment ≡ moment) (λ x. moment ≡ max moment x.moment)) (sym changes)
        (none_later next.begin was.last moment (drop n cs) _ (omega (arith, may.later)) kept);
    kept = omega (arith, up_to_last, may.later);
    history = first_part;
  }

  pub publish_records : All (IsSoundRecord was.start moment) (records_of old.catalogue)
  publish_records = later_records was.start was.last moment (records_of old.catalogue) (omega (arith, may.later)) whole.records

  pub publish_rules : KeepsRules c
  publish_rules = record {
    header = lawful_next;
    moments = moments_next;
    number = ap (λ (k : ℕ). k + parts_dropped old) whole.number;
    changes = subst (All (IsSoundChange next.begin moment)) (sym changes) (later_changes next.begin was.last moment (drop n cs) (omega (arith, may.later)) kept);
    listed = publish_records;
  }

module _ (r : Rooted) (moment : ℕ) (sound : IsRooted r) (is_history : IsHistory r.contents.history.pages) (is_moment : IsMoment moment) (may : MayPublish r.contents moment)
    (drops : DropsAsOne Change) (keeps : DroppingKeeps Change) (front : DroppingReplacesFront Change) where
  abbrev old : Contents
  old = r.contents

  abbrev final : Contents
  final = lists_after_publish old moment

  -- no page has blocks that it is not written to
  pub publish_unplaced : AreUnplaced final
  publish_unplaced =
      let none = all_unplaced old sound.whole.catalogue sound.whole.history in
      record { catalogue = none.catalogue; history = (keeps (changes_dropped old) old.history.pages).1 none.history }

  follows : IsNext old Publish moment [] final
  follows = record {
    turns = λ image there. publish_turns old moment drops image;
    catalogue = itself (stored_pages old.catalogue);
    history = (keeps (changes_dropped old) old.history.pages).0;
  }

  -- the blocks that are removed from the old lists
  frees : (freed : List Extent) → freed ≡ freed_by_publication r → Frees r.root.directory old [] final freed
  frees freed is =
      inr (record {
        parts = is ∙ sym (append-nil (r.root.directory ∷ extents_of (stored_refs (front_pages (changes_dropped old) old.history.pages)) ++ shown_in old));
        catalogue = refl;
        history = front (changes_dropped old) old.history.pages;
        published = refl;
        none = refl;
      })

  pub publish_answer : (used : List Bool) → AreUsed r used → (result : Result Plan PlanFault) (told : Reply) (gone : List Extent) (lists : Contents) → lists ≡ final
      → ((image : List ℕ) → told ≡ reply_to (state_in image old) Publish moment) → gone ≡ freed_by_publication r → IfOk result (IsPlacedFrom used [] lists told gone)
      → (IsErrOf result Full → HasNoRoomFrom used [] lists) → IfOk result (IsPlanned r Publish moment) × (IsErrOf result Full → IsFullFor r Publish moment)
  publish_answer used are_used result told gone lists is reply freed placed full =
      answered (IsPlanned r Publish moment) (IsFullFor r Publish moment) result used [] lists final told gone is
      (λ p from. planned r.size r.root old sound Publish moment used from.after_bodies are_used [] (takes_none used from.after_bodies from.takes) final refl follows
      (publish_rules r.size r.root old moment sound.whole is_history sound.listable.header is_moment may drops)
      (publish_records r.size r.root old moment sound.whole is_history sound.listable.header is_moment may drops) publish_unplaced p from.placed
      (λ image. from.reply ∙ reply image) from.lists (λ one apart beside. frees p.freed.items (from.freed ∙ freed)) from.taken)
      (λ room. full_for r Publish moment used are_used [] room.after_bodies (takes_none used room.after_bodies room.takes) room.fails) placed full
