-- A destination's mirror is a catalogue and was held, and the parts that it fetched stay.
use Rattle.std.proofs.Common.{◌≡◌, ℕ, ◌*◌, ◌≤◌, List, map, take, drop, refl, sym, ap, ◌∙◌, arith, Some, Bool, true, false, nat_le}
use Rattle.std.specs.Prelude.{codes}
use Rattle.std.proofs.lemmas.Bool.Decides.{nat_tests}
use Rattle.rs_record.specs.declared.change.Change.{Change}
use Rattle.rs_model.specs.declared.event.Event.{Event}
use Rattle.rs_model.specs.Laws.{ChangesAreKept}
use Rattle.rs_model.specs.Listed.{record_of}
use Rattle.rs_model.specs.State.{Source, start_of}
use Rattle.rs_model.specs.Step.{mirror_of}
use Rattle.rs_model.specs.Walk.{state_at, commands_of, recorded, count_at, catalogue, IsPassed}
use Rattle.rs_model.specs.WalkLaws.{WalksAreFolds, WalksStayLawful}
use Rattle.rs_lists.specs.declared.doc.Doc.TheVariants.{ResourcePart}
use Rattle.rs_caps.specs.Paths.{doc_of}
use Rattle.rs_caps.specs.Readings.{ListedResource}
use Rattle.rs_caps.specs.Answer.{answer, listed_of}
use Rattle.rs_caps.specs.Gather.{listed_entry}
use Rattle.rs_caps.specs.Destination.{Mirrors, DestinationMirrors, MirrorWasHeld, FetchedListedPartsStay, FetchedClosedPartsStay}
use Rattle.rs_caps.proofs.ListsRead.{same_entries, same_pair}
use Rattle.rs_caps.proofs.PartsStay.{listed_stays, closed_stays}
use Rattle.rs_caps.proofs.Walks.{AreLaws, folded, lawful_at, count_between}
use Rattle.rs_caps.proofs.Fetches.{AreKeptChanges, resources_fetched, changes_fetched}

pub destination_mirrors : AreLaws → DestinationMirrors
destination_mirrors laws base limit moment events when done last l all f =
    let s : Source = start_of base limit moment in
    let i : ℕ = when (codes "/resourcelist.xml") in
    let j : ℕ = when (codes "/changelist.xml") in
    let r : Source = state_at s events i in
    let h : Source = state_at s events j in
    let listed : List ListedResource = map listed_of (map record_of r.listed) in
    let resources = resources_fetched laws s events when done l all f.resources in
    let c : AreKeptChanges s events when last = changes_fetched laws base limit moment events when last l all f.changes in
    let changes : List Change = drop (h.first * limit) (take c.n (recorded s events)) in
    let before : count_at s events i ≤ c.n = omega (arith, count_between s events i j f.order, c.low) in
    record {
      at = r.at;
      listed = listed;
      start = h.begin;
      changes = changes;
      n = c.n;
      resources_gathered = resources;
      changes_gathered = c.gathered;
      low = c.low;
      high = c.high;
      mirrored = ap (λ m. mirror_of m r.at changes) (same_entries r.listed)
          ∙ laws.followed base limit moment events i j c.n before (f.no_gap r.at h.begin listed changes resources c.gathered);
    }

pub mirror_was_held : AreLaws → MirrorWasHeld
mirror_was_held laws base limit moment events when done last at start listed changes l all f h g =
    let s : Source = start_of base limit moment in
    let m : Mirrors s events when last = destination_mirrors laws base limit moment events when done last l all f in
    let p : IsPassed s events (when (codes "/changelist.xml")) last m.n =
    laws.passed s events (when (codes "/changelist.xml")) last m.n f.changes.by_last m.low m.high in
    let resources = same_pair (m.at, m.listed) (at, listed) (sym m.resources_gathered ∙ h) in
    let followed = same_pair (m.start, m.changes) (start, changes) (sym m.changes_gathered ∙ g) in
    let mirrored : mirror_of (map listed_entry listed) at changes ≡ catalogue s events m.n =
    (λ q. mirror_of (map listed_entry (sym resources.1 q)) (sym resources.0 q) (sym followed.1 q)) ∙ m.mirrored in
    record {
      n = m.n;
      passed = p;
      mirrored = mirrored;
      held = λ same. mirrored ∙ ap (catalogue s events) (sym same) ∙ sym (laws.held_then base limit moment events p.point);
    }

listed_stay : WalksAreFolds → (s : Source) (events : List Event) (i j : ℕ) (path x y : List ℕ) (publication k : ℕ) → i ≤ j
    → doc_of path ≡ Some (ResourcePart publication k)
    → answer (state_at s events i) path ≡ Some x → answer (state_at s events j) path ≡ Some y → x ≡ y
listed_stay folds s events i j path x y publication k order d h g =
    listed_stays (state_at s events i) (commands_of (drop i (take j events))) path x y publication k d h
    (ap (λ t. answer t path) (sym (folded folds s events i j order)) ∙ g)

listed_by : WalksAreFolds → (b : Bool) (s : Source) (events : List Event) (i j : ℕ) (path x y : List ℕ) (publication k : ℕ) → nat_le i j ≡ b
    → doc_of path ≡ Some (ResourcePart publication k)
    → answer (state_at s events i) path ≡ Some x → answer (state_at s events j) path ≡ Some y → x ≡ y
listed_by folds true s events i j path x y publication k e d h g =
    listed_stay folds s events i j path x y publication k (grind (arith, nat_tests)) d h g
listed_by folds false s events i j path x y publication k e d h g =
    let order : j ≤ i = grind (arith, nat_tests) in
    sym (listed_stay folds s events j i path y x publication k order d g h)

pub fetched_listed_stay : WalksAreFolds → FetchedListedPartsStay
fetched_listed_stay folds s events i j path x y publication k d h g =
    listed_by folds (nat_le i j) s events i j path x y publication k refl d h g

pub fetched_closed_stay : WalksAreFolds → WalksStayLawful → ChangesAreKept → FetchedClosedPartsStay
fetched_closed_stay folds lawful kept s events i j path x y k start until children l all order d r h g =
    closed_stays kept (state_at s events i) (commands_of (drop i (take j events))) path x y k start until children
    (lawful_at lawful s events i l all) d r h (ap (λ t. answer t path) (sym (folded folds s events i j order)) ∙ g)
