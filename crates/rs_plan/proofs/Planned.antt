-- The plan of a command keeps all rules.
use Rattle.std.proofs.Common.{◌≡◌, ◌⊎◌, inl, inr, ℕ, ◌+◌, ◌<◌, ◌≤◌, Bool, true, false, nat_lt, List, [], ◌∷◌, ◌++◌, length, map, max, refl, sym, ◌∙◌, ap, subst, arith}
use Rattle.std.specs.Prelude.{All, MatchOption}
use Rattle.std.specs.List.{AllZip}
use Rattle.std.proofs.lemmas.Bool.{or_parts, or_right}
use Rattle.std.proofs.lemmas.Bool.Decides.{nat_tests}
use Rattle.rs_extent.specs.declared.Extent.{Extent}
use Rattle.rs_extent.specs.Extents.{in_some, AreBeside, AreApart, AreTaken, AreDisjoint, IsSubset}
use Rattle.rs_body.specs.Blocks.{blocks_of, IsSized}
use Rattle.rs_commit.specs.declared.root.Root.{Root}
use Rattle.rs_record.specs.declared.record.Record.{Record}
use Rattle.rs_record.specs.declared.change.Change.{Change}
use Rattle.rs_page.specs.declared.place.PageRef.{PageRef}
use Rattle.rs_page.specs.Items.{record_format, change_format}
use Rattle.rs_page.specs.Pages.{Page, IsStored, stored_refs, extents_of, stored}
use Rattle.rs_catalogue.specs.Catalogue.{records_of}
use Rattle.rs_changes.specs.History.{changes_of, last_of}
use Rattle.rs_directory.specs.declared.header.Header.{Header}
use Rattle.rs_directory.specs.Directory.{directory_length, written_format, IsLawfulHeader, AreLawfulRefs}
use Rattle.rs_model.specs.declared.command.Command.{Command}
use Rattle.rs_model.specs.Step.{next_state, reply_to}
use Rattle.rs_model.specs.Listed.{entry_of}
use Rattle.rs_image.specs.declared.contents.Contents.{Contents}
use Rattle.rs_pages.specs.Storing.{unshared}
use Rattle.rs_image.specs.Reach.{blocks_of_disk, bodies_of, reach, is_kept, AreInside}
use Rattle.rs_image.specs.Whole.{IsWhole, AreMoments, IsSoundRecord, IsSoundChange}
use Rattle.rs_image.specs.StateOfImage.{held_in, state_in, AreListable, AreLists, directory_bytes_of}
use Rattle.rs_plan.specs.declared.plan.Plan.{Plan}
use Rattle.rs_image.specs.Rooted.{rooted, AreUsed, IsRooted}
use Rattle.rs_plan.specs.Room.{TakesEach, bodies_needed, bodies_of_command}
use Rattle.rs_plan.specs.Plans.{AreBodies, IsNext, lists_after, places, planned_listing, planned_root, TakesInTurn, TakesAndGives, IsPlanned}
use Rattle.rs_plan.specs.Placed.{AreUnplaced, HasItsPlaces}
use Rattle.rs_plan.proofs.FromBelow.{not_true, not_both, turned, taken_both, few_catalogue, few_history, count_refs, length-directory_bytes}
use Rattle.rs_plan.proofs.Extents.{taken_lowest, taken_each}
use Rattle.rs_plan.proofs.Placing.{places_same}
use Rattle.rs_plan.proofs.Stored.{same_refs, stored_some, kept_refs}
use Rattle.rs_plan.proofs.Separate.{AreSeparate, separated, apart_again, five_of, a_in, b_in, c_in, e_in, AreNew, separate_next}
use Rattle.rs_plan.proofs.Unshared.{published_some, unshared_some, unshared_apart, unshared_itself, beside_kept}
use Rattle.rs_plan.proofs.Turns.{same_state}
use Rattle.rs_plan.proofs.Rules.{KeepsRules}
use Rattle.rs_plan.proofs.PlacedPages.{GetsPlaces, are_stored, apart, count, kept, keeps_placed, lawful, same_items, same_stored, some_kept}
use Rattle.rs_plan.proofs.Parts.{in_bodies, in_catalogue, in_history, in_directory, pages_in, changes_in, shown_in, bodies_in, written, given_pages, given_changes, sized_each, IsUnshared, unshared_none, IsPublished, published_is}
use Rattle.rs_plan.proofs.GivenBack.{Frees, bodies_apart, bodies_come, placed_refs, gives_parts, takes_and_gives}

not_low : (b : ℕ) → nat_lt b 2 ≡ false → 2 ≤ b
not_low b is = grind (arith, nat_tests)

module _ (size : ℕ) (root : Root) (old : Contents) (sound : IsRooted (rooted size root old)) (command : Command) (moment : ℕ)
    (used used₁ : List Bool) (are_used : AreUsed (rooted size root old) used) (extents : List Extent) (takes : TakesEach used (bodies_needed (bodies_of_command command)) extents used₁)
    (c : Contents) (is_after : c ≡ lists_after old command moment extents) (next : IsNext old command moment extents c) (rules : KeepsRules c) (records : All (IsSoundRecord c.header.start c.header.last) (records_of c.catalogue))
    (unplaced : AreUnplaced c) (p : Plan) (placed : HasItsPlaces used₁ extents c p)
    (reply : (image : List ℕ) → p.reply ≡ reply_to (state_in image old) command moment)
    (lists : AreLists c)
    (frees : AreApart extents → AreApart (bodies_in old) → AreDisjoint (in_some extents) (in_some (bodies_in old)) → Frees root.directory old extents c p.freed.items)
    (taken_is : p.taken.items ≡ places p) where
  whole : IsWhole size root old
  whole = sound.whole

  -- the blocks that the plan writes were taken
  taken : AreTaken used placed.after (places p)
  taken =
      subst (λ (l : List Extent). AreTaken used placed.after (l ++ given_pages p ++ given_changes p ++ p.directory ∷ [])) (sym placed.bodies_are)
      (taken_both used placed.lists.after_history placed.after (extents ++ given_pages p ++ given_changes p) (p.directory ∷ [])
      (taken_both used placed.lists.after_catalogue placed.lists.after_history (extents ++ given_pages p) (given_changes p)
      (taken_both used used₁ placed.lists.after_catalogue extents (given_pages p) (taken_each used used₁ (bodies_needed (bodies_of_command command)) extents takes) placed.lists.takes_catalogue)
      placed.lists.takes_history)
      (taken_lowest placed.lists.after_history placed.after (blocks_of (directory_bytes_of c)) p.directory placed.lists.directory))

  -- so it was free, and lies after the slots on the disk
  below : (b : ℕ) → in_some (places p) b ≡ true → b < blocks_of_disk size
  below b is = omega (arith, taken.inside b is, are_used.blocks)

  free : AreBeside (is_kept root old) (places p)
  free b is = sym (are_used.each b (below b is)) ∙ taken.before b is

  inside : AreInside size (places p)
  inside b is = (not_low b (or_parts (nat_lt b 2) (in_some (reach root old) b) (free b is)).0, below b is)

  reached : IsSubset (in_some (reach root old)) (is_kept root old)
  reached b is = or_right (nat_lt b 2) (in_some (reach root old) b) is

  -- the lists of pages that got places
  catalogue : GetsPlaces record_format old.catalogue c.catalogue p.contents.catalogue
  catalogue = record {
    used = used₁;
    after = placed.lists.after_catalogue;
    keeps = next.catalogue;
    unplaced = unplaced.catalogue;
    places = placed.lists.catalogue;
    takes = placed.lists.takes_catalogue;
    untouched = placed.lists.untouched_catalogue;
  }

  history : GetsPlaces change_format old.history.pages c.history.pages p.contents.history.pages
  history = record {
    used = placed.lists.after_catalogue;
    after = placed.lists.after_history;
    keeps = next.history;
    unplaced = unplaced.history;
    places = placed.lists.history;
    takes = placed.lists.takes_history;
    untouched = placed.lists.untouched_history;
  }

  published : IsPublished old p.contents
  published = elim (subst (IsPublished old) (sym is_after) (published_is old command moment extents)) [
    | inl same ↦ inl (placed.lists.published ∙ same)
    | inr listed ↦ inr (
      placed.lists.published ∙ listed.0,
      places_same record_format used₁ placed.lists.after_catalogue c.catalogue p.contents.catalogue (subst (All IsStored) (sym listed.1) whole.catalogue) placed.lists.catalogue
          ∙ listed.1,
    )
  ]

  -- the items
  same_records : records_of p.contents.catalogue ≡ records_of c.catalogue
  same_records = same_items catalogue

  same_changes : changes_of p.contents.history.pages ≡ changes_of c.history.pages
  same_changes = same_items history

  same_stored_records : records_of (stored record_format p.contents.catalogue) ≡ records_of c.catalogue
  same_stored_records = same_stored catalogue

  same_stored_changes : changes_of (stored change_format p.contents.history.pages) ≡ changes_of c.history.pages
  same_stored_changes = same_stored history

  -- the state of the lists
  turns : (image : List ℕ) → AreBodies image p.bodies.items (bodies_of_command command)
      → state_in image p.contents ≡ next_state (state_in image old) command moment
  turns image there =
      same_state p.contents.header c.header (map (held_in image) (records_of p.contents.catalogue)) (map (held_in image) (records_of c.catalogue))
      (changes_of p.contents.history.pages) (changes_of c.history.pages) (map entry_of (records_of p.contents.published)) (map entry_of (records_of c.published))
      placed.lists.header (ap (λ (rs : List Record). map (held_in image) rs) same_records) same_changes
      (ap (λ (pages : List (Page Record)). map entry_of (records_of pages)) placed.lists.published)
      ∙ next.turns image (subst (λ (l : List Extent). AreBodies image l (bodies_of_command command)) placed.bodies_are there)

  next_placed : IsNext old command moment p.bodies.items p.contents
  next_placed = record {
    turns = turns;
    catalogue = keeps_placed catalogue;
    history = keeps_placed history;
  }

  -- the stored pages
  stored_published : All IsStored p.contents.published
  stored_published = elim published [
    | inl same ↦ subst (All IsStored) (sym same) whole.published
    | inr listed ↦ subst (All IsStored) (sym listed.0) whole.catalogue
  ]

  count_catalogue : length (stored_refs (written p).catalogue) ≡ length c.catalogue
  count_catalogue = count catalogue

  count_history : length (stored_refs (written p).history.pages) ≡ length c.history.pages
  count_history = count history

  count_published : length (stored_refs p.contents.published) ≡ length c.published
  count_published = count_refs p.contents.published stored_published ∙ ap (λ (pages : List (Page Record)). length pages) placed.lists.published

  -- the entries of a directory
  small_disk : blocks_of_disk size ≤ 8388608
  small_disk = omega arith

  lawful_catalogue : AreLawfulRefs (stored_refs (written p).catalogue)
  lawful_catalogue = record {
    each = lawful catalogue (blocks_of_disk size) small_disk sound.listable.catalogue.each (λ b is. inside b (in_catalogue p b is));
    count = omega (arith, count_catalogue, few_catalogue c.catalogue lists.catalogue);
  }

  lawful_history : AreLawfulRefs (stored_refs (written p).history.pages)
  lawful_history = record {
    each = lawful history (blocks_of_disk size) small_disk sound.listable.history.each (λ b is. inside b (in_history p b is));
    count = omega (arith, count_history, few_history c.history.pages lists.history);
  }

  lawful_published : AreLawfulRefs (stored_refs p.contents.published)
  lawful_published = elim published [
    | inl same ↦ subst (λ (pages : List (Page Record)). AreLawfulRefs (stored_refs pages)) (sym same) sound.listable.published
    | inr listed ↦ subst (λ (pages : List (Page Record)). AreLawfulRefs (stored_refs pages)) (sym listed.0) sound.listable.catalogue
  ]

  listable_next : AreListable written_format (written p)
  listable_next = record {
    header = subst (IsLawfulHeader written_format) (sym placed.lists.header) rules.header;
    catalogue = lawful_catalogue;
    history = lawful_history;
    published = lawful_published;
  }

  -- the directory
  long_listing : length (planned_listing p) ≡ directory_bytes_of c
  long_listing =
      length-directory_bytes p.contents.header (stored_refs (written p).catalogue) (stored_refs (written p).history.pages) (stored_refs p.contents.published)
      lawful_catalogue lawful_history lawful_published
      ∙ ap (λ (h : Header). directory_length h
      (length (stored_refs (written p).catalogue) + length (stored_refs (written p).history.pages) + length (stored_refs p.contents.published))) placed.lists.header
      ∙ ap (directory_length c.header) (omega (arith, count_catalogue, count_history, count_published))

  sized_directory : IsSized p.directory (length (planned_listing p))
  sized_directory = (placed.lists.directory.blocks ∙ ap blocks_of (sym long_listing), λ none. placed.lists.directory.nowhere (ap blocks_of (sym long_listing ∙ none)))

  -- the parts that the old root reaches, and those of the next one
  was : AreSeparate root.directory (pages_in old) (changes_in old) (shown_in old) (bodies_in old)
  was = separated root.directory (pages_in old) (changes_in old) (shown_in old) (bodies_in old) whole.apart

  alone : IsUnshared (stored_refs old.catalogue) (stored_refs p.contents.catalogue) (stored_refs (written p).catalogue) (stored_refs p.contents.published)
      (shown_in old)
  alone = elim published [
    | inl same ↦
        let refs : stored_refs p.contents.published ≡ stored_refs old.published = ap (λ (pages : List (Page Record)). stored_refs pages) same in
        subst (λ (l : List PageRef). IsUnshared (stored_refs old.catalogue) (stored_refs p.contents.catalogue) (stored_refs (written p).catalogue) l
        (shown_in old)) (sym refs)
        (record {
          comes = λ b is. published_some (stored_refs old.published) (stored_refs old.catalogue) b
              (unshared_some (stored_refs old.published) (stored_refs (written p).catalogue) b is);
          beside = beside_kept (stored_refs old.published) (stored_refs old.catalogue) (stored_refs (written p).catalogue) (stored_refs p.contents.catalogue)
              (kept catalogue) (kept_refs record_format p.contents.catalogue) was.in_a was.ac;
          apart = unshared_apart (stored_refs old.published) (stored_refs (written p).catalogue) whole.published_apart;
        })
    | inr listed ↦
        let shown : stored_refs p.contents.published ≡ stored_refs old.catalogue = ap (λ (pages : List (Page Record)). stored_refs pages) listed.0 in
        let held : stored_refs (written p).catalogue ≡ stored_refs old.catalogue =
        ap (λ (pages : List (Page Record)). stored_refs (stored record_format pages)) listed.1 ∙ same_refs record_format old.catalogue whole.catalogue in
        unshared_none (stored_refs old.catalogue) (stored_refs p.contents.catalogue) (stored_refs (written p).catalogue) (stored_refs p.contents.published)
        (shown_in old)
        (ap (λ (l : List PageRef). unshared l (stored_refs (written p).catalogue)) shown
        ∙ ap (λ (l : List PageRef). unshared (stored_refs old.catalogue) l) held ∙ unshared_itself (stored_refs old.catalogue))
  ]

  new : AreNew (is_kept root old) p.bodies.items (given_pages p) (given_changes p) p.directory
  new = record { apart = taken.apart; beside = free }

  -- no block of an old part is written
  unwritten : (xs ys : List Extent) → IsSubset (in_some xs) (in_some (reach root old)) → IsSubset (in_some ys) (in_some (places p)) → AreDisjoint (in_some xs) (in_some ys)
  unwritten xs ys of_old of_new b is = not_true (in_some ys b) (λ here. not_both (is_kept root old b) (reached b (of_old b is)) (free b (of_new b here)))

  old_catalogue_in : IsSubset (in_some (pages_in old)) (in_some (reach root old))
  old_catalogue_in = a_in root.directory (pages_in old) (changes_in old) (shown_in old) (bodies_in old)

  old_history_in : IsSubset (in_some (changes_in old)) (in_some (reach root old))
  old_history_in = b_in root.directory (pages_in old) (changes_in old) (shown_in old) (bodies_in old)

  old_published_in : IsSubset (in_some (shown_in old)) (in_some (reach root old))
  old_published_in = c_in root.directory (pages_in old) (changes_in old) (shown_in old) (bodies_in old)

  old_bodies_in : IsSubset (in_some (bodies_in old)) (in_some (reach root old))
  old_bodies_in = e_in root.directory (pages_in old) (changes_in old) (shown_in old) (bodies_in old)

  some_kept_catalogue : IsSubset (in_some (pages_in p.contents)) (in_some (pages_in old))
  some_kept_catalogue = some_kept catalogue

  some_kept_history : IsSubset (in_some (changes_in p.contents)) (in_some (changes_in old))
  some_kept_history = some_kept history

  -- the blocks that are removed from the old lists
  free_bodies : AreDisjoint (in_some extents) (in_some (bodies_in old))
  free_bodies =
      subst (λ (l : List Extent). AreDisjoint (in_some l) (in_some (bodies_in old))) placed.bodies_are
      (turned (in_some (bodies_in old)) (in_some p.bodies.items) (unwritten (bodies_in old) p.bodies.items old_bodies_in (in_bodies p)))

  gone : Frees root.directory old p.bodies.items c p.freed.items
  gone =
      subst (λ (l : List Extent). Frees root.directory old l c p.freed.items) (sym placed.bodies_are)
      (frees (taken_each used used₁ (bodies_needed (bodies_of_command command)) extents takes).apart was.in_e free_bodies)

  bodies_comes : (b : ℕ) → in_some (bodies_in (written p)) b ≡ true → (in_some (bodies_in old) b ≡ true) ⊎ (in_some p.bodies.items b ≡ true)
  bodies_comes b is =
      bodies_come root.directory old p.bodies.items c p.freed.items gone b (subst (λ (rs : List Record). in_some (bodies_of rs) b ≡ true) same_stored_records is)

  -- the pages of each list are apart
  apart_catalogue : AreApart (pages_in (written p))
  apart_catalogue =
      apart catalogue was.in_a (unwritten (pages_in p.contents) (given_pages p) (λ b is. old_catalogue_in b (some_kept_catalogue b is)) (in_catalogue p))

  apart_history : AreApart (changes_in (written p))
  apart_history =
      apart history was.in_b (unwritten (changes_in p.contents) (given_changes p) (λ b is. old_history_in b (some_kept_history b is)) (in_history p))

  apart_published : AreApart (extents_of (stored_refs p.contents.published))
  apart_published = elim published [
    | inl same ↦ subst (λ (pages : List (Page Record)). AreApart (extents_of (stored_refs pages))) (sym same) whole.published_apart
    | inr listed ↦ subst (λ (pages : List (Page Record)). AreApart (extents_of (stored_refs pages))) (sym listed.0) was.in_a
  ]

  apart_bodies : AreApart (bodies_in (written p))
  apart_bodies =
      subst (λ (rs : List Record). AreApart (bodies_of rs)) (sym same_stored_records)
      (bodies_apart root.directory old p.bodies.items c p.freed.items was.in_e gone)

  separate : AreSeparate p.directory (pages_in (written p)) (changes_in (written p)) (shown_in (written p)) (bodies_in (written p))
  separate =
      separate_next (is_kept root old) root.directory p.directory p.bodies.items
      (pages_in old) (changes_in old) (shown_in old) (bodies_in old)
      (pages_in (written p)) (changes_in (written p)) (shown_in (written p)) (bodies_in (written p))
      (given_pages p) (given_changes p) (pages_in p.contents) (changes_in p.contents)
      was reached new some_kept_catalogue some_kept_history
      (stored_some record_format p.contents.catalogue) (stored_some change_format p.contents.history.pages) alone.comes bodies_comes alone.beside
      apart_catalogue apart_history alone.apart apart_bodies

  inside_next : AreInside size (reach (planned_root root p) (written p))
  inside_next b is =
      five_of p.directory (pages_in (written p)) (changes_in (written p)) (shown_in (written p)) (bodies_in (written p))
      ((2 ≤ b) × (b < blocks_of_disk size)) b is
      (λ here. inside b (in_directory p b here))
      (λ here. elim (stored_some record_format p.contents.catalogue b here) [ inl was ↦ whole.inside b (old_catalogue_in b (some_kept_catalogue b was)) | inr is_new ↦ inside b (in_catalogue p b is_new) ])
      (λ here. elim (stored_some change_format p.contents.history.pages b here) [ inl was ↦ whole.inside b (old_history_in b (some_kept_history b was)) | inr is_new ↦ inside b (in_history p b is_new) ])
      (λ here. elim (alone.comes b here) [ inl was ↦ whole.inside b (old_catalogue_in b was) | inr shown ↦ whole.inside b (old_published_in b shown) ])
      (λ here. elim (bodies_comes b here) [ inl was ↦ whole.inside b (old_bodies_in b was) | inr is_new ↦ inside b (in_bodies p b is_new) ])

  -- the rules of the lists
  moments_next : AreMoments p.contents.header (written p)
  moments_next =
      let there : AreMoments c.header (written p) = record {
        start = rules.moments.start;
        at = rules.moments.at;
        last = subst (λ (l : List Change). MatchOption (last_of l) (c.header.last ≡ c.header.at) (λ x. c.header.last ≡ max c.header.at x.moment)) (sym same_stored_changes) rules.moments.last;
        kept = rules.moments.kept;
        history = rules.moments.history;
      } in
      subst (λ (h : Header). AreMoments h (written p)) (sym placed.lists.header) there

  whole_next : IsWhole size (planned_root root p) (written p)
  whole_next = record {
    catalogue = are_stored catalogue;
    history = are_stored history;
    published = stored_published;
    moments = moments_next;
    number = placed.lists.first ∙ rules.number ∙ sym (ap (λ (h : Header). h.first) placed.lists.header);
    records = subst (λ (h : Header). All (IsSoundRecord h.start h.last) (records_of (stored record_format p.contents.catalogue))) (sym placed.lists.header)
        (subst (All (IsSoundRecord c.header.start c.header.last)) (sym same_stored_records) records);
    changes = subst (λ (h : Header). All (IsSoundChange h.begin h.last) (changes_of (stored change_format p.contents.history.pages))) (sym placed.lists.header)
        (subst (All (IsSoundChange c.header.begin c.header.last)) (sym same_stored_changes) rules.changes);
    listed = subst (λ (h : Header). All (IsSoundRecord h.start h.at) (records_of p.contents.published)) (sym placed.lists.header)
        (subst (λ (pages : List (Page Record)). All (IsSoundRecord c.header.start c.header.at) (records_of pages)) (sym placed.lists.published) rules.listed);
    directory = sized_directory;
    apart = apart_again p.directory (pages_in (written p)) (changes_in (written p)) (shown_in (written p)) (bodies_in (written p)) separate;
    published_apart = apart_published;
    inside = inside_next;
  }

  -- the parts, in turn
  after_is : c ≡ lists_after old command moment p.bodies.items
  after_is = is_after ∙ ap (lists_after old command moment) (sym placed.bodies_are)

  in_turn : TakesInTurn (rooted size root old) command moment p
  in_turn = record {
    used = used;
    after_bodies = used₁;
    are_used = are_used;
    bodies = subst (λ (l : List Extent). TakesEach used (bodies_needed (bodies_of_command command)) l used₁) (sym placed.bodies_are) takes;
    unplaced = subst AreUnplaced after_is unplaced;
    placed = subst (λ (x : Contents). HasItsPlaces used₁ p.bodies.items x p) after_is (subst (λ (l : List Extent). HasItsPlaces used₁ l c p) (sym placed.bodies_are) placed);
  }

  -- the blocks that it takes and gives back
  blocks : TakesAndGives (rooted size root old) p
  blocks =
      takes_and_gives size root old p p.freed.items was (λ k is. (whole.inside k is).0)
      (gives_parts root old c p was (placed_refs record_format used₁ placed.lists.after_catalogue c.catalogue p.contents.catalogue placed.lists.catalogue)
      (placed_refs change_format placed.lists.after_catalogue placed.lists.after_history c.history.pages p.contents.history.pages placed.lists.history) same_stored_records placed.lists.published
      p.bodies.items p.freed.items gone) taken_is refl

  pub planned : IsPlanned (rooted size root old) command moment p
  planned = record {
    next = next_placed;
    reply = reply;
    in_turn = in_turn;
    free = free;
    apart = taken.apart;
    inside = inside;
    catalogue = placed.lists.untouched_catalogue;
    history = placed.lists.untouched_history;
    bodies = subst (λ (l : List Extent). AllZip (λ extent bytes. IsSized extent (length bytes)) l (bodies_of_command command)) (sym placed.bodies_are)
        (sized_each (bodies_of_command command) used used₁ extents takes);
    directory = sized_directory;
    listable = listable_next;
    whole = whole_next;
    blocks = blocks;
  }
