-- The lists that a root describes depend only on the blocks that it reaches.
use Rattle.std.proofs.Common.{◌≡◌, ℕ, ◌+◌, ◌*◌, ◌-◌, ◌≤◌, Bool, true, List, [], ◌∷◌, map, get_or, refl, sym, ◌∙◌, ap, ap₂, subst, arith}
use Rattle.std.specs.Prelude.{nat_le, All}
use Rattle.std.proofs.lemmas.Bool.Decides.{nat_tests}
use Rattle.std.proofs.lemmas.List.{get_or-drop}
use Rattle.std.proofs.lemmas.List.Elements.{All-head, All-tail}
use Rattle.rs_extent.specs.Extents.{in_some}
use Rattle.rs_body.specs.Blocks.{part}
use Rattle.rs_body.specs.Outside.{Keeps}
use Rattle.rs_image.proofs.FromBelow.{part_kept, some_first, some_rest, fits_sized, pages_stay}
use Rattle.rs_commit.specs.Commit.{SameBehind}
use Rattle.rs_record.specs.declared.record.Record.{Record}
use Rattle.rs_model.specs.declared.value.Held.{Held}
use Rattle.rs_model.specs.Listed.{entry_of}
use Rattle.rs_page.specs.Items.{record_format, change_format}
use Rattle.rs_page.specs.Pages.{stored_refs}
use Rattle.rs_catalogue.specs.Catalogue.{records_of}
use Rattle.rs_catalogue.specs.Laws.{CatalogueStays}
use Rattle.rs_changes.specs.Laws.{HistoryStays}
use Rattle.rs_image.specs.Reach.{bodies_of}
use Rattle.rs_image.specs.Whole.{IsWhole, IsSoundRecord}
use Rattle.rs_image.specs.StateOfImage.{held_in, state_in}
use Rattle.rs_image.specs.Laws.{TellsStays, TellsBehind}
use Rattle.rs_image.proofs.Reaching.{reaches_directory, reaches_catalogue, reaches_history, reaches_bodies, reaches_published}

-- pages of records, and of changes
pub catalogue_stays : CatalogueStays
catalogue_stays kept refs old new pages inside keeps holds =
    record { hold = pages_stay record_format kept refs old new pages inside keeps holds.hold; held = holds.held }

pub history_stays : HistoryStays
history_stays kept refs old new pages inside keeps holds =
    record { hold = pages_stay change_format kept refs old new pages inside keeps holds.hold; kept = holds.kept }

-- the records with their bodies
pub held_stays : (kept : ℕ → Bool) (low high : ℕ) (records : List Record) (old new : List ℕ) → All (IsSoundRecord low high) records
    → ((b : ℕ) → in_some (bodies_of records) b ≡ true → kept b ≡ true) → Keeps kept old new → map (held_in new) records ≡ map (held_in old) records
held_stays kept low high [] old new sound all keeps = refl
held_stays kept low high (r ∷ records) old new sound all keeps =
    let one = All-head (IsSoundRecord low high) r records sound in
    let body : part r.extent r.length new ≡ part r.extent r.length old =
    part_kept kept r.extent r.length (fits_sized r.extent r.length one.sized) (λ b is. all b (some_first r.extent (bodies_of records) b is)) old new keeps in
    let held : held_in new r ≡ held_in old r = ap (λ (bytes : List ℕ). (r.name, record { bytes = bytes; entry = (entry_of r).1 })) body in
    ap₂ (λ (one : List ℕ × Held) (more : List (List ℕ × Held)). one ∷ more) held
    (held_stays kept low high records old new (All-tail (IsSoundRecord low high) r records sound)
    (λ b is. all b (some_rest r.extent (bodies_of records) b is)) keeps)

-- A root describes the same lists while the blocks that it reaches stay the same.
pub tells_stays : TellsStays
tells_stays kept root c old new s all keeps told =
    let directory : part root.directory root.length new ≡ part root.directory root.length old =
    part_kept kept root.directory root.length (fits_sized root.directory root.length told.whole.directory)
    (λ b is. all b (reaches_directory root c b is)) old new keeps in
    let held : map (held_in new) (records_of c.catalogue) ≡ map (held_in old) (records_of c.catalogue) =
    held_stays kept c.header.start c.header.last (records_of c.catalogue) old new told.whole.records (λ b is. all b (reaches_bodies root c b is)) keeps in
    let state : state_in new c ≡ state_in old c = ap (λ (held : List (List ℕ × Held)). record (state_in old c) { held = held }) held in
    record {
      listable = told.listable;
      directory = directory ∙ told.directory;
      digest = told.digest;
      catalogue = catalogue_stays kept (stored_refs c.catalogue) old new _ (λ b is. all b (reaches_catalogue root c b is)) keeps told.catalogue;
      history = history_stays kept (stored_refs c.history.pages) old new _ (λ b is. all b (reaches_history root c b is)) keeps told.history;
      published = catalogue_stays kept (stored_refs c.published) old new _ (λ b is. all b (reaches_published root c b is)) keeps told.published;
      whole = subst (λ (size : ℕ). IsWhole size root c) (sym keeps.size) told.whole;
      state = state ∙ told.state;
    }

-- the blocks after the slots
abbrev pub is_behind : ℕ → Bool
is_behind b = nat_le 2 b

behind_true : (b : ℕ) → 2 ≤ b → is_behind b ≡ true
behind_true b le = grind (arith, nat_tests)

behind_from : (b : ℕ) → is_behind b ≡ true → 2 ≤ b
behind_from b is = grind (arith, nat_tests)

-- they hold the same where all blocks after the slots are the same
pub keeps_behind : (one two : List ℕ) → SameBehind one two → Keeps is_behind one two
keeps_behind one two same = record { size = sym same.size; same = λ b i is lt. let above : 2 ≤ b = behind_from b is in there (512 * b + i) (omega arith) }
  where
    there : (k : ℕ) → 1024 ≤ k → get_or two k 0 ≡ get_or one k 0
    there k le =
        let place : 1024 + (k - 1024) ≡ k = omega arith in
        let at : get_or two (1024 + (k - 1024)) 0 ≡ get_or one (1024 + (k - 1024)) 0 =
        sym (get_or-drop 1024 two (k - 1024) 0) ∙ ap (λ (bytes : List ℕ). get_or bytes (k - 1024) 0) (sym same.bytes) ∙ get_or-drop 1024 one (k - 1024) 0 in
        subst (λ (j : ℕ). get_or two j 0 ≡ get_or one j 0) place at

-- So it describes the same lists while all blocks after the slots stay the same.
pub tells_behind : TellsBehind
tells_behind root c one two s same told =
    tells_stays is_behind root c one two s (λ b is. behind_true b (told.whole.inside b is).0) (keeps_behind one two same) told
