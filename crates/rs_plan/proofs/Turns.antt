-- The state of lists, and the state after a publication.
use Rattle.std.proofs.Common.{◌≡◌, ℕ, List, [], ◌∷◌, map, Option, Some, None, refl, ◌∙◌, ap, ap₂}
use Rattle.std.specs.Prelude.{is_some, option_map}
use Rattle.rs_record.specs.declared.record.Record.{Record}
use Rattle.rs_record.specs.declared.change.Change.{Change}
use Rattle.rs_catalogue.specs.Catalogue.{records_of}
use Rattle.rs_catalogue.specs.Named.{named}
use Rattle.rs_plan.proofs.FromBelow.{value-map_values}
use Rattle.rs_directory.specs.declared.header.Header.{Header}
use Rattle.rs_model.specs.declared.value.Entry.{Entry}
use Rattle.rs_model.specs.declared.value.Held.{Held}
use Rattle.rs_model.specs.declared.command.Command.TheVariants.{Publish}
use Rattle.rs_model.specs.State.{Source, entries}
use Rattle.rs_model.specs.Step.{next_state}
use Rattle.rs_model.specs.Names.{Names, value_of, map_values}
use Rattle.rs_model.specs.Listed.{entry_of}
use Rattle.rs_pages.specs.Dropped.{DropsAsOne}
use Rattle.rs_image.specs.declared.contents.Contents.{Contents}
use Rattle.rs_image.specs.StateOfImage.{held_in, state_in}
use Rattle.rs_plan.specs.Allowed.{changes_dropped}
use Rattle.rs_plan.specs.Published.{published_header, lists_after_publish}

-- the held resource of a record in an image
abbrev pub shown_in : List ℕ → Record → Held
shown_in image r = (held_in image r).1

-- the records in an image are the held resources by their names
pub held_shown : (image : List ℕ) (records : List Record) → map (held_in image) records ≡ map_values (shown_in image) (named records)
held_shown image [] = refl
held_shown image (r ∷ records) = ap (λ rest. held_in image r ∷ rest) (held_shown image records)

-- a name is held in an image where a record has it
pub some_mapped : {A B : Type 0} (f : A → B) (o : Option A) → is_some (option_map f o) ≡ is_some o
some_mapped f None = refl
some_mapped f (Some x) = refl

pub held_named : (image : List ℕ) (name : List ℕ) (records : List Record) → is_some (value_of name (map (held_in image) records)) ≡ is_some (value_of name (named records))
held_named image name records =
    ap (λ held. is_some (value_of name held)) (held_shown image records) ∙ ap is_some (value-map_values (shown_in image) name (named records))
    ∙ some_mapped (shown_in image) (value_of name (named records))

-- the entries of the held resources in an image are those of the records
pub entries_shown : (image : List ℕ) (records : List Record) → map entry_of records ≡ entries (map (held_in image) records)
entries_shown image [] = refl
entries_shown image (r ∷ records) = ap (λ rest. entry_of r ∷ rest) (entries_shown image records)

-- the state from a header, held resources, changes and published entries
abbrev pub state_with : Header → Names Held → List Change → Names Entry → Source
state_with h held changes listed =
    record {
      base = h.base;
      limit = h.limit;
      start = h.start;
      last = h.last;
      held = held;
      changes = changes;
      number = h.number;
      at = h.at;
      listed = listed;
      first = h.first;
      begin = h.begin;
    }

pub same_state : (h h' : Header) (held held' : Names Held) (changes changes' : List Change) (listed listed' : Names Entry) → h ≡ h' → held ≡ held' → changes ≡ changes' → listed ≡ listed'
    → state_with h held changes listed ≡ state_with h' held' changes' listed'
same_state h h' held held' changes changes' listed listed' e f g i =
    ap (λ x. state_with x held changes listed) e ∙ ap (λ x. state_with h' x changes listed) f ∙ ap (λ x. state_with h' held' x listed) g ∙ ap (λ x. state_with h' held' changes' x) i

-- a publish
pub publish_turns : (old : Contents) (moment : ℕ) → DropsAsOne Change → (image : List ℕ)
    → state_in image (lists_after_publish old moment) ≡ next_state (state_in image old) Publish moment
publish_turns old moment drops image =
    let rs : List Record = records_of old.catalogue in
    ap₂ (λ (cs : List Change) (listed : Names Entry). state_with (published_header old moment) (map (held_in image) rs) cs listed)
    (drops (changes_dropped old) old.history.pages) (entries_shown image rs)
