-- A source: the resources held, the changes and the latest publication.
use Rattle.std.specs.Prelude.{ℕ, List, [], length, Option, option_map}
use Rattle.rs_record.specs.declared.facts.Facts.{Facts}
use Rattle.rs_record.specs.declared.change.Change.{Change}
use Rattle.rs_fixity.specs.Digests.{digests}
use Rattle.rs_model.specs.declared.value.Entry.{Entry}
use Rattle.rs_model.specs.declared.value.Held.{Held}
use Rattle.rs_record.specs.Limits.{most_items}
use Rattle.rs_model.specs.Names.{Names, value_of, map_values}

-- the greatest number of resources that are held
abbrev pub most_resources : ℕ
most_resources = most_items

-- the greatest number of changes that are kept
abbrev pub most_changes : ℕ
most_changes = most_items

-- the greatest number of items of a group
abbrev pub most_grouped : ℕ
most_grouped = 16

-- A source: its base and item limit, the moments of its formatting and of its latest accepted command, the held
-- resources, the kept changes in the order in which they came, its latest publication, and where the kept history
-- begins: the number of its first part, and the moment of the last change before it, or of formatting.
pub record Source : Type 0 where
  pub base : List ℕ
  pub limit : ℕ
  pub start : ℕ
  pub last : ℕ
  pub held : Names Held
  pub changes : List Change
  pub number : ℕ
  pub at : ℕ
  pub listed : Names Entry
  pub first : ℕ
  pub begin : ℕ

-- the facts of a body: its type, its length and its digests
abbrev pub facts_of : List ℕ → List ℕ → Facts
facts_of kind bytes = record { kind = kind; length = length bytes; digests = digests bytes }

-- the entries of the held resources
abbrev pub entries : Names Held → Names Entry
entries held = map_values (λ h. h.entry) held

-- the bytes of a name that is held
abbrev pub body_of : List ℕ → Source → Option (List ℕ)
body_of name s = option_map (λ h. h.bytes) (value_of name s.held)

-- a source formatted at this moment: no held resources, no changes, and the empty list published as number 0
abbrev pub start_of : List ℕ → ℕ → ℕ → Source
start_of base limit moment =
    record {
      base = base;
      limit = limit;
      start = moment;
      last = moment;
      held = [];
      changes = [];
      number = 0;
      at = moment;
      listed = [];
      first = 0;
      begin = moment;
    }
