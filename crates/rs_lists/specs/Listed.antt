-- The common form of the Resource List and the Change List: a document of all items, an index of parts, and a part.
use Rattle.std.specs.Prelude.{ℕ, ◌-◌, nat_le, if◌then◌else◌, List, [], ◌∷◌, length, take, drop, map, get_or, codes, None}
use Rattle.rs_lists.specs.Chunks.{parts_of, part_at}
use Rattle.rs_lists.specs.Shown.{Shown}
use Rattle.rs_lists.specs.Text.{joined, document, up_line, part_links, numbers_from, from_of, until_of, resource_md, resource_line, resource_entry, change_md, change_line, change_entry}

-- The differences between the lists: the path of the head, the `rs:md` of the whole list and of a part, the items, and
-- the entry of a part in the index.
pub record Listed : Type 0 where
  pub path : List ℕ
  pub bounds : Shown → List ℕ
  pub part_bounds : Shown → ℕ → List ℕ
  pub items : Shown → List (List ℕ)
  pub entry : Shown → ℕ → List ℕ

-- the Resource List
abbrev pub resources : Listed
resources = record {
  path = codes "/resourcelist.xml";
  bounds = λ s. resource_md s.at;
  part_bounds = λ s k. resource_md s.at;
  items = λ s. map (resource_line s.base) s.published;
  entry = resource_entry;
}

-- the Change List
abbrev pub changes : Listed
changes = record {
  path = codes "/changelist.xml";
  bounds = λ s. change_md s.begin None;
  part_bounds = λ s k. change_md (from_of s k) (until_of s k);
  items = λ s. map (change_line s.base) s.changes;
  entry = change_entry;
}

-- the item at a place, which is below the number of items
abbrev pub item_at : Listed → Shown → ℕ → List ℕ
item_at l s i = get_or (l.items s) i []

-- the number of parts of a list
abbrev pub parts_in : Listed → Shown → ℕ
parts_in l s = parts_of (length (l.items s)) s.limit

-- the lines of the items from one place up to another
abbrev pub item_lines : Listed → Shown → ℕ → ℕ → List ℕ
item_lines l s from to = joined (take (to - from) (drop from (l.items s)))

-- the entries of all parts
abbrev pub entries : Listed → Shown → List (List ℕ)
entries l s = map (l.entry s) (numbers_from 0 (parts_in l s))

-- all items in one document
abbrev pub whole_text : Listed → Shown → List ℕ
whole_text l s = document (codes "urlset") (up_line s.base ∷ []) (l.bounds s) (l.items s)

-- the index of the parts
abbrev pub index_text : Listed → Shown → List ℕ
index_text l s = document (codes "sitemapindex") (up_line s.base ∷ []) (l.bounds s) (entries l s)

-- the head: the whole list if it makes at most one part, else the index
abbrev pub head_text : Listed → Shown → List ℕ
head_text l s = if nat_le (parts_in l s) 1 then whole_text l s else index_text l s

-- part k
abbrev pub part_text : Listed → Shown → ℕ → List ℕ
part_text l s k = document (codes "urlset") (part_links s l.path) (l.part_bounds s k) (part_at k s.limit (l.items s))
