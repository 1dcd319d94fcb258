-- The lists that a reader gathers from the texts at their paths.
use Rattle.std.specs.Prelude.{ℕ, List, [], ◌∷◌, ◌++◌, map, Option, Some, None, codes}
use Rattle.rs_record.specs.declared.change.Change.{Change}
use Rattle.rs_model.specs.declared.value.Entry.{Entry}
use Rattle.rs_caps.specs.Cut.{◌>>=◌}
use Rattle.rs_caps.specs.Readings.{ListedResource, Document}
use Rattle.rs_caps.specs.Readings.Document.{ResourceList, ChangeList, ResourceListIndex, ChangeListIndex}
use Rattle.rs_caps.specs.Reads.{reads}

-- the children of a Resource List or a part of one
abbrev pub resources_in : Document → Option (List ListedResource)
resources_in (ResourceList at children) = Some children
resources_in (ChangeList start until children) = None
resources_in (ResourceListIndex at parts) = None
resources_in (ChangeListIndex start until parts) = None

-- the children of a Change List or a part of one
abbrev pub changes_in : Document → Option (List Change)
changes_in (ResourceList at children) = None
changes_in (ChangeList start until children) = Some children
changes_in (ResourceListIndex at parts) = None
changes_in (ChangeListIndex start until parts) = None

-- the children of the parts at these paths, in their order
unfoldable pub parts_at : {A : Type 0} → (Document → Option (List A)) → (List ℕ → Option (List ℕ)) → List (List ℕ) → Option (List A)
parts_at children_in fetched [] = Some []
parts_at children_in fetched (path ∷ paths) = do
  text ← fetched path
  part ← reads text
  children ← children_in part
  rest ← parts_at children_in fetched paths
  Some (children ++ rest)

-- the moment of a Resource List, and its children, or those of the parts that its index names
abbrev pub gathered_resources : (List ℕ → Option (List ℕ)) → Document → Option (ℕ × List ListedResource)
gathered_resources fetched (ResourceList at children) = Some (at, children)
gathered_resources fetched (ResourceListIndex at parts) = parts_at resources_in fetched (map (λ p. p.path) parts)
    >>= λ children. Some (at, children)
gathered_resources fetched (ChangeList start until children) = None
gathered_resources fetched (ChangeListIndex start until parts) = None

-- the start of a Change List, and its children, or those of the parts that its index names
abbrev pub gathered_changes : (List ℕ → Option (List ℕ)) → Document → Option (ℕ × List Change)
gathered_changes fetched (ChangeList start until children) = Some (start, children)
gathered_changes fetched (ChangeListIndex start until parts) = parts_at changes_in fetched (map (λ p. p.path) parts)
    >>= λ children. Some (start, children)
gathered_changes fetched (ResourceList at children) = None
gathered_changes fetched (ResourceListIndex at parts) = None

-- the moment of the Resource List and its resources, from the texts fetched at the paths
abbrev pub gather_resources : (List ℕ → Option (List ℕ)) → Option (ℕ × List ListedResource)
gather_resources fetched = fetched (codes "/resourcelist.xml") >>= λ text. reads text >>= λ d. gathered_resources fetched d

-- the start of the Change List and its changes, from the texts fetched at the paths
abbrev pub gather_changes : (List ℕ → Option (List ℕ)) → Option (ℕ × List Change)
gather_changes fetched = fetched (codes "/changelist.xml") >>= λ text. reads text >>= λ d. gathered_changes fetched d

-- a resource of a list, as the map that is mirrored has it
abbrev pub listed_entry : ListedResource → List ℕ × Entry
listed_entry l = (l.name, record { facts = l.facts; moment = l.moment })
