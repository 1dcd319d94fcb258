-- The content that a reader finds in the documents.
use Rattle.std.specs.Prelude.{ℕ, List, Option}
use Rattle.rs_record.specs.declared.facts.Facts.{Facts}
use Rattle.rs_record.specs.declared.change.Change.{Change}

-- a resource of a Resource List
pub record ListedResource : Type 0 where
  pub name : List ℕ
  pub facts : Facts
  pub moment : ℕ

-- a part that a Resource List Index names: its path, and the moment of its publication
pub record ResourceEntry : Type 0 where
  pub path : List ℕ
  pub at : ℕ

-- a part that a Change List Index names: its path, and its bounds; an open part has only the first
pub record ChangeEntry : Type 0 where
  pub path : List ℕ
  pub start : ℕ
  pub until : Option ℕ

-- a list or an index: the content of its `rs:md`, and its children in order
pub data Document : Type 0 where
  ResourceList : (at : ℕ) → (children : List ListedResource) → Document
  ChangeList : (start : ℕ) → (until : Option ℕ) → (children : List Change) → Document
  ResourceListIndex : (at : ℕ) → (parts : List ResourceEntry) → Document
  ChangeListIndex : (start : ℕ) → (until : Option ℕ) → (parts : List ChangeEntry) → Document
