-- The blocks that a command needs, and the definition of a disk that lacks them.
use Rattle.std.specs.Prelude.{◌≡◌, ◌⊎◌, ◌≤◌, ◌+◌, ◌++◌, ℕ, Bool, true, not, is_some, if◌then◌else◌, List, [], ◌∷◌, length, map, filter, bytes_eq}
use Rattle.std.specs.List.{list_any}
use Rattle.rs_extent.specs.declared.Extent.{Extent}
use Rattle.rs_extent.specs.Blocks.{IsFreeRun, IsLowest, Sets}
use Rattle.rs_body.specs.Blocks.{blocks_of}
use Rattle.rs_model.specs.declared.command.Command.{Command}
use Rattle.rs_model.specs.declared.command.Command.TheVariants.{Put, Delete, Publish, Group}
use Rattle.rs_model.specs.declared.command.Item.{Item}
use Rattle.rs_model.specs.declared.command.Item.TheVariants as single
use Rattle.rs_model.specs.Grouping.{name_of}
use Rattle.rs_page.specs.Format.{ItemFormat}
use Rattle.rs_page.specs.Items.{record_format, change_format}
use Rattle.rs_page.specs.Pages.{Page, stored_ref, blocks_needed}
use Rattle.rs_directory.specs.Directory.{directory_length}
use Rattle.rs_image.specs.declared.contents.Contents.{Contents}

-- n blocks, where there are some, take the lowest run of that many
pub record Takes (used : List Bool) (n : ℕ) (extent : Extent) (used' : List Bool) : Type 0 where
  pub blocks : extent.blocks ≡ n
  pub nowhere : n ≡ 0 → extent.first ≡ 0
  pub lowest : 1 ≤ n → IsLowest used n extent
  pub sets : Sets used used' extent true

-- n blocks, where there are some, are the lowest run of that many
pub record IsFoundRun (used : List Bool) (n : ℕ) (extent : Extent) : Type 0 where
  pub blocks : extent.blocks ≡ n
  pub nowhere : n ≡ 0 → extent.first ≡ 0
  pub lowest : 1 ≤ n → IsLowest used n extent

-- there are some blocks to take, and no run of that many
abbrev pub HasNoRun : List Bool → ℕ → Type 0
HasNoRun used n = (1 ≤ n) × ((first : ℕ) → IsFreeRun used first n → ⊥)

-- runs of these lengths are taken one after another, each the lowest of its own length, and the next one has no run
abbrev pub HasNoRoom : List Bool → List ℕ → Type 0
HasNoRoom used [] = ⊥
HasNoRoom used (n ∷ ns) = HasNoRun used n ⊎ ((used' : List Bool) × (extent : Extent) × Takes used n extent used' × HasNoRoom used' ns)

-- the numbers of blocks of the pages that are not stored
abbrev pub pages_needed : {T : Type 0} → ItemFormat T → List (Page T) → List ℕ
pages_needed format pages = map (λ page. blocks_needed format page.items) (filter (λ page. not (is_some (stored_ref page.place))) pages)

-- the numbers of blocks of the pages and the directory of these lists, in the order in which they are found
abbrev pub lists_needed : Contents → List ℕ
lists_needed c =
    pages_needed record_format c.catalogue ++ pages_needed change_format c.history.pages
    ++ blocks_of (directory_length c.header (length c.catalogue + length c.history.pages + length c.published)) ∷ []

-- a later item of a group has this name
abbrev pub is_named_in : List ℕ → List Item → Bool
is_named_in name items = list_any (λ item. bytes_eq name (name_of item)) items

-- the bodies of a group that no later item of it replaces or deletes, in the order of the items
abbrev pub bodies_kept : List Item → List (List ℕ)
bodies_kept [] = []
bodies_kept (single.Put name kind bytes ∷ items) = if is_named_in name items then bodies_kept items else bytes ∷ bodies_kept items
bodies_kept (single.Delete name ∷ items) = bodies_kept items

-- the bodies that a command writes, in the order of writing
abbrev pub bodies_of_command : Command → List (List ℕ)
bodies_of_command (Put name kind bytes) = bytes ∷ []
bodies_of_command (Delete name) = []
bodies_of_command Publish = []
bodies_of_command (Group items) = bodies_kept items

-- the numbers of blocks of these bodies
abbrev pub bodies_needed : List (List ℕ) → List ℕ
bodies_needed bodies = map (λ bytes. blocks_of (length bytes)) bodies

-- runs of these lengths are taken one after another, each the lowest of its own length
abbrev pub TakesEach : List Bool → List ℕ → List Extent → List Bool → Type 0
TakesEach used [] [] after = after ≡ used
TakesEach used (n ∷ ns) (extent ∷ extents) after = (used' : List Bool) × Takes used n extent used' × TakesEach used' ns extents after
TakesEach used [] (extent ∷ extents) after = ⊥
TakesEach used (n ∷ ns) [] after = ⊥
