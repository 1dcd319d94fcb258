-- The blocks that the root after a command no longer reaches.
use Rattle.std.specs.Prelude.{cond, ℕ, List, [], ◌∷◌, ◌++◌, Option, Some, None}
use Rattle.std.specs.List.{cons_option, list_any}
use Rattle.rs_extent.specs.declared.Extent.{Extent}
use Rattle.rs_record.specs.declared.record.Record.{Record}
use Rattle.rs_page.specs.declared.place.PageRef.{PageRef}
use Rattle.rs_page.specs.Pages.{same_page, stored_refs, extents_of}
use Rattle.rs_pages.specs.Rule.{home}
use Rattle.rs_pages.specs.Dropped.{front_pages}
use Rattle.rs_pages.specs.Entries.{entry_at, open_entry}
use Rattle.rs_catalogue.specs.Catalogue.{records_of}
use Rattle.rs_catalogue.specs.Named.{named}
use Rattle.rs_model.specs.Names.{value_of}
use Rattle.rs_model.specs.declared.command.Item.{Item}
use Rattle.rs_image.specs.declared.contents.Contents.{Contents}
use Rattle.rs_pages.specs.Storing.{unshared}
use Rattle.rs_image.specs.Reach.{bodies_of}
use Rattle.rs_image.specs.Rooted.{Rooted}
use Rattle.rs_plan.specs.Allowed.{changes_dropped}
use Rattle.rs_plan.specs.Turned.{of_each_item}

-- an entry, unless one of the published pages has it
abbrev pub unpublished : Option PageRef → List PageRef → Option PageRef
unpublished None published = None
unpublished (Some entry) published = cond (list_any (same_page entry) published) None (Some entry)

-- the entry of the catalogue page that a name goes into
abbrev pub entry_of_name : Contents → List ℕ → Option PageRef
entry_of_name c name = entry_at (home (λ (r : Record). r.name) name c.catalogue) c.catalogue

-- the extent of a page, if there is one
abbrev pub extent_of_page : Option PageRef → List Extent
extent_of_page page = extents_of (cons_option page [])

-- the extent of the body of a name, if it has one
abbrev pub extent_of_body : Contents → List ℕ → List Extent
extent_of_body c name = bodies_of (cons_option (value_of name (named (records_of c.catalogue))) [])

-- The blocks, other than the directory's, that a change of a name frees: the touched page of the catalogue where it is
-- not published, ..
abbrev pub freed_page : Contents → List ℕ → List Extent
freed_page c name = extent_of_page (unpublished (entry_of_name c name) (stored_refs c.published))

-- .. the touched page of the history, for every name, and the body that the name had.
abbrev pub freed_history_page : Contents → List ℕ → List Extent
freed_history_page c name = extent_of_page (open_entry c.history.pages)

-- all the blocks that it frees
abbrev pub freed_by_change : Rooted → List ℕ → List Extent
freed_by_change old name =
    old.root.directory ∷ freed_page old.contents name ++ freed_history_page old.contents name ++ extent_of_body old.contents name

-- The blocks that a group frees whose first item comes at this moment, and whose bodies lie in these extents: the
-- directory, and the blocks that every one of its items frees in the lists before it.
abbrev pub freed_by_group : Rooted → List Item → ℕ → List Extent → List Extent
freed_by_group old items moment bodies =
    old.root.directory
    ∷ of_each_item freed_page old.contents items moment bodies ++ of_each_item freed_history_page old.contents items moment bodies
    ++ of_each_item extent_of_body old.contents items moment bodies

-- The blocks that a publication frees: the directory, the pages of the history with a change that it drops, and the
-- published pages that are not catalogue pages.
abbrev pub freed_by_publication : Rooted → List Extent
freed_by_publication old =
    old.root.directory
    ∷ extents_of (stored_refs (front_pages (changes_dropped old.contents) old.contents.history.pages))
    ++ extents_of (unshared (stored_refs old.contents.published) (stored_refs old.contents.catalogue))
