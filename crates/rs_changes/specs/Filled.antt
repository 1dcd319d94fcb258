-- Changes, the last of which got digests.
use Rattle.std.specs.Prelude.{List}
use Rattle.rs_fixity.specs.declared.Digests.{Digests}
use Rattle.rs_record.specs.declared.change.Change.{Change}
use Rattle.rs_page.specs.Items.{change_filled}
use Rattle.rs_page.specs.Pages.{Page}
use Rattle.rs_pages.specs.Filled.{end_filled, last_filled}

-- the changes, where the last one, if it exists, has these digests
abbrev pub fill_end : Digests → List Change → List Change
fill_end digests changes = end_filled (change_filled digests) changes

-- the same for the last page; all pages stay in their places
abbrev pub history_filled : Digests → List (Page Change) → List (Page Change)
history_filled digests pages = last_filled (change_filled digests) pages
