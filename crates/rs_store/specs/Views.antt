-- The data that a view shows of a source.
use Rattle.rs_catalogue.specs.Catalogue.{records_of}
use Rattle.rs_changes.specs.History.{changes_of}
use Rattle.rs_image.specs.declared.contents.Contents.{Contents}
use Rattle.rs_lists.specs.Shown.{Shown}
use Rattle.rs_store.specs.declared.view.SourceView.{SourceView}

-- the latest publication and the changes that are kept
abbrev pub shown_in : Contents → Shown
shown_in c =
    record {
      base = c.header.base;
      limit = c.header.limit;
      start = c.header.start;
      number = c.header.number;
      at = c.header.at;
      published = records_of c.published;
      changes = changes_of c.history.pages;
      first = c.header.first;
      begin = c.header.begin;
    }

abbrev pub shown_by_source : {D : Type 0} → SourceView D → Shown
shown_by_source view = shown_in view.source.now.contents
