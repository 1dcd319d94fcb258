-- The lists after a publication.
use Rattle.std.specs.Prelude.{ℕ, ◌+◌, take}
use Rattle.rs_record.specs.Changes.{last_moment}
use Rattle.rs_changes.specs.History.{changes_of, without_parts}
use Rattle.rs_directory.specs.declared.header.Header.{Header}
use Rattle.rs_image.specs.declared.contents.Contents.{Contents}
use Rattle.rs_plan.specs.Allowed.{parts_dropped, changes_dropped}

-- the header of these lists after a publication at this moment
abbrev pub published_header : Contents → ℕ → Header
published_header c moment =
    record c.header {
      last = moment;
      number = c.header.number + 1;
      at = moment;
      first = c.header.first + parts_dropped c;
      begin = last_moment c.header.begin (take (changes_dropped c) (changes_of c.history.pages));
    }

-- the lists after a publication at this moment: the catalogue is published, and the first parts of the history are
-- dropped
abbrev pub lists_after_publish : Contents → ℕ → Contents
lists_after_publish c moment =
    record {
      header = published_header c moment;
      catalogue = c.catalogue;
      history = without_parts (parts_dropped c) c.header.limit c.history;
      published = c.catalogue;
    }
