-- A reader and a writer that fail from one call on.
use Rattle.std.specs.Prelude.{ℕ, List}
use Rattle.rs_disk.specs.declared.faulty.FaultyReader.{FaultyReader}
use Rattle.rs_disk.specs.declared.faulty.FaultyWriter.{FaultyWriter}

-- the bytes that a reader has not returned yet
abbrev pub unread : FaultyReader → List ℕ
unread r = r.rest.now

-- the most bytes that it returns in one read
abbrev pub piece_of : FaultyReader → ℕ
piece_of r = r.piece

-- the number of further reads that succeed, after which every read fails
abbrev pub reads_left : FaultyReader → ℕ
reads_left r = r.reads_to_go

-- the bytes that a writer keeps
abbrev pub kept_by : FaultyWriter → List ℕ
kept_by w = w.kept.items

-- the number of further writes that it takes, after which every write fails
abbrev pub writes_left : FaultyWriter → ℕ
writes_left w = w.writes_to_go
