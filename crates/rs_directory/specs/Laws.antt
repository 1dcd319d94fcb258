-- The law that follows from the format of directories alone.
use Rattle.std.specs.Prelude.{◌≡◌, ℕ, List}
use Rattle.rs_page.specs.declared.place.PageRef.{PageRef}
use Rattle.rs_directory.specs.declared.header.Header.{Header}
use Rattle.rs_directory.specs.Directory.{directory_bytes, AreLawful}

-- Bytes are the directory of a version of at most one header and of at most one list of entries per kind.
abbrev pub DirectoryReadsOnce : Type 0
DirectoryReadsOnce = (version : ℕ) (h h' : Header) (catalogue catalogue' changes changes' published published' : List PageRef)
    → AreLawful version h catalogue changes published → AreLawful version h' catalogue' changes' published'
    → directory_bytes version h catalogue changes published ≡ directory_bytes version h' catalogue' changes' published'
    → (h ≡ h') × (catalogue ≡ catalogue') × (changes ≡ changes') × (published ≡ published')
