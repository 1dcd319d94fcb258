-- Lawful bases, and the URI of a resource.
use Rattle.std.specs.Prelude.{ℕ, Bool, not, ◌&&◌, ◌||◌, nat_eq, nat_lt, nat_le, List, ◌++◌, length, drop, codes}
use Rattle.std.specs.List.{list_all, starts_with, ends_with}
use Rattle.rs_record.specs.Bytes.{is_digit, is_letter, is_one_of}

-- a byte of a base after its scheme
abbrev pub is_base_char : ℕ → Bool
is_base_char c = is_letter c || is_digit c || is_one_of (codes ".:/_~-") c

-- this scheme, and at least one byte after it
abbrev pub has_scheme : List ℕ → List ℕ → Bool
has_scheme scheme bytes =
    starts_with nat_eq bytes scheme && nat_lt (length scheme) (length bytes)
    && list_all is_base_char (drop (length scheme) bytes)

-- 8 to 128 bytes: `http://` or `https://` and more, not ending in `/`
abbrev pub is_base : List ℕ → Bool
is_base bytes =
    nat_le 8 (length bytes) && nat_le (length bytes) 128
    && (has_scheme (codes "http://") bytes || has_scheme (codes "https://") bytes) && not (ends_with nat_eq bytes (codes "/"))

-- the URI of a resource
abbrev pub uri : List ℕ → List ℕ → List ℕ
uri base name = base ++ codes "/resource/" ++ name
