-- The end of the head of a request.
use Rattle.std.specs.Prelude.{◌≡◌, ◌==◌, ◌&&◌, ◌||◌, ℕ, ◌-◌, ◌<◌, ◌≤◌, nat_le, Bool, true, false, List, length, slice_index}
use Rattle.rs_http.specs.declared.head.HeadRead.{HeadRead}
use Rattle.rs_http.specs.declared.head.HeadRead.TheVariants.{Whole, TooLong, Ended}

-- the longest head, in bytes
abbrev pub head_limit : ℕ
head_limit = 8192

-- the first n bytes end in LF LF or in LF CR LF (10 is LF, 13 is CR)
unfoldable pub ends_head : List ℕ → ℕ → Bool
ends_head bytes n =
    nat_le 2 n && (slice_index bytes (n - 1) == 10)
    && ((slice_index bytes (n - 2) == 10)
    || (nat_le 3 n && (slice_index bytes (n - 2) == 13) && (slice_index bytes (n - 3) == 10)))

-- no head ends within these bytes
abbrev pub HasNoEnd : List ℕ → Type 0
HasNoEnd bytes = (k : ℕ) → k ≤ length bytes → ends_head bytes k ≡ false

-- these bytes are a head: they end as one does, and no shorter front does
pub record IsHead (bytes : List ℕ) : Type 0 where
  pub ends : ends_head bytes (length bytes) ≡ true
  pub first : (k : ℕ) → k < length bytes → ends_head bytes k ≡ false

-- The bytes at the front of an input are a head within the limit; or the longest head without its end; or the whole
-- input, which ended within the head.
abbrev pub HeadIs : List ℕ → HeadRead → Type 0
HeadIs bytes Whole = (length bytes ≤ head_limit) × IsHead bytes
HeadIs bytes TooLong = (length bytes ≡ head_limit) × HasNoEnd bytes
HeadIs bytes Ended = (length bytes < head_limit) × HasNoEnd bytes

-- the number of reads of the head that give no byte: one, if the input ended within it
abbrev pub head_reads : HeadRead → ℕ
head_reads Ended = 1
head_reads read = 0
