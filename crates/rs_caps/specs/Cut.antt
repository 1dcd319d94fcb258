-- Cutting a text into its values: the bytes before a mark, the bytes after some others, the lines of a text, the five
-- references of XML undone, and decimal numbers.
use Rattle.std.specs.Prelude.{ℕ, zero, suc, Bool, true, false, ◌&&◌, ◌||◌, not, ◌==◌, if◌then◌else◌, List, [], ◌∷◌, length, codes, Option, Some, None}
use Rattle.std.specs.List.{list_all}
use Rattle.rs_time.specs.ReadMoment.{number_after}
use Rattle.rs_record.specs.Bytes.{is_digit}
-- the next step of a reading, the bytes after some others, and the bytes before a mark
pub use Rattle.rs_fixity.specs.Cut.{◌>>=◌, with_first}
unfoldable pub use Rattle.rs_fixity.specs.Cut.{strip, cut}

-- the result of this reading, or that of the other reading where this one has no result
infixr 4 ◌or_else◌
abbrev pub ◌or_else◌ : {A : Type 0} → Option A → Option A → Option A
None or_else b = b
(Some x) or_else b = Some x

-- there are no bytes
abbrev pub is_empty : List ℕ → Bool
is_empty [] = true
is_empty (c ∷ text) = false

-- a value, where no byte is left after it
abbrev pub whole : {A : Type 0} → A → List ℕ → Option A
whole x rest = if is_empty rest then Some x else None

-- a value up to a mark, and the rest from the mark on
abbrev pub value_to : {A : Type 0} → ℕ → (List ℕ → Option A) → List ℕ → Option (A × List ℕ)
value_to mark read text = read (cut mark text).0 >>= λ x. Some (x, (cut mark text).1)

-- a value between these bytes and a mark, and the rest from the mark on
abbrev pub value_after : {A : Type 0} → List ℕ → ℕ → (List ℕ → Option A) → List ℕ → Option (A × List ℕ)
value_after before mark read text = strip before text >>= λ rest. value_to mark read rest

-- a value, where these bytes are all that is left after it
abbrev pub ending : {A : Type 0} → List ℕ → A → List ℕ → Option A
ending last x text = strip last text >>= λ rest. whole x rest

-- one more byte before these lines: a line feed ends a line, and any other byte goes into the first line
abbrev pub onto_lines : Bool → ℕ → Option (List (List ℕ)) → Option (List (List ℕ))
onto_lines feed c None = None
onto_lines true c (Some lines) = Some ([] ∷ lines)
onto_lines false c (Some []) = None
onto_lines false c (Some (l ∷ lines)) = Some ((c ∷ l) ∷ lines)

-- the lines of a text: all of them, the last too, end with a line feed (byte 10)
unfoldable pub lines_of : List ℕ → Option (List (List ℕ))
lines_of [] = Some []
lines_of (c ∷ text) = onto_lines (c == 10) c (lines_of text)

-- the character c, where the text goes on with the rest of its reference, and the text after it
abbrev pub reference_to : ℕ → List ℕ → List ℕ → Option (ℕ × List ℕ)
reference_to c name text = strip name text >>= λ rest. Some (c, rest)

-- the character of a reference of which the `&` is read already, and the text after it
abbrev pub reference : List ℕ → Option (ℕ × List ℕ)
reference text =
    reference_to 38 (codes "amp;") text or_else reference_to 39 (codes "apos;") text or_else reference_to 34 (codes "quot;") text
    or_else reference_to 62 (codes "gt;") text or_else reference_to 60 (codes "lt;") text

-- one character: an `&` (byte 38) begins a reference, and `'`, `"`, `>` and `<` are written by references only
abbrev pub character : ℕ → List ℕ → Option (ℕ × List ℕ)
character c text =
    if c == 38 then reference text
    else if (c == 39) || (c == 34) || (c == 62) || (c == 60) then None else Some (c, text)

-- the characters of a text, in at most this many turns
unfoldable pub characters : ℕ → List ℕ → Option (List ℕ)
characters turns [] = Some []
characters zero (c ∷ text) = None
characters (suc turns) (c ∷ text) = character c text >>= λ one. characters turns one.1 >>= λ rest. Some (one.0 ∷ rest)

-- a text with its references undone
abbrev pub unescape : List ℕ → Option (List ℕ)
unescape text = characters (length text) text

-- decimal digits, at least one, and no `0` before another
abbrev pub is_number : List ℕ → Bool
is_number [] = false
is_number (c ∷ cs) = (is_empty cs || not (c == 48)) && list_all is_digit (c ∷ cs)

-- a decimal number
unfoldable pub read_number : List ℕ → Option ℕ
read_number text = if is_number text then Some (number_after 0 text) else None
