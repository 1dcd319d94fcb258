-- The grammars of names and media types, rule by rule as the standards have them. The tests in Name and MediaType go
-- byte by byte; laws say that they accept these texts and no others.
use Rattle.std.specs.Prelude.{◌≡◌, ◌≢◌, ℕ, ◌≤◌, List, [], ◌∷◌, ◌++◌, length, codes, IsTrue}
use Rattle.std.specs.List.{list_all}
use Rattle.rs_record.specs.Bytes.{is_between, is_hex}
use Rattle.rs_record.specs.Name.{is_plain}
use Rattle.rs_record.specs.MediaType.{is_tchar}

-- Any number of `pchar` (RFC 3986, 3.3): plain bytes, and `%` with two hexadecimal digits (2.1).
pub data ArePchars : List ℕ → Type 0 where
  none : ArePchars []
  plain : {c : ℕ} {rest : List ℕ} → IsTrue (is_plain c) → ArePchars rest → ArePchars (c ∷ rest)
  encoded : {percent a b : ℕ} {rest : List ℕ} → percent ≡ 37 → IsTrue (is_hex a) → IsTrue (is_hex b) → ArePchars rest → ArePchars (percent ∷ a ∷ b ∷ rest)

-- A segment that is not empty (`segment-nz`) and no dot segment (RFC 3986, 3.3).
pub record IsSegment (text : List ℕ) : Type 0 where
  pub pchars : ArePchars text
  pub some : text ≢ []
  pub dot : text ≢ codes "."
  pub dots : text ≢ codes ".."

-- One such segment or more, joined by `/` (`path-rootless`, RFC 3986, 3.3).
pub data IsPath : List ℕ → Type 0 where
  one : {text : List ℕ} → IsSegment text → IsPath text
  more : {text first rest : List ℕ} → text ≡ first ++ (codes "/" ++ rest) → IsSegment first → IsPath rest → IsPath text

-- A token: at least one byte of a token, and no other (RFC 9110, 5.6.2).
pub record IsToken (text : List ℕ) : Type 0 where
  pub some : text ≢ []
  pub chars : IsTrue (list_all is_tchar text)

-- A type, `/`, a subtype and the bytes after them (RFC 9110, 8.3.1).
pub record IsTyped (text : List ℕ) : Type 0 where
  pub kind : List ℕ
  pub subtype : List ℕ
  pub rest : List ℕ
  pub parts : text ≡ kind ++ (codes "/" ++ (subtype ++ rest))
  pub kind_token : IsToken kind
  pub subtype_token : IsToken subtype

-- A name: a path of at most 240 bytes.
pub record IsNameText (text : List ℕ) : Type 0 where
  pub most : length text ≤ 240
  pub path : IsPath text

-- A media type: 3 to 100 bytes, all printable, typed, the last one no space.
pub record IsMediaTypeText (text : List ℕ) : Type 0 where
  pub least : 3 ≤ length text
  pub most : length text ≤ 100
  pub printable : IsTrue (list_all (is_between 32 126) text)
  pub typed : IsTyped text
  pub last : (front : List ℕ) → text ≢ front ++ codes " "
