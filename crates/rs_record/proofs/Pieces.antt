-- Appending piece by piece, and the lengths of the formats.
use Rattle.std.proofs.Common.{◌≡◌, ℕ, ◌≤◌, ◌+◌, List, ◌++◌, length, arith, [], ◌∷◌, append_assoc, ap, sym}
use Rattle.std.specs.List.{concat}
use Rattle.std.proofs.lemmas.List.{length-append, append-nil}
use Rattle.std.specs.Int.{w32, w64, to_be_bytes}
use Rattle.rs_record.specs.Format.{counted_text, record_bytes}
use Rattle.rs_record.specs.declared.record.Record.{Record}

-- with the rest it is the whole, and the whole has room
pub record IsAppended (written rest whole : List ℕ) (size room : ℕ) : Type 0 where
  pub text : written ++ rest ≡ whole
  pub fits : size ≤ room

pub length-record_bytes : (r : Record) → length (record_bytes r) ≡ 22 + length r.name + length r.kind + length r.digests.md5 + length r.digests.sha256
length-record_bytes r = simp length-append (omega arith)

-- pieces that are joined in groups
facts_joined : (n kind len md5 sha256 rest : List ℕ) → concat ((n ++ kind) ∷ len ∷ md5 ∷ sha256 ∷ []) ++ rest ≡ n ++ (kind ++ (len ++ (md5 ++ (sha256 ++ rest))))
facts_joined n kind len md5 sha256 rest = simp (append_assoc, append-nil)

-- the pieces of a record, joined, are its format
pub record_pieces : (r : Record) (name kind len md5 sha256 moment first blocks : List ℕ) → name ≡ r.name → kind ≡ r.kind → len ≡ to_be_bytes w32 r.length → md5 ≡ r.digests.md5 → sha256 ≡ r.digests.sha256
    → moment ≡ to_be_bytes w64 r.moment → first ≡ to_be_bytes w32 r.extent.first → blocks ≡ to_be_bytes w32 r.extent.blocks
    → concat ((length name ∷ []) ∷ name ∷ (length kind ∷ []) ∷ kind ∷ len ∷ md5 ∷ sha256 ∷ moment ∷ first ∷ blocks ∷ []) ≡ record_bytes r
record_pieces r name kind len md5 sha256 moment first blocks e f g h i j k l =
    rw (e, f, g, h, i, j, k, l)
    (ap (λ x. counted_text r.name ++ x) (sym (facts_joined (length r.kind ∷ []) r.kind (to_be_bytes w32 r.length) r.digests.md5 r.digests.sha256 (to_be_bytes w64 r.moment ++ (to_be_bytes w32 r.extent.first ++ (to_be_bytes w32 r.extent.blocks ++ []))))))
