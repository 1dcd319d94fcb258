-- Appending piece by piece, and the lengths of the parts of a directory.
use Rattle.std.proofs.Common.{◌≡◌, ℕ, ◌+◌, ◌*◌, List, [], ◌∷◌, ◌++◌, length, flat_map, All, append_assoc, arith, refl}
use Rattle.std.specs.List.{concat}
use Rattle.std.specs.Int.{w16, w32, w64, to_be_bytes}
use Rattle.std.proofs.lemmas.List.{length-append, append-nil}
use Rattle.std.proofs.lemmas.List.Elements.{All-head, All-tail}
use Rattle.rs_page.specs.declared.place.PageRef.{PageRef}
use Rattle.rs_directory.specs.declared.header.Header.{Header}
use Rattle.rs_directory.specs.Directory.{header_bytes, ref_bytes, written_format, IsLawfulRef}

-- four pieces, one after the other
pub four_joined : (o₀ o₁ o₂ o₃ o₄ a b c d : List ℕ) → o₁ ≡ o₀ ++ a → o₂ ≡ o₁ ++ b → o₃ ≡ o₂ ++ c → o₄ ≡ o₃ ++ d
    → o₄ ≡ o₀ ++ concat (a ∷ b ∷ c ∷ d ∷ [])
four_joined o₀ o₁ o₂ o₃ o₄ a b c d e f g h = rw (h, g, f, e) (simp (append_assoc, append-nil))

-- seven pieces, one after the other
pub seven_joined : (old o₀ o₁ o₂ o₃ o₄ o₅ o₆ o₇ a b c d x y z : List ℕ) → o₀ ≡ old → o₁ ≡ o₀ ++ a → o₂ ≡ o₁ ++ b → o₃ ≡ o₂ ++ c → o₄ ≡ o₃ ++ d
    → o₅ ≡ o₄ ++ x → o₆ ≡ o₅ ++ y → o₇ ≡ o₆ ++ z → o₇ ≡ old ++ concat (a ∷ b ∷ c ∷ d ∷ x ∷ y ∷ z ∷ [])
seven_joined old o₀ o₁ o₂ o₃ o₄ o₅ o₆ o₇ a b c d x y z is e f g h i j k = rw (k, j, i, h, g, f, e, is) (simp (append_assoc, append-nil))

-- nine pieces, one after the other
pub nine_joined : (old o₁ o₂ o₃ o₄ o₅ o₆ o₇ o₈ o₉ a b c d x y z u v : List ℕ) → o₁ ≡ old ++ a → o₂ ≡ o₁ ++ b → o₃ ≡ o₂ ++ c → o₄ ≡ o₃ ++ d → o₅ ≡ o₄ ++ x
    → o₆ ≡ o₅ ++ y → o₇ ≡ o₆ ++ z → o₈ ≡ o₇ ++ u → o₉ ≡ o₈ ++ v → o₉ ≡ old ++ concat (a ∷ b ∷ c ∷ d ∷ x ∷ y ∷ z ∷ u ∷ v ∷ [])
nine_joined old o₁ o₂ o₃ o₄ o₅ o₆ o₇ o₈ o₉ a b c d x y z u v e f g h i j k l m = rw (m, l, k, j, i, h, g, f, e) (simp (append_assoc, append-nil))

-- the pieces of an entry, joined, are its format
pub ref_pieces : (r : PageRef) (first blocks len sha256 : List ℕ) → first ≡ to_be_bytes w32 r.extent.first → blocks ≡ to_be_bytes w32 r.extent.blocks
    → len ≡ to_be_bytes w32 r.length → sha256 ≡ r.sha256 → concat (first ∷ blocks ∷ len ∷ sha256 ∷ []) ≡ ref_bytes r
ref_pieces r first blocks len sha256 e f g h = rw (e, f, g, h) refl

-- the pieces of a header, joined, are its format as it is written
pub header_pieces : (h : Header) (limit base start last number at first begin : List ℕ) → limit ≡ to_be_bytes w16 h.limit → base ≡ h.base → start ≡ to_be_bytes w64 h.start
    → last ≡ to_be_bytes w64 h.last → number ≡ to_be_bytes w64 h.number → at ≡ to_be_bytes w64 h.at
    → first ≡ to_be_bytes w64 h.first → begin ≡ to_be_bytes w64 h.begin
    → concat (limit ∷ (length base ∷ []) ∷ base ∷ start ∷ last ∷ number ∷ at ∷ first ∷ begin ∷ []) ≡ header_bytes written_format h
header_pieces h limit base start last number at first begin e f g i j k l m = rw (e, f, g, i, j, k, l, m) refl

-- a header, as it is written
pub length-header_bytes : (h : Header) → length (header_bytes written_format h) ≡ 51 + length h.base
length-header_bytes h = simp length-append (omega arith)

-- an entry
pub length-ref_bytes : (r : PageRef) → IsLawfulRef r → length (ref_bytes r) ≡ 44
length-ref_bytes r lawful = simp length-append (omega (arith, lawful.sha256))

-- entries
pub length-entries : (refs : List PageRef) → All IsLawfulRef refs → length (flat_map ref_bytes refs) ≡ 44 * length refs
length-entries [] lawful = refl
length-entries (r ∷ refs) lawful =
    omega (
      arith,
      length-append (ref_bytes r) (flat_map ref_bytes refs),
      length-ref_bytes r (All-head IsLawfulRef r refs lawful),
      length-entries refs
          (All-tail IsLawfulRef r refs lawful),
    )
