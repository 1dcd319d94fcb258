-- The format of an item with other digests.
use Rattle.std.proofs.Common.{◌≡◌, ◌<◌, ℕ, List, length, get_or, refl, arith}
use Rattle.std.specs.Prelude.{slice_get, IfSome}
use Rattle.std.proofs.lemmas.Option.{slice_get_read}
use Rattle.std.proofs.lemmas.List.{length-append}
use Rattle.rs_fixity.specs.declared.Digests.{Digests}
use Rattle.rs_record.specs.declared.record.Record.{Record}
use Rattle.rs_record.specs.Format.{record_bytes}
use Rattle.rs_page.specs.Items.{record_filled}

-- the format of a record stays as long
pub record_as_long : (digests : Digests) (r : Record) → length digests.md5 ≡ 16 → length digests.sha256 ≡ 32 → length r.digests.md5 ≡ 16 → length r.digests.sha256 ≡ 32
    → length (record_bytes (record_filled digests r)) ≡ length (record_bytes r)
record_as_long digests r a b c d = simp length-append (omega arith)

-- a property of the item at a place
pub at_place : {T : Type 0} (items : List T) (i : ℕ) (x : T) (P : T → Type 0) → i < length items → x ≡ get_or items i x → P x → IfSome (slice_get items i) P
at_place items i x P inside is p = rw (slice_get_read items (length items) i x refl inside is) p
