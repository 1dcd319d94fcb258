-- The bytes of an extent, piece after piece.
use Rattle.std.proofs.Common.{◌≡◌, ℕ, ◌+◌, ◌*◌, List, ◌++◌, length, take, drop, sym, ◌∙◌, ap, ap₂, IsTrue}
use Rattle.std.proofs.lemmas.List.{take-append-drop}
use Rattle.std.proofs.Math.Seq.{take-add, drop-drop}
use Rattle.rs_disk.specs.Medium.{Medium, DiskState}
use Rattle.rs_extent.specs.declared.Extent.{Extent}
use Rattle.rs_extent.specs.Blocks.{block_size}
use Rattle.rs_body.specs.Blocks.{part}
use Rattle.rs_body.specs.Reading.{HasNextPiece}

-- The bytes read after the first ones follow them.
pub piece_behind : (e : Extent) (at n : ℕ) (bytes : List ℕ) → part e (at + n) bytes ≡ part e at bytes ++ take n (drop (block_size * e.first + at) bytes)
piece_behind e at n bytes =
    take-add at n (drop (block_size * e.first) bytes) ∙ ap (λ (l : List ℕ). part e at bytes ++ take n l) (drop-drop at (block_size * e.first) bytes)

-- Bytes with a piece at their end are the bytes before it and the piece.
pub with_piece : (e : Extent) (end : ℕ) (old new : DiskState) (before after : List ℕ) → HasNextPiece e end old new before after → before ++ drop (length before) after ≡ after
with_piece e end old new before after next = ap (λ (l : List ℕ). l ++ drop (length before) after) (sym next.front) ∙ take-append-drop (length before) after

-- If those were the front of the extent, so are these.
pub front_with_piece : (e : Extent) (at end : ℕ) (old mid new : DiskState) (before after : List ℕ) → mid.now ≡ old.now → length before ≡ at → HasNextPiece e end mid new before after
    → before ≡ part e at old.now.seen → IsTrue new.honest → after ≡ part e end old.now.seen
front_with_piece e at end old mid new before after same long next front honest =
    sym (with_piece e end mid new before after next) ∙ ap (λ (l : List ℕ). l ++ drop (length before) after) (front ∙ ap₂ (λ (k : ℕ) (m : Medium). part e k m.seen) (sym long) (sym same))
    ∙ sym (next.gives honest) ∙ ap (λ (m : Medium). part e end m.seen) same
