-- The content of the first 54 bytes of a whole block.
use Rattle.std.proofs.Common.{◌≡◌, ℕ, ◌<◌, true, false, List, length, take, get_or, refl, sym, ◌∙◌, ap, arith}
use Rattle.std.specs.Int.{from_be_bytes, w32, w64}
use Rattle.std.proofs.lemmas.List.{get_or-take}
use Rattle.rs_commit.specs.declared.root.Root.{Root}
use Rattle.rs_commit.specs.declared.slot.SlotContent.TheVariants.{Closed, Unknown, Open}
use Rattle.rs_commit.specs.Slots.{field, version, root_in, is_known, content}
use Rattle.rs_commit.proofs.Contents.{closed, opened, unknown}
use Rattle.rs_commit.proofs.Payloads.{first_bytes}

-- bytes that have all fields of a root at their places read as this root
pub told : (root : Root) (bytes : List ℕ) → root.version ≡ version bytes → root.generation ≡ from_be_bytes w64 (field bytes 2 8)
    → root.directory.first ≡ from_be_bytes w32 (field bytes 10 4) → root.directory.blocks ≡ from_be_bytes w32 (field bytes 14 4)
    → root.length ≡ from_be_bytes w32 (field bytes 18 4) → root.sha256 ≡ field bytes 22 32 → root ≡ root_in bytes
unfolding root_in
told root bytes version generation first blocks long sha256 = rw (← version, ← generation, ← first, ← blocks, ← long, ← sha256) refl

module _ (bytes block : List ℕ) (long : length block ≡ 512) (are : bytes ≡ take 54 block) where
  byte_at : (i : ℕ) → i < 54 → get_or block i 0 ≡ get_or bytes i 0
  byte_at i lt = sym (ap (λ (l : List ℕ). get_or l i 0) are ∙ get_or-take 54 block i 0 lt)

  pub says_closed : (get_or bytes 0 0 ≡ 1 → ⊥) → Closed ≡ content block
  says_closed shut = sym (closed block (λ one. shut (sym (byte_at 0 (omega arith)) ∙ one)))

  pub says_unknown : get_or bytes 0 0 ≡ 1 → is_known (get_or bytes 1 0) ≡ false → Unknown ≡ content block
  says_unknown one differs = sym (unknown block long (byte_at 0 (omega arith) ∙ one) (ap is_known (byte_at 1 (omega arith)) ∙ differs))

  pub says_open : get_or bytes 0 0 ≡ 1 → is_known (get_or bytes 1 0) ≡ true → (root : Root) → root ≡ root_in bytes → Open root ≡ content block
  says_open one known root tells =
      sym (opened block root long (byte_at 0 (omega arith) ∙ one) (ap is_known (byte_at 1 (omega arith)) ∙ known) (sym (tells ∙ ap root_in are ∙ first_bytes block)))
