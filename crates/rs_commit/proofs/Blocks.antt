-- The blocks of the slots in an image, and the effect of a change within one slot.
use Rattle.std.proofs.Common.{◌≡◌, inl, inr, ℕ, ◌+◌, ◌≤◌, List, [], ◌∷◌, ◌++◌, length, take, drop, get_or, refl, sym, ◌∙◌, ap, subst, arith, length-drop}
use Rattle.std.proofs.lemmas.List.{length-take-le, take-take, drop-take, drop-drop, drop_at, get_or-take, get_or-drop}
use Rattle.rs_disk.specs.Medium.{over}
use Rattle.rs_disk.specs.Leaves.{Torn}
use Rattle.rs_commit.proofs.FromBelow.{over_torn, over_part, over_byte, torn_part, torn_byte, front_part, back_part}
use Rattle.rs_commit.specs.declared.slot.Slot.{Slot}
use Rattle.rs_commit.specs.declared.slot.Slot.TheVariants.{First, Second}
use Rattle.rs_commit.specs.Slots.{offset, other, block, gate}
use Rattle.rs_commit.specs.Commit.{SameBehind}

pub fits_slot : (s : Slot) → offset s + 512 ≤ 1024
fits_slot First = omega arith
fits_slot Second = omega arith

pub others : (s : Slot) → other (other s) ≡ s
others First = refl
others Second = refl

pub length-block : (image : List ℕ) (s : Slot) → 1024 ≤ length image → length (block image s) ≡ 512
length-block image s room = length-take-le 512 (drop (offset s) image) (omega (arith, length-drop (offset s) image, fits_slot s))

-- lists with one front have the same blocks
pub front_blocks : (one two : List ℕ) → take 1024 one ≡ take 1024 two → (s : Slot) → block one s ≡ block two s
front_blocks one two same s = front_part 1024 (offset s) 512 one two (fits_slot s) same

-- A change within one slot keeps the other slot and all bytes after the slots.
pub record Beside (s : Slot) (one two : List ℕ) : Type 0 where
  pub kept : block one (other s) ≡ block two (other s)
  pub behind : SameBehind one two

pub beside : (s : Slot) (at n : ℕ) (old new : List ℕ) → offset s ≤ at → at + n ≤ offset s + 512 → Torn at n old new → Beside s new old
beside First at n old new low high torn = record {
  kept = torn_part at n 512 512 old new torn (inr (omega (arith, high)));
  behind = record { size = torn.size; bytes = back_part (at + n) 1024 new old (omega (arith, high)) torn.after };
}
beside Second at n old new low high torn = record {
  kept = torn_part at n 0 512 old new torn (inl (omega (arith, low)));
  behind = record { size = torn.size; bytes = back_part (at + n) 1024 new old (omega (arith, high)) torn.after };
}

-- a change of the other slot keeps this one
pub kept_here : (slot : Slot) (one two : List ℕ) → Beside (other slot) one two → block one slot ≡ block two slot
kept_here slot one two kept = subst (λ (q : Slot). block one q ≡ block two q) (others slot) kept.kept

gate_at : (image : List ℕ) (s : Slot) → gate (block image s) ≡ get_or image (offset s) 0
gate_at image s =
    let same : offset s + 0 ≡ offset s = omega arith in
    get_or-take 512 (drop (offset s) image) 0 0 (omega arith) ∙ get_or-drop (offset s) image 0 0 ∙ ap (λ (k : ℕ). get_or image k 0) same

pub behind_gate : (image : List ℕ) (s : Slot) → drop 1 (block image s) ≡ take 511 (drop (offset s + 1) image)
behind_gate image s = drop-take 1 511 (drop (offset s) image) ∙ ap (λ (l : List ℕ). take 511 l) (drop-drop 1 (offset s) image)

-- a change of the gate alone keeps the rest of its slot
pub tail_kept : (s : Slot) (old new : List ℕ) → Torn (offset s) 1 old new → drop 1 (block new s) ≡ drop 1 (block old s)
tail_kept s old new torn = behind_gate new s ∙ torn_part (offset s) 1 (offset s + 1) 511 old new torn (inr (omega arith)) ∙ sym (behind_gate old s)

-- a change of the bytes after the gate keeps the gate
pub gate_kept : (s : Slot) (n : ℕ) (old new : List ℕ) → Torn (offset s + 1) n old new → gate (block new s) ≡ gate (block old s)
gate_kept s n old new torn = gate_at new s ∙ torn_byte (offset s + 1) n (offset s) old new torn (inl (omega arith)) ∙ sym (gate_at old s)

-- a write of a gate puts its byte there
pub gate_put : (old : List ℕ) (s : Slot) (byte : ℕ) → 1024 ≤ length old → gate (block (over old (offset s) (byte ∷ [])) s) ≡ byte
gate_put old s byte room = gate_at (over old (offset s) (byte ∷ [])) s ∙ over_byte old (offset s) byte (omega (arith, fits_slot s))

pub payload_put : (old : List ℕ) (s : Slot) (bytes : List ℕ) → length bytes ≡ 53 → 1024 ≤ length old → take 53 (drop 1 (block (over old (offset s + 1) bytes) s)) ≡ bytes
payload_put old s bytes long room =
    ap (λ (l : List ℕ). take 53 l) (behind_gate (over old (offset s + 1) bytes) s)
    ∙ take-take 53 511 (drop (offset s + 1) (over old (offset s + 1) bytes)) (omega arith)
    ∙ subst (λ (k : ℕ). take k (drop (offset s + 1) (over old (offset s + 1) bytes)) ≡ bytes) long (over_part old (offset s + 1) bytes (omega (arith, fits_slot s)))

-- blocks with one gate and one rest are the same
pub same_block : (one two : List ℕ) → length one ≡ 512 → length two ≡ 512 → gate one ≡ gate two → drop 1 one ≡ drop 1 two → one ≡ two
same_block (a ∷ one) (b ∷ two) long short gates rest = λ i. gates i ∷ rest i
same_block [] two long short gates rest = absurd (omega (arith, long))
same_block (a ∷ one) [] long short gates rest = absurd (omega (arith, short))

-- A write of a gate over a write of the bytes after it is one write of both,
pub over_behind : (old : List ℕ) (at byte : ℕ) (bytes : List ℕ) → at + 1 + length bytes ≤ length old → over (over old (at + 1) bytes) at (byte ∷ []) ≡ over old at (byte ∷ bytes)
over_behind old at byte bytes fits =
    let mid : List ℕ = over old (at + 1) bytes in
    let front : take at mid ≡ take at old = front_part (at + 1) 0 at mid old (omega arith) (over_torn old (at + 1) bytes fits).before in
    let rest : drop (at + 1) mid ≡ bytes ++ drop (at + 1 + length bytes) old = drop_at (take (at + 1) old) (bytes ++ drop (at + 1 + length bytes) old) (at + 1) (length-take-le (at + 1) old (omega arith)) in
    let long : at + 1 + length bytes ≡ at + length (byte ∷ bytes) = omega arith in
    (λ i. front i ++ (byte ∷ rest i)) ∙ ap (λ (k : ℕ). take at old ++ (byte ∷ (bytes ++ drop k old))) long

-- and a write takes the place of one of its first byte.
over_again : (old : List ℕ) (at first byte : ℕ) (bytes : List ℕ) → at + 1 + length bytes ≤ length old → over (over old at (first ∷ [])) at (byte ∷ bytes) ≡ over old at (byte ∷ bytes)
over_again old at first byte bytes fits =
    let torn = over_torn old at (first ∷ []) (omega arith) in
    let back : drop (at + length (byte ∷ bytes)) (over old at (first ∷ [])) ≡ drop (at + length (byte ∷ bytes)) old =
    back_part (at + 1) (at + length (byte ∷ bytes)) (over old at (first ∷ [])) old (omega arith) torn.after in
    λ i. torn.before i ++ ((byte ∷ bytes) ++ back i)

pub over_thrice : (old : List ℕ) (at first byte : ℕ) (bytes : List ℕ) → at + 1 + length bytes ≤ length old
    → over (over (over old at (first ∷ [])) (at + 1) bytes) at (byte ∷ []) ≡ over old at (byte ∷ bytes)
over_thrice old at first byte bytes fits =
    let torn = over_torn old at (first ∷ []) (omega arith) in
    over_behind (over old at (first ∷ [])) at byte bytes (omega (arith, torn.size)) ∙ over_again old at first byte bytes fits
