-- The images of a crash in every phase of a commit.
use Rattle.std.proofs.Common.{◌≡◌, inl, inr, ℕ, ◌+◌, ◌<◌, ◌≤◌, true, false, List, [], ◌∷◌, length, take, drop, Some, refl, sym, ◌∙◌, ap, subst, arith}
use Rattle.std.proofs.lemmas.Bool.{cases_eq}
use Rattle.rs_disk.specs.Medium.{Medium, IsImage, IsMedium, over, resting}
use Rattle.rs_disk.specs.Leaves.{Torn, TornFrom}
use Rattle.rs_commit.proofs.FromBelow.{over_torn, settled_front, resting_image, resting_off}
use Rattle.rs_commit.specs.declared.root.Root.{Root}
use Rattle.rs_commit.specs.declared.slot.Slot.{Slot}
use Rattle.rs_commit.specs.declared.slot.SlotContent.TheVariants.{Closed, Open}
use Rattle.rs_commit.specs.Slots.{offset, other, block, gate, content, Standing, current, payload_of, IsLawfulRoot}
use Rattle.rs_commit.specs.Commit.{SameBehind, AreSettled, IsReady, OutsideOf, OldOrNew}
use Rattle.rs_commit.proofs.Blocks.{fits_slot, others, length-block, front_blocks, Beside, kept_here, beside, tail_kept, gate_kept, gate_put, payload_put, same_block}
use Rattle.rs_commit.proofs.Contents.{closed, not_open, gate_of_open, gate_of_closed, one_open, two_open, Says, says, same_blocks}
use Rattle.rs_commit.proofs.Payloads.{tells, length-payload}
use Rattle.rs_commit.proofs.Ready.{long, image_front, ready_stands}

pub behind_on : (one two three : List ℕ) → SameBehind one two → SameBehind two three → SameBehind one three
behind_on one two three first then = record { size = first.size ∙ then.size; bytes = first.bytes ∙ then.bytes }

pub behind_same : (one : List ℕ) → SameBehind one one
behind_same one = record { size = refl; bytes = refl }

-- Blocks 0 and 1 are settled, the old slot still holds its root, and the spare is closed.
pub record Shut (entry : Medium) (slot : Slot) (root : Root) (m : Medium) : Type 0 where
  pub room : 1024 ≤ length m.seen
  pub settled : AreSettled m
  pub here : content (block m.seen slot) ≡ Open root
  pub shut : gate (block m.seen (other slot)) ≡ 1 → ⊥
  pub outside : (image : List ℕ) → IsImage m image → OutsideOf entry image
  pub behind : SameBehind m.seen entry.seen

-- The same, with all settled, and with the new root in the bytes after the closed gate.
pub record Staged (entry : Medium) (slot : Slot) (root new : Root) (m : Medium) : Type 0 where
  pub room : 1024 ≤ length m.seen
  pub only : (image : List ℕ) → IsImage m image → image ≡ m.seen
  pub here : content (block m.seen slot) ≡ Open root
  pub shut : gate (block m.seen (other slot)) ≡ 1 → ⊥
  pub stands : take 53 (drop 1 (block m.seen (other slot))) ≡ payload_of new
  pub behind : SameBehind m.seen entry.seen

module _ (slots : Standing) (entry : Medium) (size : ℕ) (is : IsMedium size entry) (ready : IsReady slots entry) where
  abbrev here : Slot
  here = slots.slot

  abbrev spare : Slot
  spare = other slots.slot

  entry_says : Says slots (λ s. content (block entry.seen s))
  entry_says = says entry.seen slots ready.current

  -- an old root, and the bytes after the slots as in an image at entry
  old_left : (new : Root) (image : List ℕ) → content (block image here) ≡ Open slots.root → content (block image spare) ≡ Closed → OutsideOf entry image → OldOrNew entry slots.root new image
  old_left new image tell shut out = inl ((record { slot = here; root = slots.root; spare_open = false }, one_open image here slots.root tell shut, refl), out)

  -- before the first call
  pub at_entry : (new : Root) (image : List ℕ) → IsImage entry image → OldOrNew entry slots.root new image
  at_entry new image left = inl ((slots, ready_stands slots entry size is ready image left, refl), (image, left, behind_same image))

  -- within the write that closes the spare
  pub closing : slots.spare_open ≡ true → (new : Root) (image : List ℕ) → TornFrom entry (offset spare) 1 image → OldOrNew entry slots.root new image
  closing was new image (from, left, torn) =
      let kept = beside spare (offset spare) 1 from image (omega arith) (omega arith) torn in
      let front = front_blocks from entry.seen (image_front slots entry size is ready from left) in
      let tell : content (block image here) ≡ Open slots.root = ap content (kept_here here image from kept ∙ front here) ∙ entry_says.here in
      elim (cases_eq (gate (block image spare)) 1) [
        | inl one ↦
            let told = entry_says.told was in
            let room : 1024 ≤ length image = omega (arith, kept.behind.size, left.size, is.image.size, ready.room) in
            let gates : gate (block image spare) ≡ gate (block entry.seen spare) = one ∙ sym (gate_of_open (block entry.seen spare) told.0 told.1) in
            let tails : drop 1 (block image spare) ≡ drop 1 (block entry.seen spare) = tail_kept spare from image torn ∙ ap (λ (l : List ℕ). drop 1 l) (front spare) in
            let same : block image spare ≡ block entry.seen spare = same_block (block image spare) (block entry.seen spare) (length-block image spare room) (length-block entry.seen spare ready.room) gates tails in
            inl ((slots, as_before image (kept_here here image from kept ∙ front here) same, refl), (from, left, kept.behind))
        | inr shut ↦ old_left new image tell (closed (block image spare) shut) (from, left, kept.behind)
      ]
    where
      as_before : (image : List ℕ) → block image here ≡ block entry.seen here → block image spare ≡ block entry.seen spare → current image ≡ Some slots
      as_before image one two = same_blocks image entry.seen here one two ∙ ready.current

  -- a spare that is closed already
  pub shut_already : slots.spare_open ≡ false → Shut entry here slots.root entry
  shut_already was = record {
    room = ready.room;
    settled = ready.settled;
    here = entry_says.here;
    shut = gate_of_closed (block entry.seen spare) (length-block entry.seen spare ready.room) (entry_says.shut was);
    outside = λ image left. (image, left, behind_same image);
    behind = behind_same entry.seen;
  }

  -- and one that is closed now
  pub shut_now : (m : Medium) → m ≡ resting (over entry.seen (offset spare) (0 ∷ [])) → Shut entry here slots.root m
  shut_now m are = subst (λ (k : Medium). Shut entry here slots.root k) (sym are) now
    where
      seen : List ℕ
      seen = over entry.seen (offset spare) (0 ∷ [])

      torn : Torn (offset spare) 1 entry.seen seen
      torn = over_torn entry.seen (offset spare) (0 ∷ []) (omega (arith, ready.room, fits_slot spare))

      kept : Beside spare seen entry.seen
      kept = beside spare (offset spare) 1 entry.seen seen (omega arith) (omega arith) torn

      now : Shut entry here slots.root (resting seen)
      now = record {
        room = omega (arith, kept.behind.size, ready.room);
        settled = λ i lt. resting_off seen i;
        here = ap content (kept_here here seen entry.seen kept) ∙ entry_says.here;
        shut = not_open (gate (block seen spare)) (gate_put entry.seen spare 0 ready.room);
        outside = λ image left. (entry.seen, is.image, subst (λ (l : List ℕ). SameBehind l entry.seen) (sym (resting_image seen image left)) kept.behind);
        behind = kept.behind;
      }

  -- within the write of the new root to the bytes after the closed gate
  pub staging : (m : Medium) → IsMedium size m → Shut entry here slots.root m → (new : Root) (image : List ℕ) → TornFrom m (offset spare + 1) 53 image → OldOrNew entry slots.root new image
  staging m sound shut new image (from, left, torn) =
      let kept = beside spare (offset spare + 1) 53 from image (omega arith) (omega arith) torn in
      let front = front_blocks from m.seen (settled_front m size 1024 sound (long slots entry size is ready) shut.settled from left) in
      let tell : content (block image here) ≡ Open slots.root = ap content (kept_here here image from kept ∙ front here) ∙ shut.here in
      let gates : gate (block image spare) ≡ gate (block m.seen spare) = gate_kept spare 53 from image torn ∙ ap gate (front spare) in
      let out = shut.outside from left in
      old_left new image tell (closed (block image spare) (λ one. shut.shut (sym gates ∙ one))) (out.0, out.1, behind_on image from out.0 kept.behind out.2)

  -- the root is there
  pub staged_now : (m : Medium) → Shut entry here slots.root m → (new : Root) → IsLawfulRoot new → (next : Medium) → next ≡ resting (over m.seen (offset spare + 1) (payload_of new)) → Staged entry here slots.root new next
  staged_now m before new lawful next are = subst (λ (k : Medium). Staged entry here slots.root new k) (sym are) now
    where
      size53 : length (payload_of new) ≡ 53
      size53 = length-payload new lawful

      seen : List ℕ
      seen = over m.seen (offset spare + 1) (payload_of new)

      torn : Torn (offset spare + 1) 53 m.seen seen
      torn = subst (λ (k : ℕ). Torn (offset spare + 1) k m.seen seen) size53 (over_torn m.seen (offset spare + 1) (payload_of new) (omega (arith, before.room, fits_slot spare, size53)))

      kept : Beside spare seen m.seen
      kept = beside spare (offset spare + 1) 53 m.seen seen (omega arith) (omega arith) torn

      now : Staged entry here slots.root new (resting seen)
      now = record {
        room = omega (arith, kept.behind.size, before.room);
        only = λ image left. resting_image seen image left;
        here = ap content (kept_here here seen m.seen kept) ∙ before.here;
        shut = λ one. before.shut (sym (gate_kept spare 53 m.seen seen torn) ∙ one);
        stands = payload_put m.seen spare (payload_of new) size53 before.room;
        behind = behind_on seen m.seen entry.seen kept.behind before.behind;
      }

  module _ (m : Medium) (new : Root) (staged : Staged entry here slots.root new m) (lawful : IsLawfulRoot new) (greater : slots.root.generation < new.generation) where
    -- a change of the spare's gate alone that opens it
    both_open : (image : List ℕ) → Torn (offset spare) 1 m.seen image → gate (block image spare) ≡ 1 → current image ≡ Some (record { slot = spare; root = new; spare_open = true })
    both_open image torn one =
        let kept = beside spare (offset spare) 1 m.seen image (omega arith) (omega arith) torn in
        let room : 1024 ≤ length image = omega (arith, kept.behind.size, staged.room) in
        let stands : take 53 (drop 1 (block image spare)) ≡ payload_of new = ap (λ (l : List ℕ). take 53 l) (tail_kept spare m.seen image torn) ∙ staged.stands in
        let told : content (block image spare) ≡ Open new = tells (block image spare) new stands lawful (length-block image spare room) one in
        let old : content (block image here) ≡ Open slots.root = ap content (kept_here here image m.seen kept) ∙ staged.here in
        two_open image spare new slots.root told (subst (λ (q : Slot). content (block image q) ≡ Open slots.root) (sym (others here)) old) greater

    -- within the write that opens the spare
    pub opening : (image : List ℕ) → TornFrom m (offset spare) 1 image → OldOrNew entry slots.root new image
    opening image (from, left, torn_from) =
        let torn : Torn (offset spare) 1 m.seen image = subst (λ (l : List ℕ). Torn (offset spare) 1 l image) (staged.only from left) torn_from in
        let kept = beside spare (offset spare) 1 m.seen image (omega arith) (omega arith) torn in
        let behind = behind_on image m.seen entry.seen kept.behind staged.behind in
        elim (cases_eq (gate (block image spare)) 1) [
          | inl one ↦ inr ((record { slot = spare; root = new; spare_open = true }, both_open image torn one, refl), behind)
          | inr shut ↦
              let old : content (block image here) ≡ Open slots.root = ap content (kept_here here image m.seen kept) ∙ staged.here in
              old_left new image old (closed (block image spare) shut) (entry.seen, is.image, behind)
        ]
