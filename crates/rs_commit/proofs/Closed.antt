-- Slots that are both closed, and the root that is put into the first of them.
use Rattle.std.proofs.Common.{◌≡◌, inl, inr, ℕ, ◌≤◌, ◌<◌, false, List, [], ◌∷◌, length, take, drop, get_or, Some, None, refl, sym, ◌∙◌, ap, subst, arith, length-take}
use Rattle.std.proofs.lemmas.Bool.{cases_eq}
use Rattle.std.proofs.lemmas.List.{take_all}
use Rattle.rs_disk.specs.Medium.{Medium, DiskState, IsImage, IsMedium, over, resting}
use Rattle.rs_disk.specs.Leaves.{Leaves, Torn, TornFrom}
use Rattle.rs_commit.proofs.FromBelow.{over_torn, over_part, settled_front, resting_image, resting_off, goes_on, weaker}
use Rattle.rs_commit.specs.declared.root.Root.{Root}
use Rattle.rs_commit.specs.declared.slot.Slot.TheVariants.{First, Second}
use Rattle.rs_commit.specs.declared.slot.SlotContent.TheVariants.{Closed, Open}
use Rattle.rs_commit.specs.Slots.{offset, block, gate, content, current, pick, payload_of, IsLawfulRoot}
use Rattle.rs_commit.specs.Commit.{SameBehind, IsReady}
use Rattle.rs_commit.specs.Format.{slot_bytes, fresh, with_closed_gates, with_first_root, AreShut, NoneOrRoot}
use Rattle.rs_commit.proofs.Blocks.{length-block, front_blocks, behind_gate as behind_block, Beside, beside, tail_kept, gate_kept, gate_put, over_behind}
use Rattle.rs_commit.proofs.Contents.{closed, closed_gate, one_open, current_stays}
use Rattle.rs_commit.proofs.Payloads.{tells, length-payload, length-slot_bytes, payload_behind}
use Rattle.rs_commit.proofs.Phases.{behind_on}
use Rattle.rs_commit.proofs.Ready.{rest_ready}

-- two slots with the content Closed hold no root
none_open : (image : List ℕ) → content (block image First) ≡ Closed → content (block image Second) ≡ Closed → current image ≡ None
unfolding current
none_open image one two = λ i. pick (one i) (two i)

-- Where both gates are closed, there is no root,
pub shut_seen : (m : Medium) → AreShut m → current m.seen ≡ None
shut_seen m shut = none_open m.seen (closed_gate (block m.seen First) shut.first) (closed_gate (block m.seen Second) shut.second)

-- in every image,
pub shut_none : (m : Medium) (size : ℕ) → IsMedium size m → AreShut m → (image : List ℕ) → IsImage m image → current image ≡ None
shut_none m size is shut image left =
    current_stays image m.seen (settled_front m size 1024 is (omega (arith, shut.room, is.image.size, is.settled)) shut.settled image left) ∙ shut_seen m shut

-- and they stay closed where blocks 0 and 1 stay.
pub shut_stays : (old new : Medium) → take 1024 new.seen ≡ take 1024 old.seen → ((i : ℕ) → i < 1024 → get_or new.unsettled i false ≡ get_or old.unsettled i false) → AreShut old → AreShut new
shut_stays old new same marks shut = record {
  room = omega (arith, shut.room, ap length same, length-take 1024 new.seen, length-take 1024 old.seen);
  first = ap gate (front_blocks new.seen old.seen same First) ∙ shut.first;
  second = ap gate (front_blocks new.seen old.seen same Second) ∙ shut.second;
  settled = λ i lt. marks i lt ∙ shut.settled i lt;
}

-- both gates are closed after the two writes
pub gates_closed : (bytes : List ℕ) → 1024 ≤ length bytes → (new : Medium) → new ≡ resting (with_closed_gates bytes) → AreShut new
gates_closed bytes room new are =
    let one : List ℕ = over bytes (offset First) (0 ∷ []) in
    let two : List ℕ = over one (offset Second) (0 ∷ []) in
    let torn_one : Torn (offset First) 1 bytes one = over_torn bytes (offset First) (0 ∷ []) (omega (arith, room)) in
    let torn_two : Torn (offset Second) 1 one two = over_torn one (offset Second) (0 ∷ []) (omega (arith, room, torn_one.size)) in
    let kept : Beside Second two one = beside Second (offset Second) 1 one two (omega arith) (omega arith) torn_two in
    let now : AreShut (resting two) = record {
      room = omega (arith, room, torn_one.size, torn_two.size);
      first = ap gate kept.kept ∙ gate_put bytes First 0 room;
      second = gate_put one Second 0 (omega (arith, room, torn_one.size));
      settled = λ i lt. resting_off two i;
    } in
    subst AreShut (sym are) now

-- the bytes after the gate of a slot that was made
abbrev pub rest_of : List ℕ → List ℕ
rest_of payload = drop 1 (slot_bytes 1 payload)

slot_split : (payload : List ℕ) → slot_bytes 1 payload ≡ 1 ∷ rest_of payload
unfolding slot_bytes
slot_split payload = refl

rest_alike : (payload : List ℕ) → drop 1 (slot_bytes 0 payload) ≡ rest_of payload
unfolding slot_bytes
rest_alike payload = refl

pub length-rest : (payload : List ℕ) → length payload ≤ 511 → length (rest_of payload) ≡ 511
length-rest payload fits =
    let all : length (slot_bytes 1 payload) ≡ 512 = length-slot_bytes 1 payload fits in
    let same : length (slot_bytes 1 payload) ≡ length (1 ∷ rest_of payload) = ap length (slot_split payload) in
    omega (arith, all, same)

-- The first slot gets a root while both slots are closed: first the bytes after its gate,
module _ (entry : Medium) (size : ℕ) (is : IsMedium size entry) (root : Root) (lawful : IsLawfulRoot root) (room : 1024 ≤ length entry.seen) where
  behind : List ℕ
  behind = rest_of (payload_of root)

  staged : List ℕ
  staged = over entry.seen 1 behind

  long : length (payload_of root) ≡ 53
  long = length-payload root lawful

  length-behind : length behind ≡ 511
  unfolding behind
  length-behind = length-rest (payload_of root) (omega (arith, long))

  torn_stage : Torn 1 511 entry.seen staged
  unfolding staged
  torn_stage = subst (λ (k : ℕ). Torn 1 k entry.seen (over entry.seen 1 behind)) length-behind (over_torn entry.seen 1 behind (omega (arith, length-behind, room)))

  kept_stage : Beside First staged entry.seen
  kept_stage = beside First 1 511 entry.seen staged (omega arith) (omega arith) torn_stage

  stage_tells : take 53 (drop 1 (block staged First)) ≡ payload_of root
  unfolding staged behind
  stage_tells =
      let whole : take 511 (drop 1 (over entry.seen 1 behind)) ≡ behind = subst (λ (k : ℕ). take k (drop 1 (over entry.seen 1 behind)) ≡ behind) length-behind (over_part entry.seen 1 behind (omega (arith, room))) in
      ap (λ (l : List ℕ). take 53 l) (behind_block (over entry.seen 1 behind) First ∙ whole) ∙ payload_behind 1 (payload_of root) long

  -- then its gate
  written : (image : List ℕ) → Torn 0 1 staged image → gate (block image First) ≡ 1 → content (block image First) ≡ Open root
  written image torn one =
      let wide : 1024 ≤ length image = omega (arith, torn.size, torn_stage.size, room) in
      let stands : take 53 (drop 1 (block image First)) ≡ payload_of root = ap (λ (l : List ℕ). take 53 l) (tail_kept First staged image torn) ∙ stage_tells in
      tells (block image First) root stands lawful (length-block image First wide) one

  module _ (shut : AreShut entry) where
    second_shut : (image : List ℕ) → block image Second ≡ block entry.seen Second → content (block image Second) ≡ Closed
    second_shut image same = closed_gate (block image Second) (ap gate same ∙ shut.second)

    pub first_staging : (image : List ℕ) → TornFrom entry 1 511 image → NoneOrRoot entry root image
    first_staging image (from, left, torn) =
        let kept : Beside First image from = beside First 1 511 from image (omega arith) (omega arith) torn in
        let front = front_blocks from entry.seen (settled_front entry size 1024 is (omega (arith, room, is.image.size, is.settled)) shut.settled from left) in
        let one : gate (block image First) ≡ 0 = gate_kept First 511 from image torn ∙ ap gate (front First) ∙ shut.first in
        inl (none_open image (closed_gate (block image First) one) (second_shut image (kept.kept ∙ front Second)), (from, left, kept.behind))

    opened : (image : List ℕ) → Torn 0 1 staged image → gate (block image First) ≡ 1 → current image ≡ Some (fresh root)
    opened image torn one =
        let kept : Beside First image staged = beside First 0 1 staged image (omega arith) (omega arith) torn in
        one_open image First root (written image torn one) (second_shut image (kept.kept ∙ kept_stage.kept))

    pub first_opening : (m : Medium) → m ≡ resting (over entry.seen 1 (rest_of (payload_of root))) → (image : List ℕ) → TornFrom m 0 1 image → NoneOrRoot entry root image
    unfolding staged behind
    first_opening m are image (from, left, torn_from) =
        let only : from ≡ staged = resting_image staged from (subst (λ (k : Medium). IsImage k from) are left) in
        let torn : Torn 0 1 staged image = subst (λ (l : List ℕ). Torn 0 1 l image) only torn_from in
        let kept : Beside First image staged = beside First 0 1 staged image (omega arith) (omega arith) torn in
        let after : SameBehind image entry.seen = behind_on image staged entry.seen kept.behind kept_stage.behind in
        elim (cases_eq (gate (block image First)) 1) [
          | inl one ↦ inr ((fresh root, opened image torn one, refl), after)
          | inr other ↦ inl (none_open image (closed (block image First) other) (second_shut image (kept.kept ∙ kept_stage.kept)), (entry.seen, is.image, after))
        ]

    -- and at the end
    pub first_ready : (new : Medium) → new ≡ resting (with_first_root entry.seen root) → IsReady (fresh root) new
    unfolding staged behind
    first_ready new are =
        let last : List ℕ = over staged 0 (1 ∷ []) in
        let same : over entry.seen 0 (slot_bytes 1 (payload_of root)) ≡ last = ap (λ (l : List ℕ). over entry.seen 0 l) (slot_split (payload_of root)) ∙ sym (over_behind entry.seen 0 1 behind (omega (arith, length-behind, room))) in
        let torn : Torn 0 1 staged last = over_torn staged 0 (1 ∷ []) (omega (arith, torn_stage.size, room)) in
        let wide : 1024 ≤ length last = omega (arith, torn.size, torn_stage.size, room) in
        let one : gate (block last First) ≡ 1 = gate_put staged First 1 (omega (arith, torn_stage.size, room)) in
        subst (λ (m : Medium). IsReady (fresh root) m) (sym (are ∙ ap resting same)) (rest_ready (fresh root) last wide (opened last torn one))

-- Both writes give the root and its zeros.
pub first_written : (root : Root) → IsLawfulRoot root → (old mid new : Medium) → 1024 ≤ length old.seen → mid ≡ resting (over old.seen 1 (rest_of (payload_of root))) → new ≡ resting (over mid.seen 0 (1 ∷ []))
    → new ≡ resting (with_first_root old.seen root)
first_written root lawful old mid new room staged opened =
    let size : length (rest_of (payload_of root)) ≡ 511 = length-rest (payload_of root) (omega (arith, length-payload root lawful)) in
    opened ∙ ap (λ (m : Medium). resting (over m.seen 0 (1 ∷ []))) staged ∙ ap resting (over_behind old.seen 0 1 (rest_of (payload_of root)) (omega (arith, size, room)) ∙ ap (λ (l : List ℕ). over old.seen 0 l) (sym (slot_split (payload_of root))))

-- The runs: a write of the bytes after the closed gate, and a write of the gate.
module _ (old : DiskState) (is : IsMedium old.size old.now) (root : Root) (lawful : IsLawfulRoot root) (room : 1024 ≤ length old.now.seen) (shut : AreShut old.now) where
  pub stage_leaves : (mid : DiskState) → Leaves old mid (λ _. TornFrom old.now 1 511) → Leaves old mid (λ _. NoneOrRoot old.now root)
  stage_leaves mid torn = weaker old mid (λ _. TornFrom old.now 1 511) (λ _. NoneOrRoot old.now root) (λ m image left. first_staging old.now old.size is root lawful room shut image left) torn

  pub open_leaves : (mid new : DiskState) (at : ℕ) → at ≡ 0 → Leaves old mid (λ _. TornFrom old.now 1 511) → mid.now ≡ resting (over old.now.seen 1 (rest_of (payload_of root))) → Leaves mid new (λ _. TornFrom mid.now at 1) → Leaves old new (λ _. NoneOrRoot old.now root)
  open_leaves mid new at here before are torn =
      let there : Leaves mid new (λ _. TornFrom mid.now 0 1) = subst (λ (k : ℕ). Leaves mid new (λ _. TornFrom mid.now k 1)) here torn in
      goes_on old mid new (λ _. NoneOrRoot old.now root) (stage_leaves mid before)
      (weaker mid new (λ _. TornFrom mid.now 0 1) (λ _. NoneOrRoot old.now root) (λ m image left. first_opening old.now old.size is root lawful room shut mid.now are image left) there)

-- the bytes that are written there
pub staged_bytes : (root : Root) → IsLawfulRoot root → (slot payload : List ℕ) → slot ≡ slot_bytes 0 payload → payload ≡ payload_of root → take 511 (drop 1 slot) ≡ rest_of (payload_of root)
staged_bytes root lawful slot payload made same =
    let told : List ℕ = payload_of root in
    let size : length (rest_of told) ≡ 511 = length-rest told (omega (arith, length-payload root lawful)) in
    ap (λ (l : List ℕ). take 511 (drop 1 l)) (made ∙ ap (λ (l : List ℕ). slot_bytes 0 l) same) ∙ ap (λ (l : List ℕ). take 511 l) (rest_alike told) ∙ take_all 511 (rest_of told) (omega (arith, size))
