-- Slots that are ready, and the images of their disk.
use Rattle.std.proofs.Common.{◌≡◌, ℕ, ◌+◌, ◌<◌, ◌≤◌, true, false, List, [], ◌∷◌, ◌++◌, length, take, drop, get_or, Some, refl, sym, ◌∙◌, ap, subst, arith, length-take, length-append}
use Rattle.rs_disk.specs.Medium.{Medium, IsImage, IsMedium, over, resting}
use Rattle.rs_commit.proofs.FromBelow.{settled_front, resting_off, over_torn}
use Rattle.rs_disk.specs.Leaves.{Torn}
use Rattle.rs_commit.specs.declared.root.Root.{Root}
use Rattle.rs_commit.specs.declared.slot.Slot.{Slot}
use Rattle.rs_commit.specs.declared.slot.SlotContent.TheVariants.{Open}
use Rattle.rs_commit.specs.Slots.{offset, other, block, content, Standing, current, OpensTo, payload_of, written_version, IsLawfulRoot}
use Rattle.rs_commit.specs.Commit.{IsReady, with_root}
use Rattle.rs_commit.specs.Format.{slot_bytes, formatted, fresh}
use Rattle.rs_commit.proofs.Blocks.{fits_slot, others, length-block, beside, kept_here, tail_kept, gate_put, payload_put, over_behind}
use Rattle.rs_commit.proofs.Contents.{current_stays, says, two_open}
use Rattle.rs_commit.proofs.Payloads.{tells, length-payload, length-slot_bytes, formatted_stands}

module _ (slots : Standing) (m : Medium) (size : ℕ) (is : IsMedium size m) (ready : IsReady slots m) where
  pub long : 1024 ≤ size
  long = omega (arith, ready.room, is.image.size, is.settled)

  -- an image has the bytes of the slots that a read gives
  pub image_front : (image : List ℕ) → IsImage m image → take 1024 image ≡ take 1024 m.seen
  image_front image left = settled_front m size 1024 is long ready.settled image left

  pub ready_stands : (image : List ℕ) → IsImage m image → current image ≡ Some slots
  ready_stands image left = current_stays image m.seen (image_front image left) ∙ ready.current

  pub ready_opens : (image : List ℕ) → IsImage m image → OpensTo slots.root image
  ready_opens image left = (slots, ready_stands image left, refl)

pub ready_stays : (slots : Standing) (old new : Medium) → take 1024 new.seen ≡ take 1024 old.seen → ((i : ℕ) → i < 1024 → get_or new.unsettled i false ≡ get_or old.unsettled i false)
    → IsReady slots old → IsReady slots new
ready_stays slots old new same marks ready = record {
  room = omega (arith, ready.room, ap length same, length-take 1024 new.seen, length-take 1024 old.seen);
  current = current_stays new.seen old.seen same ∙ ready.current;
  settled = λ i lt. marks i lt ∙ ready.settled i lt;
}

-- where all is settled, the slots are ready in their state
pub rest_ready : (slots : Standing) (bytes : List ℕ) → 1024 ≤ length bytes → current bytes ≡ Some slots → IsReady slots (resting bytes)
rest_ready slots bytes room is = record { room = room; current = is; settled = λ i lt. resting_off bytes i }

-- after the slot other than this one was opened with a newer root
pub newer_stands : (slots : Standing) (bytes : List ℕ) (root : Root) → 1024 ≤ length bytes → current bytes ≡ Some slots → IsLawfulRoot root → slots.root.generation < root.generation
    → current (with_root bytes (other slots.slot) root) ≡ Some (record { slot = other slots.slot; root = root; spare_open = true })
newer_stands slots bytes root room is lawful greater =
    let s : Slot = other slots.slot in
    let long : length (payload_of root) ≡ 53 = length-payload root lawful in
    let fits : offset s + 1 + length (payload_of root) ≤ length bytes = omega (arith, fits_slot s) in
    let mid : List ℕ = over bytes (offset s + 1) (payload_of root) in
    let last : List ℕ = over mid (offset s) (1 ∷ []) in
    let torn : Torn (offset s + 1) 53 bytes mid = subst (λ (k : ℕ). Torn (offset s + 1) k bytes mid) long (over_torn bytes (offset s + 1) (payload_of root) fits) in
    let wide : 1024 ≤ length mid = omega (arith, torn.size) in
    let opened : Torn (offset s) 1 mid last = over_torn mid (offset s) (1 ∷ []) (omega (arith, fits_slot s)) in
    let stands : take 53 (drop 1 (block last s)) ≡ payload_of root = ap (λ (l : List ℕ). take 53 l) (tail_kept s mid last opened) ∙ payload_put bytes s (payload_of root) long room in
    let told : content (block last s) ≡ Open root = tells (block last s) root stands lawful (length-block last s (omega (arith, opened.size))) (gate_put mid s 1 wide) in
    let here : block last slots.slot ≡ block bytes slots.slot =
    kept_here slots.slot last mid (beside s (offset s) 1 mid last (omega arith) (omega arith) opened) ∙ kept_here slots.slot mid bytes (beside s (offset s + 1) 53 bytes mid (omega arith) (omega arith) torn) in
    let old : content (block last slots.slot) ≡ Open slots.root = ap content here ∙ (says bytes slots is).here in
    ap current (sym (over_behind bytes (offset s) 1 (payload_of root) fits))
    ∙ two_open last s root slots.root told (subst (λ (q : Slot). content (block last q) ≡ Open slots.root) (sym (others slots.slot)) old) greater

-- and all is settled, they are ready again
pub committed_ready : (slots : Standing) (old new : Medium) (root : Root) → IsReady slots old → IsLawfulRoot root → slots.root.generation < root.generation
    → new ≡ resting (with_root old.seen (other slots.slot) root) → IsReady (record { slot = other slots.slot; root = root; spare_open = true }) new
committed_ready slots old new root ready lawful greater are =
    let s : Slot = other slots.slot in
    let long : length (payload_of root) ≡ 53 = length-payload root lawful in
    let torn = over_torn old.seen (offset s) (1 ∷ payload_of root) (omega (arith, ready.room, fits_slot s)) in
    let after : Standing = record { slot = s; root = root; spare_open = true } in
    subst (λ (m : Medium). IsReady after m) (sym are)
    (rest_ready after (with_root old.seen s root) (omega (arith, torn.size, ready.room)) (newer_stands slots old.seen root ready.room ready.current lawful greater))

-- slots that were made are ready
pub formatted_ready : (root : Root) (rest : List ℕ) (new : Medium) → IsLawfulRoot root → new ≡ resting (formatted root ++ rest) → IsReady (fresh root) new
formatted_ready root rest new lawful are =
    let one : length (slot_bytes 1 (payload_of root)) ≡ 512 = length-slot_bytes 1 (payload_of root) (omega (arith, length-payload root lawful)) in
    let two : length (slot_bytes 0 (written_version ∷ [])) ≡ 512 = length-slot_bytes 0 (written_version ∷ []) (omega arith) in
    let room : 1024 ≤ length (formatted root ++ rest) = omega (arith, one, two, length-append (formatted root) rest, length-append (slot_bytes 1 (payload_of root)) (slot_bytes 0 (written_version ∷ []))) in
    subst (λ (m : Medium). IsReady (fresh root) m) (sym are) (rest_ready (fresh root) (formatted root ++ rest) room (formatted_stands root rest lawful))
