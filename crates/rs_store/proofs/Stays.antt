-- Writes outside the blocks that a root reaches keep the slots, the state of an image, and the state of the lists.
use Rattle.std.proofs.Common.{true≢false, ◌≡◌, ℕ, ◌+◌, ◌*◌, ◌/◌, ◌%◌, ◌<◌, ◌≤◌, Bool, true, false, ◌||◌, nat_lt, nat_le, List, map, take, get_or, refl, sym, ◌∙◌, ap, subst, arith, length-take}
use Rattle.std.proofs.lemmas.Bool.Decides.{nat_tests}
use Rattle.std.proofs.lemmas.List.{ext_get_or, get_or-take}
use Rattle.rs_disk.specs.Medium.{DiskState, IsImage, IsMedium}
use Rattle.rs_disk.specs.Leaves.{Leaves}
use Rattle.rs_store.proofs.FromBelow.{weaker, exit_images, opens_stays, ready_stays, ready_opens, reaches_bodies, tells_stays, held_stays, keeps_behind}
use Rattle.rs_extent.specs.Extents.{in_some}
use Rattle.rs_body.specs.Outside.{Keeps, KeepsMarks, KeptFrom, WritesOutside}
use Rattle.rs_commit.specs.declared.root.Root.{Root}
use Rattle.rs_commit.specs.Slots.{Standing}
use Rattle.rs_commit.specs.Commit.{IsReady, SameBehind}
use Rattle.rs_model.specs.declared.value.Held.{Held}
use Rattle.rs_model.specs.State.{Source}
use Rattle.rs_catalogue.specs.Catalogue.{records_of}
use Rattle.rs_image.specs.declared.contents.Contents.{Contents}
use Rattle.rs_image.specs.Reach.{reach, is_kept}
use Rattle.rs_image.specs.Whole.{IsWhole}
use Rattle.rs_image.specs.StateOfImage.{Tells, StandsFor, state_in, held_in}

or_left : (a b : Bool) → a ≡ true → (a || b) ≡ true
or_left true b is = refl
or_left false b is = absurd (true≢false (sym is))

or_right : (a b : Bool) → b ≡ true → (a || b) ≡ true
or_right true b is = refl
or_right false b is = is

is_low : (b : ℕ) → b < 2 → nat_lt b 2 ≡ true
is_low b lt = grind (arith, nat_tests)

low_kept : (root : Root) (c : Contents) (b : ℕ) → b < 2 → is_kept root c b ≡ true
low_kept root c b lt = or_left (nat_lt b 2) (in_some (reach root c) b) (is_low b lt)

pub reach_kept : (root : Root) (c : Contents) (b : ℕ) → in_some (reach root c) b ≡ true → is_kept root c b ≡ true
reach_kept root c b is = or_right (nat_lt b 2) (in_some (reach root c) b) is

-- blocks 0 and 1
front_kept : (kept : ℕ → Bool) → ((b : ℕ) → b < 2 → kept b ≡ true) → (old new : List ℕ) → Keeps kept old new → take 1024 new ≡ take 1024 old
front_kept kept all old new keeps = ext_get_or 0 (take 1024 new) (take 1024 old)
    (omega (arith, length-take 1024 new, length-take 1024 old, keeps.size))
    (λ i lt. let below : i < 1024 = omega (arith, lt, length-take 1024 new) in here i below)
  where
    here : (i : ℕ) → i < 1024 → get_or (take 1024 new) i 0 ≡ get_or (take 1024 old) i 0
    here i lt =
        let place : 512 * (i / 512) + i % 512 ≡ i = omega arith in
        let one = keeps.same (i / 512) (i % 512) (all (i / 512) (omega arith)) (omega arith) in
        get_or-take 1024 new i 0 lt ∙ subst (λ (k : ℕ). get_or new k 0 ≡ get_or old k 0) place one ∙ sym (get_or-take 1024 old i 0 lt)

marks_front : (kept : ℕ → Bool) → ((b : ℕ) → b < 2 → kept b ≡ true) → (old new : List Bool) → KeepsMarks kept old new → (i : ℕ) → i < 1024
    → get_or new i false ≡ get_or old i false
marks_front kept all old new keeps i lt =
    let place : 512 * (i / 512) + i % 512 ≡ i = omega arith in
    let one = keeps.same (i / 512) (i % 512) (all (i / 512) (omega arith)) (omega arith) in
    subst (λ (k : ℕ). get_or new k false ≡ get_or old k false) place one

-- the slots
pub ready_after : (slots : Standing) (c : Contents) (old mid : DiskState) → IsReady slots old.now → WritesOutside (is_kept slots.root c) old mid → IsReady slots mid.now
ready_after slots c old mid ready run =
    ready_stays slots old.now mid.now (front_kept (is_kept slots.root c) (low_kept slots.root c) old.now.seen mid.now.seen run.seen)
    (marks_front (is_kept slots.root c) (low_kept slots.root c) old.now.unsettled mid.now.unsettled run.marks) ready

-- the state of an image
module _ (slots : Standing) (c : Contents) (s : Source) (old : DiskState) (is : IsMedium old.size old.now) (ready : IsReady slots old.now)
    (told : (image : List ℕ) → IsImage old.now image → Tells slots.root c image s) where
  still : (image : List ℕ) → KeptFrom (is_kept slots.root c) old.now image → StandsFor image s × Tells slots.root c image s
  still image (e, left, keeps) =
      let tells = tells_stays (is_kept slots.root c) slots.root c e image s (reach_kept slots.root c) keeps (told e left) in
      let front = sym (front_kept (is_kept slots.root c) (low_kept slots.root c) e image keeps) in
      let opens = opens_stays e image slots.root front (ready_opens slots old.now old.size is ready e left) in
      ((slots.root, opens, (c, tells)), tells)

  pub stands_meanwhile : (mid : DiskState) → WritesOutside (is_kept slots.root c) old mid → Leaves old mid (λ _ image. StandsFor image s)
  stands_meanwhile mid run =
      weaker old mid (λ _. KeptFrom (is_kept slots.root c) old.now) (λ _ image. StandsFor image s) (λ m image left. (still image left).0) run.leaves

  pub told_after : (mid : DiskState) → WritesOutside (is_kept slots.root c) old mid → (image : List ℕ) → IsImage mid.now image → Tells slots.root c image s
  told_after mid run image left = (still image (exit_images old mid (λ _. KeptFrom (is_kept slots.root c) old.now) run.leaves image left)).1

  pub stands_now : (image : List ℕ) → IsImage old.now image → StandsFor image s
  stands_now image left = (slots.root, ready_opens slots old.now old.size is ready image left, (c, told image left))

-- the state of the lists

pub state_kept : (kept : ℕ → Bool) (size : ℕ) (root : Root) (c : Contents) (old new : List ℕ) → IsWhole size root c
    → ((b : ℕ) → in_some (reach root c) b ≡ true → kept b ≡ true) → Keeps kept old new → state_in new c ≡ state_in old c
state_kept kept size root c old new whole all keeps =
    let held : map (held_in new) (records_of c.catalogue) ≡ map (held_in old) (records_of c.catalogue) =
    held_stays kept c.header.start c.header.last (records_of c.catalogue) old new whole.records (λ b is. all b (reaches_bodies root c b is)) keeps in
    ap (λ (h : List (List ℕ × Held)). record (state_in old c) { held = h }) held

behind_true : (b : ℕ) → 2 ≤ b → nat_le 2 b ≡ true
behind_true b le = grind (arith, nat_tests)

pub state_behind : (size : ℕ) (root : Root) (c : Contents) (old new : List ℕ) → IsWhole size root c → SameBehind old new → state_in new c ≡ state_in old c
state_behind size root c old new whole same =
    state_kept (λ b. nat_le 2 b) size root c old new whole (λ b is. behind_true b (whole.inside b is).0) (keeps_behind old new same)
