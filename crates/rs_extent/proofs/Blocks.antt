-- Blocks that are free or used are on the disk.
use Rattle.std.proofs.Common.{◌≡◌, inl, inr, ℕ, ◌+◌, ◌-◌, ◌<◌, ◌≤◌, Bool, true, false, List, length, sym, ◌∙◌, arith}
use Rattle.std.proofs.lemmas.Bool.{cases_lt, true≢false}
use Rattle.std.proofs.lemmas.List.{get_or_past}
use Rattle.rs_extent.specs.declared.Extent.{Extent}
use Rattle.rs_extent.specs.Blocks.{is_used, IsFreeRun, IsTaken}

-- a free block is on the disk
pub free_on_disk : (used : List Bool) (b : ℕ) → is_used used b ≡ false → b < length used
free_on_disk used b free = elim (cases_lt b (length used)) [
  | inl lt ↦ lt
  | inr past ↦ absurd (true≢false (sym (get_or_past used b true past) ∙ free))
]

-- so is a run of free blocks
pub run_on_disk : (used : List Bool) (first n : ℕ) → IsFreeRun used first n → 1 ≤ n → first + n ≤ length used
run_on_disk used first n run some =
    let last = free_on_disk used (first + n - 1) (run (first + n - 1) (omega arith) (omega arith)) in
    omega arith

-- so is an extent of used blocks
pub taken_on_disk : (used : List Bool) (e : Extent) → IsTaken used e → 1 ≤ e.blocks → e.first + e.blocks ≤ length used
taken_on_disk used e taken some =
    let last = taken (e.first + e.blocks - 1) (omega arith) (omega arith) in
    omega (arith, last.0)
