-- The images that a run of device calls leaves at its exit, and at a crash within it.
use Rattle.std.specs.Prelude.{◌≡◌, ℕ, ◌+◌, ◌<◌, ◌≤◌, List, length, take, drop}
use Rattle.rs_disk.specs.Medium.{Medium, DiskState, IsImage, IsImageAt}

-- A run leaves P: images of earlier moments stay, and at every m from its entry to its exit all images of a crash after
-- m calls have P.
pub record Leaves (old new : DiskState) (P : ℕ → List ℕ → Type 0) : Type 0 where
  pub later : old.calls ≤ new.calls
  pub before : (m : ℕ) (image : List ℕ) → m < old.calls → IsImageAt new m image → IsImageAt old m image
  pub each : (m : ℕ) (image : List ℕ) → old.calls ≤ m → m ≤ new.calls → IsImageAt new m image → P m image

-- A list is torn in n places from an offset on: it is the same outside them.
pub record Torn (at n : ℕ) (old new : List ℕ) : Type 0 where
  pub size : length new ≡ length old
  pub before : take at new ≡ take at old
  pub after : drop (at + n) new ≡ drop (at + n) old

-- an image of a content, with any bytes in n places from an offset on
abbrev pub TornFrom : Medium → ℕ → ℕ → List ℕ → Type 0
TornFrom held at n image = (old : List ℕ) × IsImage held old × Torn at n old image
