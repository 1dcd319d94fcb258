-- When a file has followed the model so far.
use Rattle.std.specs.Prelude.{◌≡◌, ℕ, true, false, List, [], ◌∷◌, length, take, drop}
use Rattle.rs_disk.specs.Medium.{DiskState}
use Rattle.rs_file.specs.Events.{Event, WasRead, WasWritten, WasSynced}
use Rattle.rs_file.specs.Replay.{replay_events}

-- An event is right if it is no successful read, or if the read returned the bytes of the disk at its offset.
abbrev pub IsRight : DiskState → Event → Type 0
IsRight disk (WasRead at true bytes) = bytes ≡ take (length bytes) (drop at disk.now.seen)
IsRight disk (WasRead at false bytes) = Unit {0}
IsRight disk (WasWritten at ok bytes) = Unit {0}
IsRight disk (WasSynced ok) = Unit {0}

-- The file had the length of its supposed bytes, and every event was right.
abbrev pub AllRight : List ℕ → (ℕ → List ℕ) → ℕ → List Event → Type 0
AllRight first torn size [] = size ≡ length first
AllRight first torn size (e ∷ earlier) = AllRight first torn size earlier × IsRight (replay_events first torn size earlier) e
