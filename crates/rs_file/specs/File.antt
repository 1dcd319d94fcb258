-- A disk over a file.
use Rattle.std.specs.Prelude.{ℕ, List}
use Rattle.std.proofs.Common.{subst, sym}
use Rattle.rs_disk.specs.Medium.{DiskState, IsMedium}
use Rattle.rs_file.specs.declared.disk.FileDisk.{FileDisk}
use Rattle.rs_file.specs.declared.start.Start.{Ghosts}
use Rattle.rs_file.specs.Events.{Event}
use Rattle.rs_file.specs.Replay.{replay_events}

module _ {S : Type 0} where
  -- the counted calls with their answers, newest first
  abbrev pub events_of : {start : Ghosts S} → FileDisk S start → List Event
  events_of d = d.file.log.events

  -- the state of the disk, replayed from these calls
  abbrev pub state_of : (start : Ghosts S) → FileDisk S start → DiskState
  state_of start d = replay_events start.first start.torn d.size d.file.log.events

  pub sound_of : (start : Ghosts S) (d : FileDisk S start) → IsMedium (state_of start d).size (state_of start d).now
  sound_of start d = subst (λ (k : ℕ). IsMedium k (state_of start d).now) (sym d.long) d.sound
