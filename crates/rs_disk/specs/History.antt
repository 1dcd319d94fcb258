-- The content of a memory disk in the past, by its record of writes and syncs.
use Rattle.std.specs.Prelude.{ℕ, nat_lt, nat_eq, if◌then◌else◌, List, [], ◌∷◌}
use Rattle.rs_disk.specs.declared.history.HeldChange.{HeldChange}
use Rattle.rs_disk.specs.declared.history.HeldChange.TheVariants.{Write, Sync}
use Rattle.rs_disk.specs.declared.history.CallChange.{CallChange}
use Rattle.rs_disk.specs.declared.history.CallHistory.{CallHistory}
use Rattle.rs_disk.specs.Medium.{Medium, widened, partly_written, resting}

-- the content within a change
abbrev pub during : HeldChange → Medium → Medium
during (Write at places put) m = widened m at places
during Sync m = m

-- the content after a change
abbrev pub after : HeldChange → Medium → Medium
after (Write at places put) m = partly_written m at places put.items
after Sync m = resting m.seen

-- the content after an entry, as a crash after k counted calls finds it: an earlier change is complete, that of the
-- next call is under way, and a later one has not begun
abbrev pub seen_from : ℕ → CallChange → Medium → Medium
seen_from k e m = if nat_lt e.call k then after e.change m else (if nat_eq e.call k then during e.change m else m)

-- the content after these entries in turn, from a medium on, as this crash finds it
abbrev pub replay : ℕ → Medium → List CallChange → Medium
replay k m [] = m
replay k m (e ∷ es) = replay k (seen_from k e m) es

-- the content of the disk within the call after k counted ones; where that call has not begun, its present content
abbrev pub held_within : ℕ → CallHistory → Medium
held_within k history = replay k (resting history.first.items) history.entries.items
