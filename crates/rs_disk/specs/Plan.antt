-- The plan of the further calls of a memory disk that fail, and of the way they fail.
use Rattle.std.specs.Prelude.{ℕ, nat_lt, nat_eq, if◌then◌else◌, ◌/◌, List, length, take}
use Rattle.rs_disk.specs.declared.plan.FaultPlan.{FaultPlan}
use Rattle.rs_disk.specs.declared.plan.FaultPlan.TheVariants.{Sound, StopsAfter, Stopped, FailsAfter}
use Rattle.rs_disk.specs.declared.plan.Outcome.{Outcome}
use Rattle.rs_disk.specs.declared.plan.Outcome.TheVariants.{Works, FailsHalfway, FailsAtStart, Refused}
use Rattle.rs_disk.specs.Medium.{Medium, widened, partly_written}

-- the i-th further call, counted from 0, if every call after k others fails: the first at its start, and later ones are
-- refused
abbrev pub stops_after : ℕ → ℕ → Outcome
stops_after k i = if nat_lt i k then Works else (if nat_eq i k then FailsAtStart else Refused)

-- the i-th further call, counted from 0, if one call after k others fails, halfway
abbrev pub fails_once : ℕ → ℕ → Outcome
fails_once k i = if nat_eq i k then FailsHalfway else Works

-- the outcome that a plan gives to the i-th further call, counted from 0
abbrev pub planned_by : FaultPlan → ℕ → Outcome
planned_by Sound i = Works
planned_by (StopsAfter k) i = stops_after k i
planned_by Stopped i = Refused
planned_by (FailsAfter k) i = fails_once k i

-- The content after a failing write of these bytes: the first half of them and the whole range unsettled; no byte of
-- them and the range unsettled; or the content before, if the write was refused, or was to work and its record got no
-- memory.
abbrev pub left_by_write : Outcome → ℕ → List ℕ → Medium → Medium
left_by_write Works at bytes m = m
left_by_write FailsHalfway at bytes m = partly_written m at (length bytes) (take (length bytes / 2) bytes)
left_by_write FailsAtStart at bytes m = widened m at (length bytes)
left_by_write Refused at bytes m = m
