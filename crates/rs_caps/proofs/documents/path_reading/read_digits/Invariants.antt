-- The digits left go on from the number so far.
use Rattle.std.proofs.Common.{◌≡◌, ◌<◌, ◌^◌, drop}
use Rattle.rs_time.specs.ReadMoment.{number_after}
use Rattle.rs_caps.proofs.documents.path_reading.read_digits.Given as goal

abbrev pub invariant-loop-digit : goal.invariant-loop-digit
invariant-loop-digit l = (number_after l.count (drop l.digit-index l.digits) ≡ number_after 0 l.digits) × (l.count < 2 ^ 64)
