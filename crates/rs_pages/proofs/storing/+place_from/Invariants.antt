use Rattle.std.proofs.Common.{◌-◌, length}
use Rattle.rs_pages.proofs.storing.+place_from.Given as goal

abbrev pub decreases-place_from : goal.decreases-place_from
decreases-place_from g l = length l.pages.now - l.start
