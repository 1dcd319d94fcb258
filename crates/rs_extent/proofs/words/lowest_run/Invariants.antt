use Rattle.std.proofs.Common.{◌*◌}
use Rattle.rs_extent.specs.Words.{bit_of}
use Rattle.rs_extent.proofs.Scan.{IsScanned}
use Rattle.rs_extent.proofs.words.lowest_run.Given as goal

abbrev pub invariant-loop-i : goal.invariant-loop-i
invariant-loop-i l = IsScanned (bit_of l.words) l.n (64 * l.i) l.run
