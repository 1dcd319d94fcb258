-- The lines of the first names have been written.
use Rattle.std.proofs.Common.{take}
use Rattle.std.specs.List.{flat_map}
use Rattle.rs_io.specs.Watch.{Wrote}
use Rattle.rs_script.specs.Answers.{damaged_line}
use Rattle.rs_script.proofs.answer.write_damaged.Given as goal

abbrev pub invariant-loop-name : goal.invariant-loop-name
invariant-loop-name g l = Wrote g.W.Write.contents l.fn.writer l.writer (flat_map damaged_line (take l.name-index l.names))
