-- The damaged names, and the number of sound bodies.
use Rattle.std.proofs.Common.{◌++◌, codes, decimal, refl}
use Rattle.std.specs.List.{flat_map}
use Rattle.rs_script.proofs.FromBelow.{stops_first, writes_then}
use Rattle.rs_script.specs.Answers.{damaged_line, verified_text}
use Rattle.rs_script.proofs.answer.write_verified.Goals as goal

pub returns-in_err-write_damaged-clause-written : goal.returns-in_err-write_damaged-clause-written
returns-in_err-write_damaged-clause-written g c =
    stops_first g.W.Write.contents c.from_residual.result c.args.writer.now c.write_damaged.new.writer (flat_map damaged_line c.args.names.now)
    (codes "verified " ++ (decimal c.args.sound ++ codes "\n")) (verified_text c.args.names.now c.args.sound) c.from_residual.ensures.0
    c.in_err-write_damaged.ensures.fault refl

pub returns-clause-written : goal.returns-clause-written
returns-clause-written g c =
    writes_then g.W.Write.contents c.write_sound.result c.args.writer.now c.write_damaged.new.writer c.write_sound.new.writer (flat_map damaged_line c.args.names.now)
    (codes "verified " ++ (decimal c.args.sound ++ codes "\n")) (verified_text c.args.names.now c.args.sound)
    c.in_ok-write_damaged.ensures.ok c.write_sound.ensures.written refl
