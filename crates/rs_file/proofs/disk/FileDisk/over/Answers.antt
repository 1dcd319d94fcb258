use Rattle.rs_file.proofs.Replaying.{first_sound, opened_first}
use Rattle.rs_file.proofs.disk.FileDisk.over.Goals as goal

pub invariant_of-result-clause-sound : goal.invariant_of-result-clause-sound
invariant_of-result-clause-sound g c = first_sound g.S.Start.first g.S.Start.torn c.args.size c.new.result.log.events c.new.ensures

pub returns-clause-first : goal.returns-clause-first
returns-clause-first g c = opened_first g.S.Start.first g.S.Start.torn c.args.size c.new.result.log.events c.new.ensures
