use Rattle.std.proofs.Common.{◌≤◌, ◌+◌, ℕ, length, subst, is_ok}
use Rattle.rs_file.proofs.Replaying.{write_sound, write_tears}
use Rattle.rs_file.proofs.disk.FileDiskDisk.write.Goals as goal

pub invariant_of-self-clause-sound : goal.invariant_of-self-clause-sound
invariant_of-self-clause-sound g c =
    let d = c.args.self.now in
    let fits : c.args.at + length c.args.bytes.now ≤ d.size = subst (λ (k : ℕ). c.args.at + length c.args.bytes.now ≤ k) d.long c.requires in
    write_sound g.S.Start.first g.S.Start.torn d.size d.file.log.events c.write-done.new.self.log.events c.args.at c.args.bytes.now (is_ok c.write-done.result) c.write-done.ensures.noted fits d.sound

pub returns-clause-tears : goal.returns-clause-tears
returns-clause-tears g c =
    let d = c.args.self.now in
    write_tears g.S.Start.first g.S.Start.torn d.size d.file.log.events c.write-done.new.self.log.events c.args.at c.args.bytes.now c.write-done.result c.write-done.ensures.noted
