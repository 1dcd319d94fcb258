use Rattle.rs_disk.specs.Medium.{IsImage}
use Rattle.rs_disk.proofs.Steps.{write_leaves, sync_leaves}
use Rattle.rs_disk.proofs.laws.one_call_leaves.Goals as goal

pub returns-clause-write : goal.returns-clause-write
returns-clause-write c = λ old new at bytes result. write_leaves old new at bytes result

pub returns-clause-sync : goal.returns-clause-sync
returns-clause-sync c = λ old new result counts is ok err. sync_leaves old new (IsImage old.now) result counts is ok err (λ image left. left)
