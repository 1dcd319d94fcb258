-- The law is a lemma.
use Rattle.rs_directory.proofs.OneDirectory.{one_directory}
use Rattle.rs_directory.proofs.laws.directory_reads_once.Goals as goal

pub returns : goal.returns
returns c = one_directory
