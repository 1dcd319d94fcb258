use Rattle.rs_fixity.proofs.DigestBytes.{md5-bytes, sha256-bytes}
use Rattle.rs_fixity.proofs.laws.digests_are_bytes.Goals as goal

pub returns-clause-md5 : goal.returns-clause-md5
returns-clause-md5 c = md5-bytes

pub returns-clause-sha256 : goal.returns-clause-sha256
returns-clause-sha256 c = sha256-bytes
