use Rattle.std.proofs.Common.{arith, ℕ, length, sym, ap}
use Rattle.rs_lists.proofs.Lengths.{length-hash_text_of}
use Rattle.rs_lists.proofs.meter.hash_length.Goals as goal

pub returns-clause-value : goal.returns-clause-value
returns-clause-value c = rw (c.as_slice-md5.ensures, c.as_slice-sha256.ensures) (sym (length-hash_text_of c.args.digests.now))

pub returns-clause-constant : goal.returns-clause-constant
returns-clause-constant c = omega (arith, ap (length {A = ℕ}) c.as_slice-md5.ensures, ap (length {A = ℕ}) c.as_slice-sha256.ensures)
