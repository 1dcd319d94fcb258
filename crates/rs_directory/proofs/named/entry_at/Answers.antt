use Rattle.std.proofs.Common.{rules, arith}
use Rattle.rs_directory.specs.Reading.{page_entry_at}
use Rattle.rs_directory.proofs.Entries.{begins_with}
use Rattle.rs_directory.proofs.named.entry_at.Goals as goal

pub returns-clause-some : goal.returns-clause-some
unfolding page_entry_at
returns-clause-some c = begins_with c.args.bytes.now _ _ (λ i. omega (arith, c.type_inv.bytes i)) (search rules)
