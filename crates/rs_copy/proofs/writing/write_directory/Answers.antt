use Rattle.std.proofs.Common.{[], ◌∷◌, refl}
use Rattle.rs_copy.proofs.FromBelow.{only_as, part_only}
use Rattle.rs_copy.specs.declared.faults.CopyFault.TheVariants.{Device}
use Rattle.rs_copy.proofs.Handed.{err_is}
use Rattle.rs_copy.proofs.writing.write_directory.Goals as goal

pub returns-in_err-write_body-clause-writes : goal.returns-in_err-write_body-clause-writes
returns-in_err-write_body-clause-writes g c =
    only_as (c.args.extent ∷ []) _ _ (λ is. err_is c.from_residual-in_err-write_body.result Device c.from_residual-in_err-write_body.ensures.1) (λ is. refl)
    (part_only c.args.extent 0 _ _ _ c.in_err-write_body.ensures.writes)

pub returns-clause-writes : goal.returns-clause-writes
returns-clause-writes g c =
    only_as (c.args.extent ∷ []) _ _ (λ is. absurd cc) (λ is. absurd cc)
    (part_only c.args.extent 0 _ _ _ c.in_ok-write_body.ensures.writes)
