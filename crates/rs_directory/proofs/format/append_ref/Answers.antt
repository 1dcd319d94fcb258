use Rattle.std.proofs.Common.{◌++◌, ◌∙◌, ap, refl}
use Rattle.rs_directory.proofs.Pieces.{four_joined, ref_pieces}
use Rattle.rs_directory.proofs.format.append_ref.Goals as goal

pub returns-clause-items : goal.returns-clause-items
returns-clause-items c =
    four_joined _ _ _ _ _ _ _ _ _ c.append.ensures.items c.append-2.ensures.items c.append-3.ensures.items c.append-4.ensures.items
    ∙ ap (λ x. c.args.out.now.items ++ x) (ref_pieces c.args.entry.now _ _ _ _ c.to_be_bytes.ensures c.to_be_bytes-2.ensures c.to_be_bytes-3.ensures refl)
