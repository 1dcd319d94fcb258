use Rattle.std.proofs.Common.{◌++◌, ◌∙◌, ap}
use Rattle.std.specs.Int.{w16, w64, to_be_bytes}
use Rattle.rs_directory.proofs.Pieces.{nine_joined, header_pieces}
use Rattle.rs_directory.proofs.format.append_header.Goals as goal

pub returns-clause-items : goal.returns-clause-items
returns-clause-items c =
    nine_joined _ _ _ _ _ _ _ _ _ _ _ _ _ _ _ _ _ _ _ c.append.ensures.items c.append-2.ensures.items c.append-3.ensures.items c.append-4.ensures.items
    c.append-5.ensures.items c.append-6.ensures.items c.append-7.ensures.items c.append-8.ensures.items c.append-9.ensures.items
    ∙ ap (λ x. c.args.out.now.items ++ x)
    (header_pieces c.args.header.now _ _ _ _ _ _ _ _ (c.to_be_bytes.ensures
    ∙ ap (to_be_bytes w16) c.items.ensures.value) c.bytes-base.ensures.value (c.to_be_bytes-2.ensures ∙ ap (to_be_bytes w64) c.ms.ensures.value)
    (c.to_be_bytes-3.ensures ∙ ap (to_be_bytes w64) c.ms-2.ensures.value) c.to_be_bytes-4.ensures (c.to_be_bytes-5.ensures
    ∙ ap (to_be_bytes w64) c.ms-3.ensures.value) c.to_be_bytes-6.ensures (c.to_be_bytes-7.ensures ∙ ap (to_be_bytes w64) c.ms-4.ensures.value))
