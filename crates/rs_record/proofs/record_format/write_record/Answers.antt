-- The pieces, joined, are the format, and every field has the law of its type.
use Rattle.std.proofs.Common.{refl, ◌++◌, ap, ◌∙◌, arith, rules}
use Rattle.std.specs.Int.{w64, to_be_bytes}
use Rattle.std.proofs.lemmas.Result.{on_ok_weaker}
use Rattle.rs_record.proofs.Pieces.{record_pieces}
use Rattle.rs_record.proofs.record_format.write_record.Goals as goal

pub returns-clause-ok : goal.returns-clause-ok
returns-clause-ok c =
    on_ok_weaker c.append.result
    (λ d. d ∙ ap (λ x. c.args.out.now.items ++ x) (record_pieces c.args.record.now _ _ _ _ _ _ _ _ c.bytes-name.ensures.value c.bytes-kind.ensures.value c.to_be_bytes.ensures refl refl (c.to_be_bytes-2.ensures ∙ ap (to_be_bytes w64) c.ms.ensures.value) c.to_be_bytes-3.ensures c.to_be_bytes-4.ensures))
    c.append.ensures.ok

pub returns-clause-lawful : goal.returns-clause-lawful
returns-clause-lawful c =
    record {
      name = c.bytes-name.ensures.lawful;
      facts = record {
        kind = c.bytes-kind.ensures.lawful;
        len = omega arith;
        md5 = search rules;
        sha256 = search rules;
      };
      moment = c.ms.ensures.bound;
      first = omega arith;
      blocks = omega arith;
    }
