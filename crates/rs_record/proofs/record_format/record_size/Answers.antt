-- The lengths of the fields.
use Rattle.std.proofs.Common.{◌≡◌, ◌+◌, length, ap, sym, ◌∙◌, arith}
use Rattle.rs_record.proofs.Pieces.{length-record_bytes}
use Rattle.rs_record.proofs.record_format.record_size.Goals as goal

pub returns-clause-size : goal.returns-clause-size
returns-clause-size c =
    let r = c.args.record.now in
    let sum : 1 + length c.bytes.result.now + c.facts_size.result + 16 ≡ 22 + length r.name + length r.kind + length r.digests.md5 + length r.digests.sha256 = omega (arith, ap length c.bytes.ensures.value) in
    sum ∙ sym (length-record_bytes r)
