use Rattle.std.proofs.Common.{◌≡◌, ℕ, drop, ◌+◌, ◌∙◌, ap, arith}
use Rattle.rs_directory.proofs.Naming.{entries_behind, entries_within, are_lawful}
use Rattle.rs_directory.proofs.named.entries_of.Goals as goal

pub returns : goal.returns
returns c pages names =
    let at : c.min.result ≡ c.others.result + c.base_length.result = omega (arith, c.min.ensures, c.others.ensures, c.base_length.ensures.value, entries_within c.args.version c.args.bytes.now pages names) in
    record {
      lawful = are_lawful c.args.version c.args.bytes.now pages names;
      spelled = c.split_at.ensures.back ∙ ap (λ (n : ℕ). drop n c.args.bytes.now) (at ∙ (λ i. c.others.ensures i + c.base_length.ensures.value i))
          ∙ entries_behind c.args.version c.args.bytes.now pages names;
    }
