-- A line whose bytes are not kept begins no group.
use Rattle.std.proofs.Common.{◌≡◌, ◌⊎◌, inl, inr, ℕ, List, None, sym, subst, arith}
use Rattle.rs_script.specs.declared.line.Content.{Content}
use Rattle.rs_script.specs.declared.line.Content.TheVariants.{Foreign, Refused, TooLong}
use Rattle.rs_script.specs.PartialLine.{IsContent}
use Rattle.rs_script.specs.Statements.{group_size}
use Rattle.rs_script.proofs.ForeignLemmas.{long_begins_none}
use Rattle.rs_script.proofs.group.size_begun.Goals as goal

unkept : (content : Content) (line : List ℕ) → (content ≡ Foreign) ⊎ ((content ≡ Refused) ⊎ (content ≡ TooLong)) → IsContent content line
    → None ≡ group_size line
unkept content line (inl e) is = let k : IsContent Foreign line = subst (λ (c : Content). IsContent c line) e is in sym k.1.no_group
unkept content line (inr (inl e)) is = let k : IsContent Refused line = subst (λ (c : Content). IsContent c line) e is in sym (long_begins_none line (omega (arith, k.1)))
unkept content line (inr (inr e)) is =
    let k : IsContent TooLong line = subst (λ (c : Content). IsContent c line) e is in
    sym (long_begins_none line (omega (arith, k)))

pub returns-in-Foreign : goal.returns-in-Foreign
returns-in-Foreign c = record {
  value = λ line is. unkept c.args.content line c.in-Foreign.is is;
  some = tt;
}
