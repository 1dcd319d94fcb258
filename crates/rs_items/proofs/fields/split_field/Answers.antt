-- A field ends at the first space.
use Rattle.std.proofs.Common.{◌≡◌, ◌+◌, ◌-◌, ◌∙◌, arith, drop, length, sym, take}
use Rattle.std.proofs.lemmas.Grind.{common_steps}
use Rattle.rs_items.proofs.FieldLemmas.{fields-cut, fields-last}
use Rattle.rs_items.proofs.fields.split_field.Goals as goal

pub returns-in-Some-clause-some : goal.returns-in-Some-clause-some
returns-in-Some-clause-some c = λ spaces.
    let bytes = c.args.bytes.now in
    let i = c.in-Some.i in
    let all : take (length bytes - (i + 1)) (drop (i + 1) bytes) ≡ drop (i + 1) bytes = grind (arith, common_steps) in
    rw all (fields-cut bytes i spaces (sym c.first_space.ensures ∙ c.in-Some.is))

pub returns-in-None-clause-none : goal.returns-in-None-clause-none
returns-in-None-clause-none c = λ spaces. fields-last c.args.bytes.now spaces (sym c.first_space.ensures ∙ c.in-None.is)
