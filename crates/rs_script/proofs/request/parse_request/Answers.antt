-- Every number of fields.
use Rattle.std.proofs.Common.{◌≡◌, ◌∷◌, [], ◌∙◌, ap, inl}
use Rattle.rs_items.specs.Fields.{fields}
use Rattle.rs_script.proofs.FromBelow.{fields-zero}
use Rattle.rs_script.specs.Requests.{request_of}
use Rattle.rs_script.proofs.RoomLemmas.{argument_length, longer, or_longer}
use Rattle.rs_script.proofs.request.parse_request.Goals as goal

pub returns-in_default : goal.returns-in_default
unfolding request_of
returns-in_default c = rw (c.in_default.ensures.none 1) (inl c.request_alone.ensures)

pub returns-in-None : goal.returns-in-None
unfolding request_of
returns-in-None c =
    let cut = c.in-Some.ensures.some 0 in
    let both : fields 1 c.args.line.now ≡ c.in-Some.word.now ∷ c.in-Some.argument.now ∷ [] = cut ∙ ap (λ l. c.in-Some.word.now ∷ l) (fields-zero c.in-Some.argument.now) in
    rw (c.in-Some.ensures.some 1, c.in-None.ensures.none 0)
    (longer c.in-Some.argument.now c.args.line.now (argument_length c.args.line.now c.in-Some.word.now c.in-Some.argument.now both) c.request_with.ensures)

pub returns-in-Some-split_field : goal.returns-in-Some-split_field
unfolding request_of
returns-in-Some-split_field c =
    let parts = c.in-Some-split_field.field-0 in
    rw (c.in-Some.ensures.some 1, c.in-Some-split_field.ensures.some 0, fields-zero parts.1.now) (or_longer c.parse_item.ensures)
