use Rattle.std.proofs.Common.{◌≡◌, [], length, sym, ◌∙◌, ap, arith}
use Rattle.std.proofs.lemmas.Bool.Decides.{nat_tests}
use Rattle.std.proofs.lemmas.List.{append-nil}
use Rattle.std.proofs.lemmas.Result.{err_from_is_err_and}
use Rattle.rs_page.specs.Format.{kind_byte, items_bytes}
use Rattle.rs_page.proofs.OneList.{same_head, left_after}
use Rattle.rs_page.proofs.reading.read_items.Goals as goal

pub returns-in_err-items-clause-malformed : goal.returns-in_err-items-clause-malformed
returns-in_err-items-clause-malformed g c =
    let p = err_from_is_err_and c.from_residual.result c.from_residual.ensures.1 in
    let format = g.T.PageItem.format in
    rw (p.1, p.2)
    (λ malformed items of_items same.
    let parts = same_head c.in-Some.kind (kind_byte format.kind) c.in-Some.count (length items) c.in-Some.rest.now (items_bytes format items)
    c.in-Some.ensures.0 (omega (arith, of_items.most)) (sym c.in-Some.ensures.1 ∙ same) in
    c.in_err-items.ensures.malformed (cc) items [] (sym parts.1) of_items.lawful (parts.2 ∙ sym (append-nil (items_bytes format items))))

pub returns-then-not-is_empty-clause-malformed : goal.returns-then-not-is_empty-clause-malformed
returns-then-not-is_empty-clause-malformed g c = λ malformed items of_items same.
    let none = left_after g.T.PageItem.format c.formats_stand_alone.ensures c.in-Some.kind c.in-Some.count c.args.bytes.now c.in-Some.rest.now c.in_ok-items.rest.now
    c.in_ok-items.items.items items c.in-Some.ensures.0 c.in-Some.ensures.1 c.in_ok-items.ensures.count c.in_ok-items.ensures.lawful c.in_ok-items.ensures.found of_items same in
    let long : length c.in_ok-items.rest.now ≡ 0 = ap length none in
    grind (arith, nat_tests, c.if-not-is_empty.ensures, c.if-not-is_empty.true, long)
