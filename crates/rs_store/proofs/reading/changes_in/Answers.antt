use Rattle.std.proofs.Common.{◌≡◌, ◌<◌, ◌∷◌, [], ◌++◌, length, get_or, sym, ◌∙◌, arith}
use Rattle.std.proofs.lemmas.List.{take_more}
use Rattle.std.proofs.lemmas.Option.{get_or_from_slice_get}
use Rattle.rs_changes.specs.History.{changes_of}
use Rattle.rs_store.proofs.reading.changes_in.Goals as goal

pub loop-i-preserved : goal.loop-i-preserved
loop-i-preserved c =
    let all = changes_of c.args.history.now.pages in
    let i = c.loop-i.i in
    let next = c.at.result.now in
    let within : i < length all = omega (arith, c.len-len.ensures.value, c.loop-i-test.true) in
    let there : c.in_ok-copy.field-0 ≡ get_or all i next = c.in_ok-copy.ensures ∙ sym (get_or_from_slice_get all i next next c.at.ensures) in
    c.in_ok-push.ensures.items ∙ (λ k. c.loop-i.invariant k ++ there k ∷ []) ∙ sym (take_more all i next within)
