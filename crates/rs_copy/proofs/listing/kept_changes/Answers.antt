use Rattle.std.proofs.Common.{◌≡◌, ◌<◌, ◌≤◌, ◌∷◌, [], ◌++◌, ◌+◌, List, length, take, get_or, sym, ◌∙◌, subst, arith}
use Rattle.std.proofs.lemmas.List.{take_more, take_all}
use Rattle.std.proofs.lemmas.Option.{get_or_from_slice_get}
use Rattle.rs_record.specs.declared.change.Change.{Change}
use Rattle.rs_changes.specs.History.{changes_of, AreKept}
use Rattle.rs_copy.proofs.listing.kept_changes.Goals as goal

pub loop-i-preserved : goal.loop-i-preserved
loop-i-preserved c =
    let all = changes_of c.args.history.now.pages in
    let i = c.loop-i.i in
    let next = c.at.result.now in
    let within : i < length all = omega (arith, c.len-i-end.ensures.value, c.loop-i-test.true) in
    let there : c.in_ok-copy.field-0 ≡ get_or all i next = c.in_ok-copy.ensures ∙ sym (get_or_from_slice_get all i next next c.at.ensures) in
    let so_far : c.loop-i.changes.items ++ c.in_ok-copy.field-0 ∷ [] ≡ take i all ++ get_or all i next ∷ [] = λ k. c.loop-i.invariant k ++ there k ∷ [] in
    let more : take i all ++ get_or all i next ∷ [] ≡ take (i + 1) all = sym (take_more all i next within) in
    ◌∙◌ {A = List Change} c.in_ok-push.ensures.items (so_far ∙ more)

pub returns-clause-lawful : goal.returns-clause-lawful
returns-clause-lawful c =
    let all = changes_of c.args.history.now.pages in
    let past : length all ≤ c.loop-i.i = omega (arith, c.loop-i-test.false, c.len-i-end.ensures.value) in
    let is : all ≡ c.loop-i.changes.items = sym (take_all c.loop-i.i all past) ∙ sym c.loop-i.invariant in
    subst AreKept is c.len-i-end.ensures.lawful.kept
