-- Either 17 items are kept already, or one more is.
use Rattle.std.proofs.Common.{◌≡◌, ◌∙◌, [], ◌∷◌, ◌++◌, take, sym, arith}
use Rattle.std.proofs.lemmas.List.{take_all, take-append-le}
use Rattle.rs_http.proofs.group.keep.Goals as goal

pub returns-then-len-ge-MOST_KEPT : goal.returns-then-len-ge-MOST_KEPT
returns-then-len-ge-MOST_KEPT c =
    let items = c.args.items.now.items in
    let all : take 17 items ≡ items = take_all 17 items c.requires in
    let first : take 17 (items ++ c.args.item ∷ []) ≡ take 17 items = take-append-le 17 items (c.args.item ∷ []) (omega arith) in
    sym (first ∙ all)
