use Rattle.std.proofs.Common.{◌≡◌, ◌<◌, arith}
use Rattle.std.proofs.lemmas.Bool.Decides.{nat_tests}
use Rattle.rs_pages.proofs.Dropped.{stays_is, cut_is}
use Rattle.rs_pages.proofs.dropping.without_items.Goals as goal

pub returns-then-count-eq0 : goal.returns-then-count-eq0
returns-then-count-eq0 g c =
    let none : c.args.count ≡ 0 = grind (arith, nat_tests) in
    stays_is c.args.count c.args.pages.now c.in_ok-left.left.items c.copy_into.new.copied.items none c.in_ok-left.ensures.items c.in_ok-copy_into.ensures

pub returns : goal.returns
returns g c =
    let some : 0 < c.args.count = grind (arith, nat_tests) in
    cut_is c.args.count c.args.pages.now c.in_ok-left.left.items c.cut_full_into.new.pages.items c.copy_into-2.new.copied.items c.index-pages-0.result c.items.result.now c.in_ok-items.items.items
    some (c.requires some) c.index-pages-0.is c.items.ensures.items c.in_ok-items.ensures c.in_ok-left.ensures.items c.in_ok-cut_full_into.ensures c.in_ok-copy_into-2.ensures
