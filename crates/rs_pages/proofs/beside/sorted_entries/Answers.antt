use Rattle.std.proofs.Common.{rules}
use Rattle.std.proofs.lemmas.List.Sorted.{answers_always}
use Rattle.rs_pages.proofs.ByEntry.{in_order}
use Rattle.rs_pages.proofs.beside.sorted_entries.Goals as goal

pub returns-clause-sorted : goal.returns-clause-sorted
returns-clause-sorted g c = c.sort_unstable_by_key.ensures.sorted (λ at. at.entry) (answers_always _ _ _ (λ f a r g called. search rules))

pub returns-clause-entries : goal.returns-clause-entries
returns-clause-entries g c = in_order c.args.pages.now c.in_ok-entries.entries.items _ c.sort_unstable_by_key.ensures.permutation c.in_ok-entries.ensures
