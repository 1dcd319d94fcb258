use Rattle.rs_pages.proofs.ByEntry.{EntriesUpTo}
use Rattle.rs_pages.proofs.beside.entries_of.Given as goal

abbrev pub invariant-loop-place : goal.invariant-loop-place
invariant-loop-place g l = EntriesUpTo l.place l.pages l.entries.items
