use Rattle.std.proofs.Common.{◌≡◌, ◌++◌, length, All}
use Rattle.rs_page.specs.Format.{items_bytes}
use Rattle.rs_page.proofs.reading.read_first.Given as goal

abbrev pub invariant-loop : goal.invariant-loop
invariant-loop g l =
    record {
      count : length l.items.items ≡ l.counter;
      lawful : All g.T.PageItem.format.IsLawful l.items.items;
      found : l.bytes ≡ items_bytes g.T.PageItem.format l.items.items ++ l.rest;
    }
