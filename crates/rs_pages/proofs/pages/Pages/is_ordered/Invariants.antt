use Rattle.std.proofs.Common.{take}
use Rattle.std.specs.Prelude.{IsTrue}
use Rattle.rs_model.specs.Names.{is_ordered}
use Rattle.rs_page.specs.Pages.{items_of}
use Rattle.rs_pages.specs.Items.{keyed}
use Rattle.rs_pages.proofs.pages.Pages.is_ordered.Given as goal

abbrev pub invariant-loop-i : goal.invariant-loop-i
invariant-loop-i g l = IsTrue (is_ordered (keyed g.T.Named.name (take l.i (items_of l.self))))
