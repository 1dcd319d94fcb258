use Rattle.std.proofs.Common.{take}
use Rattle.std.specs.Prelude.{All}
use Rattle.rs_page.specs.Pages.{IsTouched}
use Rattle.rs_pages.proofs.storing.next_touched.Given as goal

abbrev pub invariant-loop-k : goal.invariant-loop-k
invariant-loop-k g l = All (λ page. ¬ IsTouched page.place) (take l.k l.pages)
