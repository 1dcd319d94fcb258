-- The clauses are lemmas.
use Rattle.rs_page.proofs.OneList.{page_holds_once, pages_hold_once}
use Rattle.rs_page.proofs.laws.pages_hold_once.Goals as goal

pub returns-clause-page : goal.returns-clause-page
returns-clause-page g c = page_holds_once g.T.PageItem.format c.formats_stand_alone.ensures

pub returns-clause-pages : goal.returns-clause-pages
returns-clause-pages g c = pages_hold_once g.T.PageItem.format c.formats_stand_alone.ensures
