-- The clauses are lemmas.
use Rattle.rs_page.proofs.Standing.{page_stays, pages_stay, stored_pages_stay, written_stay}
use Rattle.rs_page.proofs.laws.pages_stay.Goals as goal

pub returns-clause-page : goal.returns-clause-page
returns-clause-page g c = page_stays g.T.PageItem.format

pub returns-clause-pages : goal.returns-clause-pages
returns-clause-pages g c = pages_stay g.T.PageItem.format

pub returns-clause-stored : goal.returns-clause-stored
returns-clause-stored g c = stored_pages_stay g.T.PageItem.format

pub returns-clause-written : goal.returns-clause-written
returns-clause-written g c = written_stay g.T.PageItem.format
