-- The clauses are lemmas.
use Rattle.rs_page.proofs.Standing.{written_stand, standing_are_pages, pages_stand}
use Rattle.rs_page.proofs.laws.stored_pages_stand.Goals as goal

pub returns-clause-written : goal.returns-clause-written
returns-clause-written g c = written_stand g.T.PageItem.format

pub returns-clause-pages : goal.returns-clause-pages
returns-clause-pages g c = standing_are_pages g.T.PageItem.format

pub returns-clause-back : goal.returns-clause-back
returns-clause-back g c = pages_stand g.T.PageItem.format
