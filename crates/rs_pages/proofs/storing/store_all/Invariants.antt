use Rattle.rs_pages.proofs.StoredUpTo.{StoredUpTo}
use Rattle.rs_pages.proofs.storing.store_all.Given as goal

abbrev pub invariant-loop-page : goal.invariant-loop-page
invariant-loop-page g l =
    record {
      so_far : StoredUpTo g.T.PageItem.format l.page-index l.initial.pages l.pages (g.D.Disk.state l.initial.disk) (g.D.Disk.state l.disk);
    }
