use Rattle.rs_page.specs.Pages.{stored_refs}
use Rattle.rs_pages.specs.Storing.{unshared}
use Rattle.rs_pages.proofs.LoadedUpTo.{LoadedUpTo}
use Rattle.rs_pages.proofs.beside.load_all_beside.Given as goal

abbrev pub invariant-loop-page : goal.invariant-loop-page
invariant-loop-page g l =
    record {
      so_far : LoadedUpTo g.T.PageItem.format (λ refs. unshared refs (stored_refs l.beside)) l.page-index l.room l.pages l.beside l.loaded.items (g.D.Disk.state l.initial.disk) (g.D.Disk.state l.disk);
    }
