use Rattle.std.proofs.Common.{[]}
use Rattle.rs_pages.proofs.LoadedUpTo.{LoadedUpTo}
use Rattle.rs_pages.proofs.loading.load_all.Given as goal

abbrev pub invariant-loop-page : goal.invariant-loop-page
invariant-loop-page g l =
    record {
      so_far : LoadedUpTo g.T.PageItem.format (λ refs. refs) l.page-index l.room l.pages [] l.loaded.items (g.D.Disk.state l.initial.disk) (g.D.Disk.state l.disk);
    }
