use Rattle.std.proofs.Common.{◌≡◌, take}
use Rattle.rs_page.specs.Pages.{stored_refs}
use Rattle.rs_pages.specs.Storing.{unshared}
use Rattle.rs_image.proofs.used.unshared_pages.Given as goal

abbrev pub invariant-loop-page : goal.invariant-loop-page
invariant-loop-page l = l.pages.items ≡ unshared (take l.page-index l.page-items) (stored_refs l.contents.catalogue)
