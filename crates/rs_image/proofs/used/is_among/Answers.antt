use Rattle.std.proofs.Common.{◌∙◌}
use Rattle.std.specs.Prelude.{nat_eq, bytes_eq, ◌&&◌}
use Rattle.rs_page.specs.declared.place.PageRef.{PageRef}
use Rattle.rs_page.specs.contracts.place.PageRefOrd.TheImpl.Laws.{total-law, matches_eq-law}
use Rattle.rs_page.specs.Pages.{same_page}
use Rattle.rs_image.proofs.Searched.{search_finds, level, grouped}
use Rattle.rs_image.proofs.used.is_among.Goals as goal

pub returns : goal.returns
returns c =
    let page = c.args.page.now in
    let tests = λ (other : PageRef).
    grouped (nat_eq page.extent.first other.extent.first && nat_eq page.extent.blocks other.extent.blocks) (nat_eq page.length other.length)
    (bytes_eq page.sha256 other.sha256) ∙ level total-law matches_eq-law page other in
    c.is_ok.ensures.value ∙ search_finds _ total-law (same_page page) page tests c.args.sorted.now c.binary_search.result c.requires
    c.binary_search.ensures.bound c.binary_search.ensures.position
