use Rattle.std.proofs.Common.{subst}
use Rattle.rs_image.specs.declared.contents.Contents.{Contents}
use Rattle.rs_lists.specs.Shown.{IsShown}
use Rattle.rs_store.specs.Views.{shown_in}
use Rattle.rs_store.proofs.view.SourceViewView.limit.Goals as goal

pub returns-clause-bounds : goal.returns-clause-bounds
returns-clause-bounds g c =
    let P : Contents → Type 0 = λ l. IsShown (shown_in l) in
    subst P c.contents-contents.ensures.value
    (record {
      low = c.items.ensures.low;
      high = c.items.ensures.high;
      published = c.len-published.ensures.lawful.held.room;
      changes = c.len-changes.ensures.lawful.kept.room;
      first = c.contents-contents.ensures.first;
    })
