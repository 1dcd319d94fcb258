use Rattle.std.proofs.Common.{arith, ◌≡◌, ◌∙◌, ◌+◌, length, ap}
use Rattle.rs_image.specs.StateOfImage.{AreAllStored, pages_in_all}
use Rattle.rs_image.proofs.Counts.{count_refs}
use Rattle.rs_image.proofs.Bounds.{refs_fit, fits, sized}
use Rattle.rs_image.proofs.contents.Contents.directory.Goals as goal

pub directory_bytes-requires-clause-catalogue : goal.directory_bytes-requires-clause-catalogue
directory_bytes-requires-clause-catalogue c =
    let lawful = c.in_ok-catalogue.ensures.lawful in
    refs_fit c.args.self.now.catalogue c.deref.result.now lawful.some lawful.held.room (c.deref.ensures.value ∙ c.in_ok-catalogue.ensures.pages)

pub directory_bytes-requires-clause-changes : goal.directory_bytes-requires-clause-changes
directory_bytes-requires-clause-changes c =
    let lawful = c.in_ok-changes.ensures.lawful in
    refs_fit c.args.self.now.history.pages c.deref-2.result.now lawful.some lawful.kept.room (c.deref-2.ensures.value ∙ c.in_ok-changes.ensures.pages)

pub directory_bytes-requires-clause-published : goal.directory_bytes-requires-clause-published
directory_bytes-requires-clause-published c =
    let lawful = c.in_ok-published.ensures.lawful in
    refs_fit c.args.self.now.published c.deref-3.result.now lawful.some lawful.held.room (c.deref-3.ensures.value ∙ c.in_ok-published.ensures.pages)

pub returns-clause-size : goal.returns-clause-size
returns-clause-size c =
    let lists = c.args.self.now in
    let entries : AreAllStored lists → length c.deref.result.now + length c.deref-2.result.now + length c.deref-3.result.now ≡ pages_in_all lists =
    λ stored.
    let catalogue : length c.deref.result.now ≡ length lists.catalogue =
    ap length (c.deref.ensures.value ∙ c.in_ok-catalogue.ensures.pages) ∙ count_refs lists.catalogue stored.catalogue in
    let history : length c.deref-2.result.now ≡ length lists.history.pages =
    ap length (c.deref-2.ensures.value ∙ c.in_ok-changes.ensures.pages) ∙ count_refs lists.history.pages stored.history in
    let published : length c.deref-3.result.now ≡ length lists.published =
    ap length (c.deref-3.ensures.value ∙ c.in_ok-published.ensures.pages) ∙ count_refs lists.published stored.published in
    omega (arith, catalogue, history, published) in
    sized c.directory_bytes.result lists (length c.deref.result.now + length c.deref-2.result.now + length c.deref-3.result.now) entries c.directory_bytes.ensures.size

pub returns-clause-fits : goal.returns-clause-fits
returns-clause-fits c =
    let catalogue = c.in_ok-catalogue.ensures.lawful in
    let history = c.in_ok-changes.ensures.lawful in
    let published = c.in_ok-published.ensures.lawful in
    fits c.directory_bytes.result c.args.self.now.header (length c.deref.result.now + length c.deref-2.result.now + length c.deref-3.result.now) _ _ _
    (omega (
      arith,
      refs_fit c.args.self.now.catalogue c.deref.result.now catalogue.some catalogue.held.room (c.deref.ensures.value ∙ c.in_ok-catalogue.ensures.pages),
      refs_fit c.args.self.now.history.pages c.deref-2.result.now history.some history.kept.room (c.deref-2.ensures.value ∙ c.in_ok-changes.ensures.pages),
      refs_fit c.args.self.now.published c.deref-3.result.now published.some published.held.room (c.deref-3.ensures.value ∙ c.in_ok-published.ensures.pages),
    ))
    c.directory_bytes.ensures.size c.directory_bytes.ensures.bytes
