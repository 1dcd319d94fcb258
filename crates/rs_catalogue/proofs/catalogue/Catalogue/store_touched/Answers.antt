use Rattle.std.proofs.Common.{sym, subst}
use Rattle.rs_page.specs.Items.{record_format}
use Rattle.rs_catalogue.proofs.FromBelow.{same_joined, items_kept}
use Rattle.rs_catalogue.specs.Catalogue.{AreHeld}
use Rattle.rs_catalogue.proofs.catalogue.Catalogue.store_touched.Goals as goal

pub invariant_of-self : goal.invariant_of-self
invariant_of-self g c =
    let kept = items_kept record_format _ c.self.inside.pages c.store_touched.new.self c.store_touched.result c.store_touched.ensures.ok c.store_touched.ensures.err in
    subst AreHeld (sym (same_joined c.self.inside.pages c.store_touched.new.self kept)) c.self.invariant
