use Rattle.std.proofs.Common.{sym, ap, ◌∙◌, subst}
use Rattle.rs_catalogue.proofs.FromBelow.{same_joined}
use Rattle.rs_catalogue.specs.Catalogue.{AreHeld, StandsUnstored, records_of}
use Rattle.rs_catalogue.proofs.MovedPages.{stands_again}
use Rattle.rs_catalogue.proofs.catalogue.Catalogue.place_touched.Goals as goal

pub invariant_of-self : goal.invariant_of-self
invariant_of-self c = subst AreHeld (sym (same_joined c.self.inside.pages c.place_touched.new.self c.place_touched.ensures.items)) c.self.invariant

pub returns-clause-unstored : goal.returns-clause-unstored
returns-clause-unstored c name h =
    stands_again name c.self.inside.pages c.place_touched.new.self c.place_touched.ensures.items c.place_touched.ensures.stored
    (subst (StandsUnstored name) (sym c.self.view_is) h)

pub returns-clause-records : goal.returns-clause-records
returns-clause-records c = same_joined c.self.inside.pages c.place_touched.new.self c.place_touched.ensures.items ∙ ap records_of c.self.view_is
