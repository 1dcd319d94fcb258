use Rattle.std.proofs.Common.{sym, subst}
use Rattle.rs_catalogue.specs.Catalogue.{AreHeld}
use Rattle.rs_catalogue.proofs.Joined.{joined}
use Rattle.rs_catalogue.proofs.laws.stored_catalogue_is_held.Goals as goal

pub returns : goal.returns
returns c pages image keeps stored stand =
    record {
      hold = c.stored_pages_stand.ensures.pages pages image stored stand;
      held = subst AreHeld (sym (joined pages)) keeps.held;
    }
