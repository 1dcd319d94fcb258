use Rattle.std.proofs.Common.{sym, subst}
use Rattle.rs_changes.specs.History.{AreKept}
use Rattle.rs_changes.proofs.Joined.{joined}
use Rattle.rs_changes.proofs.laws.stored_history_is_held.Goals as goal

pub returns : goal.returns
returns c pages image keeps stored stand =
    record {
      hold = c.stored_pages_stand.ensures.pages pages image stored stand;
      kept = subst AreKept (sym (joined pages)) keeps.kept;
    }
