use Rattle.std.proofs.Common.{rules}
use Rattle.std.proofs.lemmas.Fn.{always_returns_same}
use Rattle.rs_model.specs.Names.{by_bytes}
use Rattle.rs_model.proofs.Searches.{searched}
use Rattle.rs_model.proofs.names.place_in_order.Goals as goal

-- the closure compares an entry's name with the one that is looked for
pub returns : goal.returns
returns g c =
    let facts = c.binary_search_by.ensures in
    let compared = facts.position (λ e. by_bytes e.0 c.args.name.now) (always_returns_same _ _ _ (λ a r f called. search rules)) in
    searched c.args.name.now c.args.entries.now c.binary_search_by.result c.requires facts.bound compared
