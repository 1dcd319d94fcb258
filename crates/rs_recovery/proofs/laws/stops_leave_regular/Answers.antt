use Rattle.std.proofs.Common.{take, subst}
use Rattle.rs_model.specs.Step.{fold_of}
use Rattle.rs_model.specs.Regular.{IsRegular}
use Rattle.rs_store.specs.Counted.{counted_commands}
use Rattle.rs_recovery.proofs.Sessions.{yields_held}
use Rattle.rs_recovery.proofs.laws.stops_leave_regular.Goals as goal

pub returns-clause-regular : goal.returns-clause-regular
returns-clause-regular c = λ s t commands acks m image regular prefix stands.
    let front = take prefix.j (counted_commands commands acks) in
    subst IsRegular (c.stands_once.ensures image (fold_of s front) t prefix.stands stands) (c.fold_is_regular.ensures.regular s front regular)

pub returns-clause-yields : goal.returns-clause-yields
returns-clause-yields c = λ s t commands acks m image regular prefix stands.
    yields_held t (returns-clause-regular c s t commands acks m image regular prefix stands)
