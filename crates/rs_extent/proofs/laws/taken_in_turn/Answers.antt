use Rattle.rs_extent.proofs.Taken.{taken_both, taken_before, can_behind, can_front}
use Rattle.rs_extent.proofs.laws.taken_in_turn.Goals as goal

pub returns-clause-taken : goal.returns-clause-taken
returns-clause-taken c old mid new xs ys front behind =
    (taken_both old mid new xs ys front behind, taken_before old mid new ys xs front behind)

pub returns-clause-can : goal.returns-clause-can
returns-clause-can c old mid xs ys can = (can_behind old xs ys can, λ taken. can_front old mid xs ys taken can)
