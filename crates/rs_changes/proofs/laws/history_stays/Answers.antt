use Rattle.rs_changes.proofs.laws.history_stays.Goals as goal

pub returns : goal.returns
returns c kept refs old new pages inside keeps holds =
    record { hold = c.pages_stay.ensures.pages kept refs old new pages inside keeps holds.hold; kept = holds.kept }
