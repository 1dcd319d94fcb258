use Rattle.rs_store.specs.Counted.{is_accepted, is_in_doubt}
use Rattle.rs_store.proofs.Turns.{closed_run, none_counts, closed_is_no_ok, closed_is_no_device, none_device}
use Rattle.rs_store.proofs.laws.closed_sources_stay.Goals as goal

pub returns-clause-closes : goal.returns-clause-closes
returns-clause-closes g c = none_device g.D.Disk.state

pub returns-clause-stays : goal.returns-clause-stays
returns-clause-stays g c = closed_run g.D.Disk.state

pub returns-clause-counts : goal.returns-clause-counts
returns-clause-counts g c = λ commands acks closed.
    (none_counts is_accepted closed_is_no_ok commands acks closed, none_counts is_in_doubt closed_is_no_device commands acks closed)
