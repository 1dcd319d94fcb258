use Rattle.rs_http.proofs.Counting.{request_run, broken_run}
use Rattle.rs_http.proofs.laws.requests_are_runs.Goals as goal

pub returns-clause-answered : goal.returns-clause-answered
returns-clause-answered g c = λ turn.
    request_run g.D.Disk.state c.held_sources_rest.ensures.idle c.runs_go_on.ensures.reading c.runs_go_on.ensures.cut
    c.runs_recover.ensures.idle c.runs_recover.ensures.command turn

pub returns-clause-broken : goal.returns-clause-broken
returns-clause-broken g c = λ turn.
    broken_run g.D.Disk.state c.held_sources_rest.ensures.idle c.runs_go_on.ensures.reading c.runs_go_on.ensures.cut
    c.runs_recover.ensures.idle c.runs_recover.ensures.command turn
