use Rattle.rs_http.proofs.Replying.{request_gets, broken_idles}
use Rattle.rs_http.proofs.laws.requests_get_one.Goals as goal

pub returns-clause-answered : goal.returns-clause-answered
returns-clause-answered g c = λ turn.
    request_gets g.D.Disk.state c.held_sources_rest.ensures.idle c.runs_go_on.ensures.reading c.runs_go_on.ensures.command c.runs_go_on.ensures.coming turn

pub returns-clause-broken : goal.returns-clause-broken
returns-clause-broken g c = λ turn.
    broken_idles g.D.Disk.state c.held_sources_rest.ensures.idle c.runs_go_on.ensures.reading c.runs_go_on.ensures.command c.runs_go_on.ensures.coming turn
