use Rattle.rs_http.proofs.Walks.{requests_walk, broken_bodies_walk}
use Rattle.rs_http.proofs.laws.requests_make_walks.Goals as goal

pub returns-clause-answered : goal.returns-clause-answered
returns-clause-answered g c =
    requests_walk g.D.Disk.state g.met.D.Disk.holds c.held_sources_rest.ensures.stands c.runs_go_on.ensures.reading
    c.commands_make_walks.ensures.open c.paths_are_answered.ensures.documents c.paths_are_answered.ensures.bodies

pub returns-clause-broken : goal.returns-clause-broken
returns-clause-broken g c =
    broken_bodies_walk g.D.Disk.state g.met.D.Disk.holds c.held_sources_rest.ensures.stands c.runs_go_on.ensures.reading
    c.commands_make_walks.ensures.open c.paths_are_answered.ensures.documents c.paths_are_answered.ensures.bodies
