-- A request is a run, and runs recover.
use Rattle.std.proofs.Common.{[]}
use Rattle.rs_http.proofs.laws.requests_recover.Goals as goal

pub returns-clause-answered : goal.returns-clause-answered
returns-clause-answered g c = λ turn plan more rest outcome gives counted counts.
    c.runs_recover.ensures.recover turn.old turn.new counted (c.requests_are_runs.ensures.answered turn plan more rest outcome gives counted counts)

pub returns-clause-broken : goal.returns-clause-broken
returns-clause-broken g c = λ turn plan more broken.
    c.runs_recover.ensures.recover turn.old turn.new [] (c.requests_are_runs.ensures.broken turn plan more broken)
