-- One more connection, and the answers of all connections, with the state and the run after them.
use Rattle.std.proofs.Common.{◌≡◌, ℕ, arith, subst}
use Rattle.rs_source.proofs.Connecting.{AreSoFar, none_yet, one_more, serves_accepted, accepted_go, accepted_run}
use Rattle.rs_source.proofs.serving.serve_accepted.Goals as goal

pub loop-init : goal.loop-init
loop-init g c = none_yet g.D.Disk.state g.L.Listener.accepted g.met.L.Listener.rests c.args.listener.now c.args.source.now

pub loop-preserved : goal.loop-preserved
loop-preserved g c =
    one_more g.D.Disk.state g.L.Listener.accepted g.met.L.Listener.joins c.args.listener.now c.loop.listener c.serve_next.new.listener
    c.args.source.now c.loop.source c.serve_next.new.source c.loop.counter c.loop.invariant c.serve_next.ensures.accepted

pub returns-clause-accepted : goal.returns-clause-accepted
returns-clause-accepted g c =
    let device = g.D.Disk.state in
    let accepted = g.L.Listener.accepted in
    let all : c.loop.counter ≡ c.args.count = omega arith in
    serves_accepted device accepted c.held_sources_rest.ensures.idle c.runs_go_on.ensures.join c.turns_are_seen.ensures
    c.args.listener.now c.loop.listener c.args.source.now c.loop.source c.args.count
    (subst (λ (n : ℕ). AreSoFar device accepted c.args.listener.now c.args.source.now n c.loop.listener c.loop.source) all c.loop.invariant)

pub returns-clause-goes_on : goal.returns-clause-goes_on
returns-clause-goes_on g c =
    let device = g.D.Disk.state in
    let accepted = g.L.Listener.accepted in
    let all : c.loop.counter ≡ c.args.count = omega arith in
    accepted_go device accepted c.args.listener.now c.loop.listener c.args.source.now c.loop.source c.args.count
    (subst (λ (n : ℕ). AreSoFar device accepted c.args.listener.now c.args.source.now n c.loop.listener c.loop.source) all c.loop.invariant)

pub returns-clause-run : goal.returns-clause-run
returns-clause-run g c =
    let device = g.D.Disk.state in
    let accepted = g.L.Listener.accepted in
    let all : c.loop.counter ≡ c.args.count = omega arith in
    accepted_run device accepted c.held_sources_rest.ensures.idle c.runs_recover.ensures.idle c.runs_recover.ensures.join
    c.args.listener.now c.loop.listener c.args.source.now c.loop.source c.args.count
    (subst (λ (n : ℕ). AreSoFar device accepted c.args.listener.now c.args.source.now n c.loop.listener c.loop.source) all c.loop.invariant)
