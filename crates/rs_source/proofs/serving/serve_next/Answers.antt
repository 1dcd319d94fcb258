-- The accepted connection and its answer.
use Rattle.rs_source.proofs.Connecting.{one_accepted, serves_accepted}
use Rattle.rs_source.proofs.serving.serve_next.Goals as goal

pub returns : goal.returns
returns g c =
    let device = g.D.Disk.state in
    let accepted = g.L.Listener.accepted in
    record {
      accepted =
          serves_accepted device accepted c.held_sources_rest.ensures.idle c.runs_go_on.ensures.join c.turns_are_seen.ensures
          c.args.listener.now c.next.new.self c.args.source.now c.next.new.service 1
          (one_accepted device accepted c.args.listener.now c.next.new.self c.args.source.now c.next.new.service c.next.ensures);
    }
