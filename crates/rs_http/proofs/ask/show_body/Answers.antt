-- The memory for the type of a body is refused.
use Rattle.rs_http.specs.Turn.{turn}
use Rattle.rs_http.specs.Responses.{refused}
use Rattle.rs_http.proofs.Asking.{answered, kind_refused}
use Rattle.rs_http.proofs.ask.show_body.Goals as goal

pub returns : goal.returns
returns g c = λ now.
    answered (refused c.in-Err-kind.refusal)
    (kind_refused (turn g.D.Disk.state c.args.source.now now c.body.new.self) c.args.name.now c.in-Ok.bytes c.in-Ok.ensures c.in-Err-kind.refusal
    c.in-Err-kind.ensures.closed c.in-Err-kind.ensures.not_held c.in-Err-kind.ensures.others) c.write_refusal-in-Err-kind.ensures
