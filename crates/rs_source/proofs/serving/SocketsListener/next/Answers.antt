-- The connection that was accepted, whether its request was refused or not.
use Rattle.rs_source.proofs.Accepting.{accepts_one}
use Rattle.rs_source.proofs.serving.SocketsListener.next.Goals as goal

pub returns-then-answer_stream : goal.returns-then-answer_stream
returns-then-answer_stream g c =
    accepts_one (λ from connections to. Unit {0}) g.S.Service.serves c.args.self.now c.args.self.now (λ connections. tt)
    c.args.service.now c.answer_stream.new.service c.moment_of-now.result c.answer_stream.result c.answer_stream.ensures

pub returns : goal.returns
returns g c =
    accepts_one (λ from connections to. Unit {0}) g.S.Service.serves c.args.self.now c.args.self.now (λ connections. tt)
    c.args.service.now c.answer_stream.new.service c.moment_of-now.result c.answer_stream.result c.answer_stream.ensures
