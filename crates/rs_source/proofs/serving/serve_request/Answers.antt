-- All outcomes of the request.
use Rattle.rs_source.proofs.Connecting.{request_is}
use Rattle.rs_source.proofs.serving.serve_request.Goals as goal

pub returns-clause-request : goal.returns-clause-request
returns-clause-request g c = request_is _ _ c.serve_one.result c.serve_one.ensures.ok c.serve_one.ensures.read c.serve_one.ensures.write
