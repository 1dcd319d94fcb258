-- The request was served, and whether it was refused.
use Rattle.rs_source.proofs.serving.SourceService.serve.Goals as goal

pub returns : goal.returns
returns g c = (
  record {
    result = c.serve_request.result;
    request = c.serve_request.ensures.request;
    answered = c.serve_request.ensures.answered;
    once = c.serve_request.ensures.once;
    run = c.serve_request.ensures.run;
  },
  c.is_refused.ensures,
)
