-- The length, between constant texts.
use Rattle.std.proofs.Common.{◌≡◌, ◌∙◌, ◌++◌, [], codes, decimal}
use Rattle.rs_http.specs.declared.status.StatusCode.TheVariants as statuses
use Rattle.rs_http.proofs.FromBelow.{writes_same}
use Rattle.rs_http.specs.Responses.{content_lines, framed}
use Rattle.rs_http.proofs.response.write_document_head.Goals as goal

pub returns-clause-written : goal.returns-clause-written
unfolding content_lines
returns-clause-written g c =
    let digits : c.as_bytes.result.now ≡ decimal c.args.length = c.as_bytes.ensures.value ∙ c.format.ensures.text in
    writes_same g.W.Write.contents c.write_response.result c.args.writer.now c.write_response.new.writer _
    (framed c.args.framing statuses.Ok (content_lines (codes "application/xml") c.args.length) []) c.write_response.ensures.written
    (λ i. framed c.args.framing statuses.Ok (codes "Content-Type: " ++ (codes "application/xml" ++ (codes "\r\nContent-Length: " ++ (digits i ++ codes "\r\n\r\n")))) [])
