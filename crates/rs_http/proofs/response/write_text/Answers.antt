-- The type and the length, between constant texts, and the body.
use Rattle.std.proofs.Common.{◌≡◌, ◌∙◌, ◌++◌, codes, decimal, length, append-nil}
use Rattle.rs_http.proofs.FromBelow.{writes_same}
use Rattle.rs_http.specs.Responses.{content_lines, framed}
use Rattle.rs_http.proofs.response.write_text.Goals as goal

pub returns-clause-written : goal.returns-clause-written
unfolding content_lines
returns-clause-written g c =
    let body = c.args.body.now in
    let digits : c.as_bytes-2.result.now ≡ decimal (length body) = c.as_bytes-2.ensures.value ∙ c.format.ensures.text in
    let allow : c.as_bytes.result.now ≡ c.args.allow.now = c.as_bytes.ensures.value in
    let all = append-nil body in
    writes_same g.W.Write.contents c.write_response.result c.args.writer.now c.write_response.new.writer _
    (framed c.args.framing c.args.status (c.args.allow.now ++ content_lines c.args.kind.now (length body)) body) c.write_response.ensures.written
    (λ i. framed c.args.framing c.args.status
    (allow i ++ (codes "Content-Type: " ++ (c.args.kind.now ++ (codes "\r\nContent-Length: " ++ (digits i ++ codes "\r\n\r\n"))))) (all i))
