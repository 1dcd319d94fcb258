-- The length, between constant texts, and the word with its line feed.
use Rattle.std.proofs.Common.{◌≡◌, ◌∙◌, ◌++◌, ◌+◌, ap, sym, codes, decimal, length, length-append}
use Rattle.rs_http.proofs.FromBelow.{writes_same}
use Rattle.rs_http.specs.Responses.{content_lines, framed, plain, refusal_line}
use Rattle.rs_http.proofs.response.write_word.Goals as goal

pub returns-clause-written : goal.returns-clause-written
unfolding content_lines
returns-clause-written g c =
    let word = c.args.word.now in
    let count : length word + 1 ≡ length (refusal_line word) = sym (length-append word (codes "\n")) in
    let digits : c.as_bytes-2.result.now ≡ decimal (length (refusal_line word)) = c.as_bytes-2.ensures.value ∙ c.format.ensures.text ∙ ap decimal count in
    let allow : c.as_bytes.result.now ≡ c.args.allow.now = c.as_bytes.ensures.value in
    let told : c.as_bytes-3.result.now ≡ word = c.as_bytes-3.ensures.value in
    writes_same g.W.Write.contents c.write_response.result c.args.writer.now c.write_response.new.writer _
    (framed c.args.framing c.args.status (c.args.allow.now ++ content_lines plain (length (refusal_line word))) (refusal_line word)) c.write_response.ensures.written
    (λ i. framed c.args.framing c.args.status
    (allow i ++ (codes "Content-Type: " ++ (plain ++ (codes "\r\nContent-Length: " ++ (digits i ++ codes "\r\n\r\n"))))) (told i ++ codes "\n"))
