-- The length, between constant texts, and the number and the moment.
use Rattle.std.proofs.Common.{◌≡◌, ◌∙◌, ◌++◌, ◌+◌, [], ◌∷◌, ap, codes, decimal, length, length-append, arith, List, ℕ}
use Rattle.rs_time.specs.Moment.{moment_text}
use Rattle.rs_http.specs.declared.status.StatusCode.TheVariants as statuses
use Rattle.rs_http.proofs.FromBelow.{length-moment_text, writes_same}
use Rattle.rs_http.specs.Responses.{content_lines, framed, plain, reply_line}
use Rattle.rs_http.proofs.outcome.write_line.Goals as goal

line_length : (word : List ℕ) (number moment : ℕ) → length word + length (decimal number) + 26 ≡ length (reply_line word number moment)
line_length word number moment =
    let t = length-moment_text moment in
    simp length-append (omega arith)

pub returns-clause-written : goal.returns-clause-written
unfolding content_lines
returns-clause-written g c =
    let word = c.args.word.now in
    let told : c.as_bytes-2.result.now ≡ word = c.as_bytes-2.ensures.value in
    let number : c.as_bytes-number.result.now ≡ decimal c.args.number = c.as_bytes-number.ensures.value ∙ c.format.ensures.text in
    let moment : c.text.result ≡ moment_text c.args.moment = c.text.ensures in
    let digits : c.as_bytes.result.now ≡ decimal (length (reply_line word c.args.number c.args.moment)) = c.as_bytes.ensures.value ∙ c.format-2.ensures.text ∙ ap decimal (ap (λ (l : List ℕ). length word + length l + 26) number ∙ line_length word c.args.number c.args.moment) in
    writes_same g.W.Write.contents c.write_response.result c.args.writer.now c.write_response.new.writer _
    (framed c.args.framing statuses.Ok (content_lines plain (length (reply_line word c.args.number c.args.moment))) (reply_line word c.args.number c.args.moment)) c.write_response.ensures.written
    (λ i. framed c.args.framing statuses.Ok (codes "Content-Type: " ++ (plain ++ (codes "\r\nContent-Length: " ++ (digits i ++ codes "\r\n\r\n"))))
    (told i ++ (number i ++ (codes " " ++ (moment i ++ 10 ∷ [])))))
