-- The digits of the status, its phrase and the date, between constant texts.
use Rattle.std.proofs.Common.{◌≡◌, ◌∙◌, ◌++◌, ap, codes, decimal}
use Rattle.httpdate.specs.Date.{date_text}
use Rattle.rs_http.proofs.FromBelow.{writes_either, writes_same}
use Rattle.rs_http.specs.Responses.{first_lines}
use Rattle.rs_http.specs.Statuses.{code_of, phrase_of}
use Rattle.rs_http.proofs.response.write_first.Goals as goal

pub returns-clause-written : goal.returns-clause-written
unfolding first_lines
returns-clause-written g c =
    let digits : c.as_bytes.result.now ≡ decimal (code_of c.args.status) = c.as_bytes.ensures.value ∙ c.format.ensures.text ∙ ap decimal c.code.ensures in
    let phrase : c.as_bytes-2.result.now ≡ phrase_of c.args.status = c.as_bytes-2.ensures.value ∙ c.phrase.ensures in
    let date : c.to_bytes.result ≡ date_text c.args.date.now = c.to_bytes.ensures in
    writes_same g.W.Write.contents c.put_all.result c.args.writer.now c.put_all.new.self _ (first_lines c.args.status (date_text c.args.date.now))
    (writes_either g.W.Write.contents c.put_all.result c.args.writer.now c.put_all.new.self _ c.put_all.ensures.ok c.put_all.ensures.fault)
    (λ i. codes "HTTP/1.1 " ++ (digits i ++ (codes " " ++ (phrase i ++ (codes "\r\nDate: " ++ (date i ++ codes "\r\nConnection: close\r\n"))))))
