-- The first lines, the others, and a body that a HEAD leaves out.
use Rattle.std.proofs.Common.{◌≡◌, ◌∙◌, ◌++◌, [], ap, sym, refl, append_assoc, append-nil, Bor, List, ℕ, if◌then◌else◌, Bool, subst}
use Rattle.std.specs.List.{flat_map}
use Rattle.httpdate.specs.Date.{date_text}
use Rattle.rs_io.specs.Watch.{Wrote}
use Rattle.rs_http.proofs.FromBelow.{wrote_then, stops_first, stops_then, writes_last}
use Rattle.rs_http.specs.Responses.{first_lines, sent_body, framed}
use Rattle.rs_http.proofs.response.write_response.Goals as goal

bytes_of : List (Bor (List ℕ)) → List ℕ
bytes_of pieces = flat_map (λ piece. piece.now) pieces

pub returns-in_err-write_first-clause-written : goal.returns-in_err-write_first-clause-written
unfolding bytes_of
returns-in_err-write_first-clause-written g c =
    stops_first g.W.Write.contents c.from_residual.result c.args.writer.now c.write_first.new.writer (first_lines c.args.status (date_text c.args.framing.date))
    (bytes_of c.args.lines.now ++ sent_body c.args.framing (bytes_of c.args.body.now)) (framed c.args.framing c.args.status (bytes_of c.args.lines.now) (bytes_of c.args.body.now))
    c.from_residual.ensures.0 c.in_err-write_first.ensures.written refl

pub returns-in_err-put_all-clause-written : goal.returns-in_err-put_all-clause-written
unfolding bytes_of
returns-in_err-put_all-clause-written g c =
    stops_then g.W.Write.contents c.from_residual-in_err-put_all.result c.args.writer.now c.write_first.new.writer c.put_all.new.self
    (first_lines c.args.status (date_text c.args.framing.date)) (bytes_of c.args.lines.now) (sent_body c.args.framing (bytes_of c.args.body.now))
    (framed c.args.framing c.args.status (bytes_of c.args.lines.now) (bytes_of c.args.body.now))
    c.from_residual-in_err-put_all.ensures.0 c.in_ok-write_first.ensures.written c.in_err-put_all.ensures.fault refl

pub returns-then-framing-clause-written : goal.returns-then-framing-clause-written
unfolding bytes_of
returns-then-framing-clause-written g c =
    let first = first_lines c.args.status (date_text c.args.framing.date) in
    let lines = bytes_of c.args.lines.now in
    let body = bytes_of c.args.body.now in
    let none : sent_body c.args.framing body ≡ [] = ap (λ (b : Bool). if b then [] else body) c.if-framing.true in
    let text : first ++ lines ≡ framed c.args.framing c.args.status lines body = sym (ap (λ (l : List ℕ). first ++ (lines ++ l)) none ∙ ap (λ (l : List ℕ). first ++ l) (append-nil lines)) in
    let P : List ℕ → Type 0 = λ l. Wrote g.W.Write.contents c.args.writer.now c.put_all.new.self l in
    subst P text (wrote_then g.W.Write.contents c.args.writer.now c.write_first.new.writer c.put_all.new.self first lines c.in_ok-write_first.ensures.written c.in_ok-put_all.ensures.ok)

pub returns-clause-written : goal.returns-clause-written
unfolding bytes_of
returns-clause-written g c =
    let first = first_lines c.args.status (date_text c.args.framing.date) in
    let lines = bytes_of c.args.lines.now in
    let body = bytes_of c.args.body.now in
    let all : body ≡ sent_body c.args.framing body = sym (ap (λ (b : Bool). if b then [] else body) c.if-framing.false) in
    writes_last g.W.Write.contents c.put_all-2.result c.args.writer.now c.put_all.new.self c.put_all-2.new.self (first ++ lines) body (framed c.args.framing c.args.status lines body)
    (wrote_then g.W.Write.contents c.args.writer.now c.write_first.new.writer c.put_all.new.self first lines c.in_ok-write_first.ensures.written c.in_ok-put_all.ensures.ok)
    c.put_all-2.ensures.ok c.put_all-2.ensures.fault (append_assoc first lines body ∙ ap (λ (l : List ℕ). first ++ (lines ++ l)) all)
