-- The number of bytes, the text of the document, and the line feed.
use Rattle.std.proofs.Common.{ℕ, List, [], ◌∷◌, ◌++◌, ◌∙◌, codes, decimal, append_assoc, sym}
use Rattle.rs_script.proofs.FromBelow.{wrote_then, stops_first, stops_then, writes_last}
use Rattle.rs_script.specs.Answers.{shown_text}
use Rattle.rs_script.proofs.AnswerLemmas.{shown_head}
use Rattle.rs_script.proofs.show.write_shown_document.Goals as goal

pub returns-in_err-write_count-clause-written : goal.returns-in_err-write_count-clause-written
returns-in_err-write_count-clause-written g c =
    let text : List ℕ = c.args.document.now in
    stops_first g.W.Write.contents c.from_residual.result c.args.writer.now c.write_count.new.writer (codes "bytes " ++ (decimal c.len.result ++ codes "\n")) (text ++ 10 ∷ []) (shown_text text)
    c.from_residual.ensures.0 c.in_err-write_count.ensures.written (shown_head text c.len.result (sym c.len.ensures))

pub returns-in_err-write-clause-written : goal.returns-in_err-write-clause-written
returns-in_err-write-clause-written g c =
    let text : List ℕ = c.args.document.now in
    let head = codes "bytes " ++ (decimal c.len.result ++ codes "\n") in
    stops_then g.W.Write.contents c.from_residual-in_err-write.result c.args.writer.now c.write_count.new.writer c.write.new.out head text (10 ∷ []) (shown_text text)
    c.from_residual-in_err-write.ensures.0 c.in_ok-write_count.ensures.written c.in_err-write.ensures.within (shown_head text c.len.result (sym c.len.ensures))

pub returns-clause-written : goal.returns-clause-written
returns-clause-written g c =
    let text : List ℕ = c.args.document.now in
    let head = codes "bytes " ++ (decimal c.len.result ++ codes "\n") in
    writes_last g.W.Write.contents c.put.result c.args.writer.now c.write.new.out c.put.new.self (head ++ text) (10 ∷ []) (shown_text text)
    (wrote_then g.W.Write.contents c.args.writer.now c.write_count.new.writer c.write.new.out head text c.in_ok-write_count.ensures.written c.in_ok-write.ensures.written)
    c.put.ensures.ok c.put.ensures.fault (append_assoc head text (10 ∷ []) ∙ shown_head text c.len.result (sym c.len.ensures))
