-- The documents that statements ask for have paths.
use Rattle.std.proofs.Common.{◌≡◌, ℕ, Bool, true, false, List, [], ◌∷◌, refl, cond, Option, Some, None, Result, Ok, Err}
use Rattle.std.specs.Prelude.{bytes_eq, codes, drop, nat_eq}
use Rattle.std.specs.List.{starts_with}
use Rattle.rs_record.specs.Decimal.{number_in}
use Rattle.rs_record.specs.Name.{is_name}
use Rattle.rs_lists.specs.declared.doc.Doc.{Doc}
use Rattle.rs_caps.specs.Paths.{doc_of, HasCounts}
use Rattle.rs_script.proofs.FromBelow.{doc_of-exact}
use Rattle.rs_model.specs.declared.command.Command.TheVariants.{Publish}
use Rattle.rs_model.specs.declared.command.Item.{Item}
use Rattle.rs_model.specs.declared.command.Item.TheVariants as item
use Rattle.rs_items.specs.declared.item.ItemFault.{ItemFault}
use Rattle.rs_items.specs.Fields.{fields}
use Rattle.rs_items.specs.Items.{item_of_line}
use Rattle.rs_script.specs.declared.refusal.Refusal.{Refusal}
use Rattle.rs_script.specs.declared.refusal.Refusal.TheVariants.{BadMoment, BadGroup, NoSuchDocument, Line}
use Rattle.rs_items.specs.declared.item.ItemFault.TheVariants as fault
use Rattle.rs_script.specs.declared.request.Request.{Request}
use Rattle.rs_script.specs.declared.request.Request.TheVariants.{Run, Document, Body, Status, Verify}
use Rattle.rs_script.specs.Requests.{asked, at_moment, moment_in, at_request, item_request, at_document, show_request, request_alone, request_with, of_fields, request_of}
use Rattle.rs_script.specs.Statements.{Statement, single, grouped, cut_off, items_of_group, group_request, request_by}

-- every document that a statement asks for has a path
abbrev pub HasPath : Result Request Refusal → Type 0
HasPath (Ok (Document doc)) = HasCounts doc
HasPath request = Unit {0}

either : (b : Bool) (one other : Result Request Refusal) → HasPath one → HasPath other → HasPath (cond b one other)
either true one other h k = h
either false one other h k = k

moment_has : (found : Option ℕ) → HasPath (asked (at_moment found) BadMoment)
moment_has None = tt
moment_has (Some t) = tt

item_has : (found : Result Item ItemFault) → HasPath (item_request found)
item_has (Ok (item.Put name kind bytes)) = tt
item_has (Ok (item.Delete name)) = tt
item_has (Err why) = tt

document_has : (path : List ℕ) (found : Option Doc) → doc_of path ≡ found → HasPath (asked (at_document found) NoSuchDocument)
document_has path None is = tt
document_has path (Some doc) is = (doc_of-exact path doc is).1

show_has : (path : List ℕ) → HasPath (show_request path)
show_has path =
    let body : Result Request Refusal = cond (is_name (drop 10 path)) (Ok (Body (drop 10 path))) (Err (Line fault.BadName)) in
    either (starts_with nat_eq path (codes "/resource/")) body (asked (at_document (doc_of path)) NoSuchDocument)
    (either (is_name (drop 10 path)) (Ok (Body (drop 10 path))) (Err (Line fault.BadName)) tt tt)
    (document_has path (doc_of path) refl)

alone_has : (word : List ℕ) → HasPath (request_alone word)
alone_has word =
    let verify : Result Request Refusal = cond (bytes_eq word (codes "verify")) (Ok Verify) (Err (Line fault.BadLine)) in
    let status : Result Request Refusal = cond (bytes_eq word (codes "status")) (Ok Status) verify in
    either (bytes_eq word (codes "publish")) (Ok (Run Publish)) status tt
    (either (bytes_eq word (codes "status")) (Ok Status) verify tt
    (either (bytes_eq word (codes "verify")) (Ok Verify) (Err (Line fault.BadLine)) tt tt))

with_has : (line word argument : List ℕ) → HasPath (request_with line word argument)
with_has line word argument =
    let other : Result Request Refusal = item_request (item_of_line line) in
    let group : Result Request Refusal = cond (bytes_eq word (codes "group")) (Err BadGroup) other in
    let show : Result Request Refusal = cond (bytes_eq word (codes "show")) (show_request argument) group in
    either (bytes_eq word (codes "at")) (at_request argument) show (moment_has (moment_in (number_in 15 argument)))
    (either (bytes_eq word (codes "show")) (show_request argument) group (show_has argument)
    (either (bytes_eq word (codes "group")) (Err BadGroup) other tt (item_has (item_of_line line))))

fields_have : (line : List ℕ) (parts : List (List ℕ)) → HasPath (of_fields line parts)
fields_have line [] = item_has (item_of_line line)
fields_have line (word ∷ []) = alone_has word
fields_have line (word ∷ argument ∷ []) = with_has line word argument
fields_have line (word ∷ argument ∷ more ∷ rest) = item_has (item_of_line line)

line_has : (line : List ℕ) → HasPath (request_of line)
unfolding request_of
line_has line = fields_have line (fields 2 line)

group_has : (found : Result (List Item) Refusal) → HasPath (group_request found)
group_has (Ok items) = tt
group_has (Err refusal) = tt

pub statement_has_path : (statement : Statement) → HasPath (request_by statement)
statement_has_path (single line) = line_has line
statement_has_path (grouped first lines) = group_has (items_of_group lines)
statement_has_path cut_off = tt
