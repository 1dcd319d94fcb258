-- The request in a line of a script.
use Rattle.std.specs.Prelude.{ℕ, Bool, ◌||◌, nat_eq, if◌then◌else◌, List, [], ◌∷◌, drop, codes, bytes_eq, Option, Some, None, Result, Ok, Err}
use Rattle.std.specs.List.{list_any, starts_with}
use Rattle.rs_time.specs.Moment.{moment_of}
use Rattle.rs_record.specs.Name.{is_name}
use Rattle.rs_record.specs.Decimal.{number_in}
use Rattle.rs_model.specs.declared.command.Command.TheVariants.{Put, Delete, Publish}
use Rattle.rs_model.specs.declared.command.Item.{Item}
use Rattle.rs_model.specs.declared.command.Item.TheVariants as item
use Rattle.rs_lists.specs.declared.doc.Doc.{Doc}
use Rattle.rs_items.specs.declared.item.ItemFault.{ItemFault}
use Rattle.rs_items.specs.declared.item.ItemFault.TheVariants as fault
use Rattle.rs_items.specs.Fields.{fields}
use Rattle.rs_items.specs.Items.{item_of_line}
use Rattle.rs_caps.specs.Paths.{doc_of}
use Rattle.rs_script.specs.declared.refusal.Refusal.{Refusal}
use Rattle.rs_script.specs.declared.refusal.Refusal.TheVariants.{Line, BadMoment, BadGroup, NoSuchDocument}
use Rattle.rs_script.specs.declared.request.Request.{Request}
use Rattle.rs_script.specs.declared.request.Request.TheVariants.{At, Run, Document, Body, Status, Verify}

-- this request, or the refusal if there is no request
abbrev pub asked : Option Request → Refusal → Result Request Refusal
asked None refusal = Err refusal
asked (Some request) refusal = Ok request

-- the moment of this many milliseconds
abbrev pub at_moment : Option ℕ → Option Request
at_moment None = None
at_moment (Some t) = Some (At t)

abbrev pub moment_in : Option ℕ → Option ℕ
moment_in None = None
moment_in (Some ms) = moment_of ms

-- `at MS`, where MS is a moment of 1 to 15 digits
abbrev pub at_request : List ℕ → Result Request Refusal
at_request ms = asked (at_moment (moment_in (number_in 15 ms))) BadMoment

-- `put NAME HEX TYPE` and `delete NAME`: an item by itself
abbrev pub item_request : Result Item ItemFault → Result Request Refusal
item_request (Ok (item.Put name kind bytes)) = Ok (Run (Put name kind bytes))
item_request (Ok (item.Delete name)) = Ok (Run (Delete name))
item_request (Err why) = Err (Line why)

abbrev pub at_document : Option Doc → Option Request
at_document None = None
at_document (Some doc) = Some (Document doc)

-- `show PATH`: `/resource/NAME`, or the path of a document
abbrev pub show_request : List ℕ → Result Request Refusal
show_request path =
    if starts_with nat_eq path (codes "/resource/")
    then (if is_name (drop 10 path) then Ok (Body (drop 10 path)) else Err (Line fault.BadName))
    else asked (at_document (doc_of path)) NoSuchDocument

-- a line of one field
abbrev pub request_alone : List ℕ → Result Request Refusal
request_alone word =
    if bytes_eq word (codes "publish") then Ok (Run Publish)
    else if bytes_eq word (codes "status") then Ok Status
    else if bytes_eq word (codes "verify") then Ok Verify
    else Err (Line fault.BadLine)

-- a line of two fields: a `group` by itself is no request
abbrev pub request_with : List ℕ → List ℕ → List ℕ → Result Request Refusal
request_with line word argument =
    if bytes_eq word (codes "at") then at_request argument
    else if bytes_eq word (codes "show") then show_request argument
    else if bytes_eq word (codes "group") then Err BadGroup
    else item_request (item_of_line line)

-- the request in a line, by its fields: a line of any other form is an item or no request
abbrev pub of_fields : List ℕ → List (List ℕ) → Result Request Refusal
of_fields line (word ∷ []) = request_alone word
of_fields line (word ∷ argument ∷ []) = request_with line word argument
of_fields line _ = item_request (item_of_line line)

-- the request in a line by itself, or the reason why it is refused before the source sees it
unfoldable pub request_of : List ℕ → Result Request Refusal
request_of line = of_fields line (fields 2 line)

-- the bytes begin as a line with fields after its first word
abbrev pub begins_request : List ℕ → Bool
begins_request bytes =
    list_any (λ word. starts_with nat_eq bytes word)
    (codes "at " ∷ codes "put " ∷ codes "delete " ∷ codes "show " ∷ codes "group " ∷ [])

-- the bytes begin as an item does
abbrev pub begins_item : List ℕ → Bool
begins_item bytes = starts_with nat_eq bytes (codes "put ") || starts_with nat_eq bytes (codes "delete ")
