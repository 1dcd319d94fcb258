-- The outcomes of requests, and the texts of the responses (RFC 9110 and RFC 9112).
use Rattle.std.specs.Prelude.{ℕ, List, [], ◌∷◌, ◌++◌, length, codes, if◌then◌else◌}
use Rattle.std.specs.Fmt.{decimal}
use Rattle.httpdate.specs.Date.{date_text}
use Rattle.rs_time.specs.Moment.{moment_text}
use Rattle.rs_model.specs.declared.command.Reply.{Reply}
use Rattle.rs_model.specs.declared.command.Reply.TheVariants.{Created, Updated, Deleted, Published, Grouped}
use Rattle.rs_store.specs.declared.refusal.Refusal as stored
use Rattle.rs_store.specs.declared.refusal.Refusal.TheVariants as refusals
use Rattle.rs_store.specs.Refusals.{refusal_word}
use Rattle.rs_items.specs.declared.item.ItemFault.TheVariants as items
use Rattle.rs_items.specs.Items.{fault_word as item_word}
use Rattle.rs_http.specs.declared.target.Methods.{Methods}
use Rattle.rs_http.specs.declared.target.Methods.TheVariants.{OfResources, OfDocuments, OfPosts}
use Rattle.rs_http.specs.declared.request.RequestFault.{RequestFault}
use Rattle.rs_http.specs.declared.request.RequestFault.TheVariants.{HeadTooLong, BadHead, ManyFields, BadHost, TransferEncoding, BadLength, NoSuchDocument, BadMethod, NoLength, TooLong, Line}
use Rattle.rs_http.specs.declared.response.Framing.{Framing}
use Rattle.rs_http.specs.declared.status.StatusCode.{StatusCode}
use Rattle.rs_http.specs.declared.status.StatusCode.TheVariants as statuses
use Rattle.rs_http.specs.Statuses.{code_of, phrase_of}

-- the outcome of a request
pub data RequestOutcome : Type 0 where
  -- it is refused before the source sees it
  faulted : RequestFault → RequestOutcome
  -- the source accepted a command
  replied : Reply → RequestOutcome
  -- the type and the bytes of a resource or of a document
  shown : List ℕ → List ℕ → RequestOutcome
  -- the source refused it
  refused : stored.Refusal → RequestOutcome

abbrev pub fault_status : RequestFault → StatusCode
fault_status HeadTooLong = statuses.RequestHeaderFieldsTooLarge
fault_status BadHead = statuses.BadRequest
fault_status ManyFields = statuses.RequestHeaderFieldsTooLarge
fault_status BadHost = statuses.BadRequest
fault_status TransferEncoding = statuses.NotImplemented
fault_status BadLength = statuses.BadRequest
fault_status NoSuchDocument = statuses.NotFound
fault_status (BadMethod methods) = statuses.MethodNotAllowed
fault_status NoLength = statuses.LengthRequired
fault_status TooLong = statuses.ContentTooLarge
fault_status (Line items.NoMemory) = statuses.ServiceUnavailable
fault_status (Line fault) = statuses.BadRequest

-- if a reader fails, no response is sent: no client sees the status and the word of that refusal
abbrev pub refusal_status : stored.Refusal → StatusCode
refusal_status refusals.BadGroup = statuses.BadRequest
refusal_status refusals.NotHeld = statuses.NotFound
refusal_status refusals.TooLong = statuses.ContentTooLarge
refusal_status refusals.TooManyResources = statuses.InsufficientStorage
refusal_status refusals.TooManyChanges = statuses.InsufficientStorage
refusal_status refusals.Full = statuses.InsufficientStorage
refusal_status refusals.Exhausted = statuses.InternalServerError
refusal_status refusals.ReadFault = statuses.InternalServerError
refusal_status refusals.ShortBody = statuses.BadRequest
refusal_status refusals.Device = statuses.InternalServerError
refusal_status refusals.Damaged = statuses.InternalServerError
refusal_status refusals.Closed = statuses.ServiceUnavailable
refusal_status refusals.NoMemory = statuses.ServiceUnavailable

abbrev pub reply_status : Reply → StatusCode
reply_status (Created moment) = statuses.Created
reply_status (Updated moment) = statuses.NoContent
reply_status (Deleted moment) = statuses.NoContent
reply_status (Published number moment) = statuses.Ok
reply_status (Grouped count moment) = statuses.Ok

abbrev pub status_of : RequestOutcome → StatusCode
status_of (faulted fault) = fault_status fault
status_of (replied reply) = reply_status reply
status_of (shown kind bytes) = statuses.Ok
status_of (refused refusal) = refusal_status refusal

-- the word of a request that is refused before the source sees it
abbrev pub fault_word : RequestFault → List ℕ
fault_word HeadTooLong = codes "HeadTooLong"
fault_word BadHead = codes "BadHead"
fault_word ManyFields = codes "ManyFields"
fault_word BadHost = codes "BadHost"
fault_word TransferEncoding = codes "TransferEncoding"
fault_word BadLength = codes "BadLength"
fault_word NoSuchDocument = codes "NoSuchDocument"
fault_word (BadMethod methods) = codes "BadMethod"
fault_word NoLength = codes "NoLength"
fault_word TooLong = codes "TooLong"
fault_word (Line fault) = item_word fault

-- the body of a refusal: its word, and a line feed
abbrev pub refusal_line : List ℕ → List ℕ
refusal_line word = word ++ codes "\n"

-- a word that ends in a space, a number, a moment, and a line feed (10)
abbrev pub reply_line : List ℕ → ℕ → ℕ → List ℕ
reply_line word number moment = word ++ (decimal number ++ (codes " " ++ (moment_text moment ++ 10 ∷ [])))

-- the body of the answer to a publication: its number and its moment
abbrev pub published_text : ℕ → ℕ → List ℕ
published_text number moment = reply_line (codes "published ") number moment

-- the body of the answer to a group: the number of its items, and the moment of the first
abbrev pub grouped_text : ℕ → ℕ → List ℕ
grouped_text count moment = reply_line (codes "grouped ") count moment

abbrev pub reply_content : Reply → List ℕ
reply_content (Published number moment) = published_text number moment
reply_content (Grouped count moment) = grouped_text count moment
reply_content reply = []

abbrev pub content_of : RequestOutcome → List ℕ
content_of (faulted fault) = refusal_line (fault_word fault)
content_of (replied reply) = reply_content reply
content_of (shown kind bytes) = bytes
content_of (refused refusal) = refusal_line (refusal_word refusal)

-- the field `Allow`, with the methods that a place allows
abbrev pub methods_text : Methods → List ℕ
methods_text OfResources = codes "Allow: GET, HEAD, PUT, DELETE\r\n"
methods_text OfDocuments = codes "Allow: GET, HEAD\r\n"
methods_text OfPosts = codes "Allow: POST\r\n"

abbrev pub allow_of : RequestFault → List ℕ
allow_of (BadMethod methods) = methods_text methods
allow_of fault = []

-- the type and the length of a body, and the empty line
unfoldable pub content_lines : List ℕ → ℕ → List ℕ
content_lines kind n = codes "Content-Type: " ++ (kind ++ (codes "\r\nContent-Length: " ++ (decimal n ++ codes "\r\n\r\n")))

abbrev pub plain : List ℕ
plain = codes "text/plain"

-- the header lines that describe the body, and the empty line: the answers to a put and to a delete have no body
abbrev pub reply_lines : Reply → List ℕ
reply_lines (Created moment) = codes "Content-Length: 0\r\n\r\n"
reply_lines (Updated moment) = codes "\r\n"
reply_lines (Deleted moment) = codes "\r\n"
reply_lines (Published number moment) = content_lines plain (length (published_text number moment))
reply_lines (Grouped count moment) = content_lines plain (length (grouped_text count moment))

abbrev pub header_lines : RequestOutcome → List ℕ
header_lines (faulted fault) = allow_of fault ++ content_lines plain (length (refusal_line (fault_word fault)))
header_lines (replied reply) = reply_lines reply
header_lines (shown kind bytes) = content_lines kind (length bytes)
header_lines (refused refusal) = content_lines plain (length (refusal_line (refusal_word refusal)))

-- the status line, the date (an IMF-fixdate of RFC 9110, section 5.6.7), and `Connection: close`
unfoldable pub first_lines : StatusCode → List ℕ → List ℕ
first_lines status date =
    codes "HTTP/1.1 " ++ (decimal (code_of status) ++ (codes " " ++ (phrase_of status ++ (codes "\r\nDate: " ++ (date ++ codes "\r\nConnection: close\r\n")))))

-- a body, which the response to a HEAD leaves out
abbrev pub sent_body : Framing → List ℕ → List ℕ
sent_body framing body = if framing.is_head then [] else body

-- the whole response, by the header lines that describe its body
abbrev pub framed : Framing → StatusCode → List ℕ → List ℕ → List ℕ
framed framing status lines body = first_lines status (date_text framing.date) ++ (lines ++ sent_body framing body)

abbrev pub response_text : Framing → RequestOutcome → List ℕ
response_text framing outcome = framed framing (status_of outcome) (header_lines outcome) (content_of outcome)

-- the word to go on
abbrev pub go_on : List ℕ
go_on = codes "HTTP/1.1 100 Continue\r\n\r\n"
