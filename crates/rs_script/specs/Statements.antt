-- The statements of a script: a line by itself, or a group with its lines. Every statement is answered once.
use Rattle.std.specs.Prelude.{◌≡◌, ◌<◌, ℕ, nat_eq, nat_le, nat_lt, ◌&&◌, if◌then◌else◌, List, [], ◌∷◌, ◌++◌, length, drop, map, flat_map, All, codes, Option, Some, None, Result, Ok, Err}
use Rattle.std.specs.List.{starts_with}
use Rattle.rs_record.specs.Decimal.{number_in}
use Rattle.rs_model.specs.declared.command.Command.TheVariants.{Group}
use Rattle.rs_model.specs.declared.command.Item.{Item}
use Rattle.rs_items.specs.declared.item.ItemFault.{ItemFault}
use Rattle.rs_items.specs.Items.{item_of_line}
use Rattle.rs_script.specs.declared.refusal.Refusal.{Refusal}
use Rattle.rs_script.specs.declared.refusal.Refusal.TheVariants.{Line, BadGroup, LongLine}
use Rattle.rs_script.specs.declared.request.Request.{Request}
use Rattle.rs_script.specs.declared.request.Request.TheVariants.{Run}
use Rattle.rs_script.specs.Lines.{Splits, line_limit, script_lines}
use Rattle.rs_items.specs.Lines.{cut_return}
use Rattle.rs_script.specs.Requests.{request_of}

-- a group has 1 to 16 lines
abbrev pub size_in : Option ℕ → Option ℕ
size_in None = None
size_in (Some n) = if nat_le 1 n && nat_le n 16 then Some n else None

-- `group N`, N of 1 or 2 digits: the number of lines of the group that begins so
unfoldable pub group_size : List ℕ → Option ℕ
group_size line = if starts_with nat_eq line (codes "group ") then size_in (number_in 2 (drop 6 line)) else None

pub data Statement : Type 0 where
  -- a line by itself
  single : List ℕ → Statement
  -- the line that begins a group, and the lines of the group
  grouped : List ℕ → List (List ℕ) → Statement
  -- a group within which the input ends, whatever its lines were
  cut_off : Statement

abbrev pub statement_lines : Statement → List (List ℕ)
statement_lines (single line) = line ∷ []
statement_lines (grouped first lines) = first ∷ lines
statement_lines cut_off = []

-- a line that begins no group, or a group with all its lines
abbrev pub IsWholeStatement : Statement → Type 0
IsWholeStatement (single line) = group_size line ≡ None
IsWholeStatement (grouped first lines) = group_size first ≡ Some (length lines)
IsWholeStatement cut_off = ⊥

-- no lines, or a group that lacks at least one of its lines
abbrev pub IsPart : List (List ℕ) → Type 0
IsPart [] = Unit {0}
IsPart (first ∷ lines) = (size : ℕ) × (group_size first ≡ Some size) × (length lines < size)

-- the lines are those of these statements, and then those of a part of one
pub record Groups (lines : List (List ℕ)) (whole : List Statement) (part : List (List ℕ)) : Type 0 where
  pub all : lines ≡ flat_map statement_lines whole ++ part
  pub each : All IsWholeStatement whole
  pub partial : IsPart part

-- the group within which the input ends, if there is one
abbrev pub last_statement : List (List ℕ) → List Statement
last_statement [] = []
last_statement (first ∷ lines) = cut_off ∷ []

-- the input is cut into lines, which make these statements
pub record IsScript (input : List ℕ) (statements : List Statement) : Type 0 where
  pub raws : List (List ℕ)
  pub rest : List ℕ
  pub splits : Splits input raws rest
  pub whole : List Statement
  pub part : List (List ℕ)
  pub groups : Groups (script_lines raws rest) whole part
  pub statements_are : statements ≡ whole ++ last_statement part

-- whole statements: the input ends with a line feed or is empty, and no group lacks a line
abbrev pub AreWholeStatements : List ℕ → Type 0
AreWholeStatements input =
    (raws : List (List ℕ)) × (whole : List Statement) × Splits input raws [] × Groups (map cut_return raws) whole []

-- a part of a statement: a part of a line, or a group that lacks a line with a part of its next one
abbrev pub IsUnfinished : List ℕ → Type 0
IsUnfinished input = (raws : List (List ℕ)) × (rest : List ℕ) × Splits input raws rest × IsPart (map cut_return raws)

-- the item of a line, or its refusal
abbrev pub or_refused : Result Item ItemFault → Result Item Refusal
or_refused (Ok item) = Ok item
or_refused (Err why) = Err (Line why)

-- the item of a line of a group: a line past the limit is refused, whatever its content
abbrev pub grouped_item : List ℕ → Result Item Refusal
grouped_item line = if nat_lt line_limit (length line) then Err LongLine else or_refused (item_of_line line)

abbrev pub and_items : Result Item Refusal → Result (List Item) Refusal → Result (List Item) Refusal
and_items (Err refusal) more = Err refusal
and_items (Ok item) (Err refusal) = Err refusal
and_items (Ok item) (Ok items) = Ok (item ∷ items)

-- the items of the lines of a group, or the first refusal
unfoldable pub items_of_group : List (List ℕ) → Result (List Item) Refusal
items_of_group [] = Ok []
items_of_group (line ∷ lines) = and_items (grouped_item line) (items_of_group lines)

abbrev pub group_request : Result (List Item) Refusal → Result Request Refusal
group_request (Err refusal) = Err refusal
group_request (Ok items) = Ok (Run (Group items))

-- the request of a statement: a group asks for all its items at once
abbrev pub request_by : Statement → Result Request Refusal
request_by (single line) = request_of line
request_by (grouped first lines) = group_request (items_of_group lines)
request_by cut_off = Err BadGroup
