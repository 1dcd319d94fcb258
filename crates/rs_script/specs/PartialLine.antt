-- The kept part of a line that is still coming.
use Rattle.std.specs.Prelude.{◌≡◌, ℕ, ◌+◌, ◌-◌, ◌<◌, ◌≤◌, false, List, length, slice_index, Err, None}
use Rattle.rs_script.specs.declared.line.Kept.{Kept}
use Rattle.rs_script.specs.declared.line.Kept.TheVariants as kept
use Rattle.rs_script.specs.declared.line.Content.{Content}
use Rattle.rs_script.specs.declared.line.Content.TheVariants.{Bytes, Foreign, Refused, TooLong}
use Rattle.rs_script.specs.declared.refusal.Refusal.TheVariants as refusals
use Rattle.rs_script.specs.declared.line.Line.{Line}
use Rattle.rs_script.specs.Lines.{line_limit}
use Rattle.rs_items.specs.declared.item.ItemFault.TheVariants as fault
use Rattle.rs_items.specs.Items.{item_of_line}
use Rattle.rs_script.specs.Requests.{begins_request, request_of}
use Rattle.rs_script.specs.Statements.{group_size}

-- the length and the last byte of these bytes, which may be a line with a carriage return
pub record CountsLine (line : Line) (raw : List ℕ) : Type 0 where
  pub count_is : line.count ≡ length raw
  pub last_is : line.last ≡ slice_index raw (length raw - 1)
  pub fits : length raw ≤ line_limit + 1

-- Any line of one field is shorter than 9 bytes, even with a carriage return at its end, and there is always memory for
-- 9 bytes.
abbrev pub KeepsLineAs : Line → Kept → List ℕ → Type 0
KeepsLineAs line kept.Whole raw = CountsLine line raw × (line.bytes.items ≡ raw)
KeepsLineAs line kept.Foreign raw = CountsLine line raw × (9 ≤ length raw) × (begins_request raw ≡ false)
KeepsLineAs line kept.Refused raw = CountsLine line raw × (9 < length raw)
KeepsLineAs line kept.TooLong raw = line_limit + 1 < length raw

-- these bytes have come since the last line feed
abbrev pub KeepsLine : Line → List ℕ → Type 0
KeepsLine line raw = KeepsLineAs line line.kept raw

-- the line is no request by itself and no item in a group, and begins no group
pub record AsksNothing (line : List ℕ) : Type 0 where
  pub alone : request_of line ≡ Err (refusals.Line fault.BadLine)
  pub within : item_of_line line ≡ Err fault.BadLine
  pub no_group : group_size line ≡ None

-- this whole line has this content
abbrev pub IsContent : Content → List ℕ → Type 0
IsContent (Bytes bytes) line = (bytes.now ≡ line) × (length line ≤ line_limit)
IsContent Foreign line = (length line ≤ line_limit) × AsksNothing line
IsContent Refused line = (length line ≤ line_limit) × (9 ≤ length line)
IsContent TooLong line = line_limit < length line
