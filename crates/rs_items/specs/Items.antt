-- The item that a line of a script or a group writes.
use Rattle.std.specs.Prelude.{List, [], ◌∷◌, ℕ, if◌then◌else◌, codes, bytes_eq, Option, Some, None, Result, Ok, Err}
use Rattle.std.specs.Result.{result_ok}
use Rattle.hex.specs.Hex.{decode_of}
use Rattle.rs_record.specs.Name.{is_name}
use Rattle.rs_record.specs.MediaType.{is_media_type}
use Rattle.rs_model.specs.declared.command.Item.{Item}
use Rattle.rs_model.specs.declared.command.Item.TheVariants.{Put, Delete}
use Rattle.rs_items.specs.declared.item.ItemFault.{ItemFault}
use Rattle.rs_items.specs.declared.item.ItemFault.TheVariants.{BadLine, BadName, BadHex, BadType, NoMemory}
use Rattle.rs_items.specs.Fields.{fields}

-- the word for a fault, in a script and over HTTP
abbrev pub fault_word : ItemFault → List ℕ
fault_word BadLine = codes "BadLine"
fault_word BadName = codes "BadName"
fault_word BadHex = codes "BadHex"
fault_word BadType = codes "BadType"
fault_word NoMemory = codes "NoMemory"

-- the bytes of a HEX: `-` is no bytes, and an empty field is no HEX
abbrev pub bytes_of : List ℕ → Option (List ℕ)
bytes_of [] = None
bytes_of (c ∷ hex) = if bytes_eq (c ∷ hex) (codes "-") then Some [] else result_ok (decode_of (c ∷ hex))

abbrev pub put_bytes : List ℕ → List ℕ → Option (List ℕ) → Result Item ItemFault
put_bytes name kind None = Err BadHex
put_bytes name kind (Some bytes) = if is_media_type kind then Ok (Put name kind bytes) else Err BadType

-- `put NAME HEX TYPE`
abbrev pub put_item : List ℕ → List ℕ → List ℕ → Result Item ItemFault
put_item name hex kind = if is_name name then put_bytes name kind (bytes_of hex) else Err BadName

-- `delete NAME`
abbrev pub delete_item : List ℕ → Result Item ItemFault
delete_item name = if is_name name then Ok (Delete name) else Err BadName

-- the item of a line's fields: another word, or a wrong number of fields, is no item
abbrev pub item_of_fields : List (List ℕ) → Result Item ItemFault
item_of_fields (word ∷ name ∷ []) = if bytes_eq word (codes "delete") then delete_item name else Err BadLine
item_of_fields (word ∷ name ∷ hex ∷ kind ∷ []) = if bytes_eq word (codes "put") then put_item name hex kind else Err BadLine
item_of_fields _ = Err BadLine

-- the item of a line, or the fault of the line: TYPE is the rest of the line, with all its spaces
unfoldable pub item_of_line : List ℕ → Result Item ItemFault
item_of_line line = item_of_fields (fields 3 line)
