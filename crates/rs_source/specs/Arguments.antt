-- The arguments of the program.
use Rattle.std.specs.Prelude.{ℕ, ◌&&◌, min, nat_le, if◌then◌else◌, List, [], ◌∷◌, codes, bytes_eq, option_map, Option, Some, None}
use Rattle.std.specs.declared.io.ErrorKind.{ErrorKind}
use Rattle.std.specs.declared.io.ErrorKind.TheVariants.{OutOfMemory}
use Rattle.rs_record.specs.Decimal.{number_in}
use Rattle.rs_file.specs.declared.fault.FileFault.{FileFault}
use Rattle.rs_file.specs.declared.fault.FileFault.TheVariants as file
use Rattle.rs_source.specs.declared.command.Invocation.{Invocation}
use Rattle.rs_source.specs.declared.command.Invocation.TheVariants.{Mem, Format, Run, Serve, Copy}
use Rattle.rs_source.specs.declared.command.ServingArguments.{ServingArguments}
use Rattle.rs_source.specs.declared.command.SourceArguments.{SourceArguments}
use Rattle.rs_source.specs.declared.program.ProgramError.{ProgramError}
use Rattle.rs_source.specs.declared.program.ProgramError.TheVariants.{Usage, Exists, BadBase, BadLimit, TooSmall, NotASource, Full, Damaged, Device, NoMemory, Read, Write}
use Rattle.rs_store.specs.declared.formatting.FormatFault.{FormatFault}
use Rattle.rs_store.specs.declared.formatting.FormatFault.TheVariants as formatting
use Rattle.rs_store.specs.declared.opening.OpenFault.{OpenFault}
use Rattle.rs_store.specs.declared.opening.OpenFault.TheVariants as opening
use Rattle.rs_copy.specs.declared.faults.CopyFault.TheVariants as copying
use Rattle.rs_store.specs.declared.copying.CopyRefusal.{CopyRefusal}
use Rattle.rs_store.specs.declared.copying.CopyRefusal.TheVariants.{Closed, Fault}
use Rattle.rs_io.specs.declared.fault.StreamFault.{StreamFault}
use Rattle.rs_io.specs.declared.fault.StreamFault.TheVariants as fault

-- the parameters of a new source: the bytes of its disk, its base, and its item limit
pub record Made : Type 0 where
  pub size : ℕ
  pub base : List ℕ
  pub limit : ℕ

-- the connections to serve: the port, and their number
pub record Serving : Type 0 where
  pub port : ℕ
  pub count : ℕ

-- a task of the program, by its arguments
pub data Task : Type 0 where
  -- run a script on a new source in memory
  mem : Made → Task
  -- make a source on a new file of this name
  format : List ℕ → Made → Task
  -- run a script on the source on the file of this name
  run : List ℕ → Task
  -- serve connections to the source on the file of this name
  serve : List ℕ → Serving → Task
  -- copy the source on the file of the first name to a new file of the second name, of this many bytes
  copy : List ℕ → List ℕ → ℕ → Task

-- the parameters, if both numbers are valid; a limit past 65,535 is cut to it
abbrev pub with_numbers : Option ℕ → List ℕ → Option ℕ → Option Made
with_numbers None base limit = None
with_numbers (Some size) base None = None
with_numbers (Some size) base (Some limit) = Some (record { size = size; base = base; limit = min limit 65535 })

-- SIZE, BASE and LIMIT, with numbers of 1 to 18 digits
abbrev pub made_of : List ℕ → List ℕ → List ℕ → Option Made
made_of size base limit = with_numbers (number_in 18 size) base (number_in 18 limit)

-- the task of `mem SIZE BASE LIMIT`, by the arguments after the word `mem`; the same for the other commands
abbrev pub mem_of : List (List ℕ) → Option Task
mem_of (size ∷ base ∷ limit ∷ []) = option_map mem (made_of size base limit)
mem_of _ = None

-- `format FILE SIZE BASE LIMIT`
abbrev pub format_of : List (List ℕ) → Option Task
format_of (file ∷ size ∷ base ∷ limit ∷ []) = option_map (format file) (made_of size base limit)
format_of _ = None

-- `run FILE`
abbrev pub run_of : List (List ℕ) → Option Task
run_of (file ∷ []) = Some (run file)
run_of _ = None

-- the connections to serve, if both numbers are valid and in range
abbrev pub served_if : Option ℕ → Option ℕ → Option Serving
served_if (Some port) (Some count) =
    if nat_le port 65535 && nat_le 1 count && nat_le count 1000000000 then Some (record { port = port; count = count }) else None
served_if port count = None

-- PORT and COUNT, numbers of 1 to 18 digits: PORT up to 65,535, COUNT from 1 to 1,000,000,000
abbrev pub served_of : List ℕ → List ℕ → Option Serving
served_of port count = served_if (number_in 18 port) (number_in 18 count)

-- `serve FILE PORT COUNT`
abbrev pub serve_of : List (List ℕ) → Option Task
serve_of (file ∷ port ∷ count ∷ []) = option_map (serve file) (served_of port count)
serve_of _ = None

-- `copy OLD NEW SIZE`
abbrev pub copy_of : List (List ℕ) → Option Task
copy_of (old ∷ new ∷ size ∷ []) = option_map (copy old new) (number_in 18 size)
copy_of _ = None

-- the task of a command and its arguments
abbrev pub task_of : List ℕ → List (List ℕ) → Option Task
task_of command arguments =
    if bytes_eq command (codes "mem") then mem_of arguments
    else if bytes_eq command (codes "format") then format_of arguments
    else if bytes_eq command (codes "run") then run_of arguments
    else if bytes_eq command (codes "serve") then serve_of arguments
    else if bytes_eq command (codes "copy") then copy_of arguments
    else None

-- the task of the arguments of the program; the first argument is the name of the program
abbrev pub asked_of : List (List ℕ) → Option Task
asked_of (program ∷ command ∷ arguments) = task_of command arguments
asked_of _ = None

-- the arguments as the program reads them
abbrev pub made_by : SourceArguments → Made
made_by made = record { size = made.size; base = made.base.now; limit = made.limit }

abbrev pub served_by : ServingArguments → Serving
served_by serving = record { port = serving.port; count = serving.count }

abbrev pub asked_by : Invocation → Task
asked_by (Mem made) = mem (made_by made)
asked_by (Format file made) = format file.now (made_by made)
asked_by (Run file) = run file.now
asked_by (Serve file serving) = serve file.now (served_by serving)
asked_by (Copy old new size) = copy old.now new.now size

-- the exit status: 2 for wrong arguments, 1 for all other errors
abbrev pub exit_status : ProgramError → ℕ
exit_status Usage = 2
exit_status Exists = 1
exit_status BadBase = 1
exit_status BadLimit = 1
exit_status TooSmall = 1
exit_status NotASource = 1
exit_status Full = 1
exit_status Damaged = 1
exit_status Device = 1
exit_status NoMemory = 1
exit_status Read = 1
exit_status Write = 1

-- arguments that cannot be read are wrong, unless memory ran out
abbrev pub unread_of : ErrorKind → ProgramError
unread_of OutOfMemory = NoMemory
unread_of _ = Usage

-- the error of the program, by the fault of a script
abbrev pub error_of : StreamFault → ProgramError
error_of fault.Read = Read
error_of fault.Write = Write

-- the same, by the fault of a formatting
abbrev pub error_of_format : FormatFault → ProgramError
error_of_format formatting.BadBase = BadBase
error_of_format formatting.BadLimit = BadLimit
error_of_format formatting.TooSmall = TooSmall
error_of_format formatting.Device = Device
error_of_format formatting.NoMemory = NoMemory

-- the same, by the fault of opening or making a file
abbrev pub error_of_file : FileFault → ProgramError
error_of_file file.Exists = Exists
error_of_file file.Device = Device

-- the same, by the fault of opening a source
abbrev pub error_of_opening : OpenFault → ProgramError
error_of_opening opening.NotASource = NotASource
error_of_opening opening.Damaged = Damaged
error_of_opening opening.Device = Device
error_of_opening opening.NoMemory = NoMemory

-- The same, by the refusal of a copy. A source is closed after a fault of its device.
abbrev pub error_of_copy : CopyRefusal → ProgramError
error_of_copy Closed = Device
error_of_copy (Fault copying.TooSmall) = TooSmall
error_of_copy (Fault copying.Full) = Full
error_of_copy (Fault copying.Device) = Device
error_of_copy (Fault copying.Damaged) = Damaged
error_of_copy (Fault copying.NoMemory) = NoMemory

-- the errors with which a source on a file is not opened
abbrev pub IsOfOpen : ProgramError → Type 0
IsOfOpen NotASource = Unit {0}
IsOfOpen Damaged = Unit {0}
IsOfOpen Device = Unit {0}
IsOfOpen NoMemory = Unit {0}
IsOfOpen error = ⊥

-- the errors with which a source on a new file is not made
abbrev pub IsOfFormat : ProgramError → Type 0
IsOfFormat Exists = Unit {0}
IsOfFormat BadBase = Unit {0}
IsOfFormat BadLimit = Unit {0}
IsOfFormat TooSmall = Unit {0}
IsOfFormat Device = Unit {0}
IsOfFormat NoMemory = Unit {0}
IsOfFormat error = ⊥

-- the errors with which a source is not copied to a new file
abbrev pub IsOfCopy : ProgramError → Type 0
IsOfCopy Exists = Unit {0}
IsOfCopy TooSmall = Unit {0}
IsOfCopy Full = Unit {0}
IsOfCopy Damaged = Unit {0}
IsOfCopy Device = Unit {0}
IsOfCopy NoMemory = Unit {0}
IsOfCopy error = ⊥

-- the errors with which a source in memory is not made
abbrev pub IsOfStart : ProgramError → Type 0
IsOfStart BadBase = Unit {0}
IsOfStart BadLimit = Unit {0}
IsOfStart TooSmall = Unit {0}
IsOfStart Device = Unit {0}
IsOfStart NoMemory = Unit {0}
IsOfStart error = ⊥
