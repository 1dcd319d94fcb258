use Rattle.std.proofs.Common.{◌≡◌, drop}
use Rattle.rs_record.specs.Name.{are_pchars as pchar_bytes}
use Rattle.rs_record.proofs.name.are_pchars.Given as goal

abbrev pub invariant-loop-i : goal.invariant-loop-i
invariant-loop-i l = pchar_bytes (drop l.i l.bytes) ≡ pchar_bytes l.bytes
