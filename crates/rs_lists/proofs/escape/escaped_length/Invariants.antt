use Rattle.std.proofs.Common.{◌≡◌, ◌-◌, ◌^◌, min, length, take}
use Rattle.rs_lists.specs.Escape.{escape}
use Rattle.rs_lists.proofs.escape.escaped_length.Given as goal

abbrev pub invariant-loop-byte : goal.invariant-loop-byte
invariant-loop-byte l = l.total ≡ min (length (escape (take l.byte-index l.bytes))) (2 ^ 64 - 1)
