-- The bytes so far are digits, the rest of the text goes on from their value, and their number bounds it.
use Rattle.std.proofs.Common.{◌≡◌, ◌<◌, ◌^◌, drop, take, true}
use Rattle.std.specs.List.{list_all}
use Rattle.std.specs.Char.{is_ascii_digit}
use Rattle.std.specs.Str.Parse.{digits_value, digits_value_after}
use Rattle.rs_record.proofs.decimal.number.Given as goal

abbrev pub invariant-loop-byte : goal.invariant-loop-byte
invariant-loop-byte l = record {
  value_is : digits_value_after 10 l.value (drop l.byte-index l.text) ≡ digits_value 10 l.text;
  digits : list_all is_ascii_digit (take l.byte-index l.text) ≡ true;
  bound : l.value < 10 ^ l.byte-index;
}
