-- The count of a meter.
use Rattle.std.specs.Prelude.{ℕ}
use Rattle.rs_lists.specs.declared.meter.Meter.{Meter}

-- the number of bytes it has counted
abbrev pub bytes_counted : Meter → ℕ
bytes_counted m = m.total
