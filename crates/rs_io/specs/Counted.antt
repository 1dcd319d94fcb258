-- An end that counts its calls.
use Rattle.std.specs.Prelude.{◌≡◌, ◌⊎◌, ◌+◌, ◌≤◌, ◌^◌}
use Rattle.rs_io.specs.declared.counted.Counted.{Counted}

-- it made one call of the end inside, or the count of calls has reached its last value
abbrev pub IsCounted : {T : Type 0} → Counted T → Counted T → Type 0
IsCounted old new = (new.calls ≡ old.calls + 1) ⊎ ((new.calls ≡ old.calls) × (2 ^ 64 ≤ old.calls + 1))
