-- The records of entries give the entries back.
use Rattle.std.proofs.Common.{◌≡◌, [], ◌∷◌, map, refl, sym, ap}
use Rattle.rs_model.specs.declared.value.Entry.{Entry}
use Rattle.rs_model.specs.Names.{Names}
use Rattle.rs_model.specs.Listed.{record_of, entry_of, AreListed}

pub entries-records : (m : Names Entry) → map entry_of (map record_of m) ≡ m
entries-records [] = refl
entries-records (e ∷ m) = ap (λ rest. e ∷ rest) (entries-records m)

pub records_listed : (m : Names Entry) → AreListed (map record_of m)
records_listed m = ap (map record_of) (sym (entries-records m))
