-- When a source can be made.
use Rattle.std.proofs.Common.{◌≡◌, ◌<◌, ℕ, Bool, true, false, List, Some, refl, arith, inl, inr, subst, IsTrue}
use Rattle.std.proofs.lemmas.Bool.{cases_lt}
use Rattle.rs_disk.specs.Medium.{DiskState}
use Rattle.rs_record.specs.Base.{is_base}
use Rattle.rs_directory.specs.Limit.{IsLimit}
use Rattle.rs_image.specs.Reach.{blocks_of_disk}
use Rattle.rs_store.specs.declared.formatting.FormatFault.{FormatFault}
use Rattle.rs_store.specs.declared.formatting.FormatFault.TheVariants as formattings
use Rattle.rs_source.specs.declared.program.ProgramError.TheVariants as errors
use Rattle.rs_source.specs.Arguments.{error_of_format}
use Rattle.rs_source.specs.declared.file.NoSource.{NoSource}
use Rattle.rs_source.specs.Files.{MayBegin, RefusesFormat, IsUnformatted}

true_or_not : (b : Bool) → (b ≡ false → ⊥) → IsTrue b
true_or_not true not_false = refl
true_or_not false not_false = absurd (not_false refl)

-- a number is a limit if it is impossible that it is no limit
limit_or_not : (limit : ℕ) → (¬ ¬ IsLimit limit) → IsLimit limit
limit_or_not limit may = elim (cases_lt limit 2) [
  | inl few ↦ absurd (may (λ is. absurd (omega (arith, few, is.low))))
  | inr low ↦ elim (cases_lt 4000 limit) [
    | inl many ↦ absurd (may (λ is. absurd (omega (arith, many, is.high))))
    | inr high ↦ record { low = low; high = high }
  ]
]

-- a source can be made where no earlier refusal applies
pub may_begin : (base : List ℕ) (limit size : ℕ) → (is_base base ≡ false → ⊥) → (IsTrue (is_base base) × (¬ IsLimit limit) → ⊥)
    → (IsTrue (is_base base) × IsLimit limit × (blocks_of_disk size < 16) → ⊥) → MayBegin base limit size
may_begin base limit size lawful among room =
    let is : IsTrue (is_base base) = true_or_not (is_base base) lawful in
    let within : IsLimit limit = limit_or_not limit (λ none. among (is, none)) in
    record {
      lawful = is;
      among = within;
      room = elim (cases_lt (blocks_of_disk size) 16) [
        | inl few ↦ absurd (room (is, within, few))
        | inr many ↦ omega (arith, many)
      ];
    }

-- no earlier refusal is the error Device
pub device_alone : (fault : FormatFault) → error_of_format fault ≡ errors.Device
    → (fault ≡ formattings.BadBase → ⊥) × (fault ≡ formattings.BadLimit → ⊥) × (fault ≡ formattings.TooSmall → ⊥)
device_alone formattings.BadBase is = absurd cc
device_alone formattings.BadLimit is = absurd cc
device_alone formattings.TooSmall is = absurd cc
device_alone formattings.Device is = (λ bad. absurd cc, λ bad. absurd cc, λ bad. absurd cc)
device_alone formattings.NoMemory is = absurd cc

-- the file was made, and no source on it
pub unformatted : {D : Type 0} (device : D → DiskState) (base : List ℕ) (limit : ℕ) (start : DiskState) (lack : NoSource D) (disk to : D) (fault : FormatFault)
    → lack.disk ≡ Some disk → lack.error ≡ error_of_format fault → device to ≡ start → RefusesFormat base limit (device to) (device disk) fault
    → IsUnformatted device base limit start lack
unformatted device base limit start lack disk to fault is error state refuses =
    rw is (fault, error, subst (λ (s : DiskState). RefusesFormat base limit s (device disk) fault) state refuses)
