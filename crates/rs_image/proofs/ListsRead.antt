-- Facts about reading the lists of a directory, one after the other.
use Rattle.std.proofs.Common.{true≢false, is_ok, ◌≡◌, List, length, ap, sym, ◌∙◌, arith, Result, Ok, Err}
use Rattle.std.specs.Prelude.{IsErrOf}
use Rattle.std.specs.Result.{IsErrAnd}
use Rattle.rs_disk.specs.Medium.{DiskState}
use Rattle.rs_image.proofs.FromBelow.{reading_as, reading_then}
use Rattle.rs_body.specs.declared.read.LoadFault.{LoadFault}
use Rattle.rs_body.specs.declared.read.LoadFault.TheVariants.{Device, Damaged, NoMemory}
use Rattle.rs_page.specs.declared.place.PageRef.{PageRef}
use Rattle.rs_pages.specs.Storing.{ReadsPages, unshared}
use Rattle.rs_directory.specs.declared.directory.Directory.{Directory}
use Rattle.rs_image.specs.Loading.{ReadsLists}

-- A fault that is handed on is the same one.
pub handed_on : {A B : Type 0} (fault asked : LoadFault) (made : Result B LoadFault) → IsErrAnd made (λ e. e ≡ fault) → IsErrOf made asked → IsErrOf {T = A} (Err fault) asked
handed_on fault asked (Ok x) is told = absurd is
handed_on fault asked (Err made) is told = let same : made ≡ asked = cc in ap Err (sym is ∙ same)

handed_back : {A B : Type 0} (fault asked : LoadFault) (made : Result B LoadFault) → IsErrAnd made (λ e. e ≡ fault) → IsErrOf {T = A} (Err fault) asked → IsErrOf made asked
handed_back fault asked (Ok x) is told = absurd is
handed_back fault asked (Err made) is told = let same : fault ≡ asked = cc in ap Err (is ∙ same)

pub handed_lists : {A B : Type 0} (d : Directory) (fault : LoadFault) (made : Result B LoadFault) (old new : DiskState) → IsErrAnd made (λ e. e ≡ fault)
    → ReadsLists d (IsErrOf {T = A} (Err fault) Device) old new → ReadsLists d (IsErrOf made Device) old new
handed_lists d fault made old new is lists = record {
  runs = reading_as old new (handed_back fault Device made is) (handed_on fault Device made is) lists.runs;
  calls = lists.calls;
}

-- A refusal of memory is no failure of the device, ..
pub refusal_tells_none : {B : Type 0} (made : Result B LoadFault) → IsErrAnd made (λ e. e ≡ NoMemory) → ¬ IsErrOf made Device
refusal_tells_none {B} made is told = let same : NoMemory ≡ Device = of (handed_on {A = B} NoMemory Device made is told) in absurd cc
  where
    of : IsErrOf {T = B} (Err NoMemory) Device → NoMemory ≡ Device
    of told = cc

-- .. and neither is damage, ..
pub damage_tells_none : {T : Type 0} → ¬ IsErrOf {T = T} (Err Damaged) Device
damage_tells_none told = absurd cc

-- .. or a successful run.
pub went_well : {T : Type 0} (x : T) → ¬ IsErrOf {T = T} {E = LoadFault} (Ok x) Device
went_well x is = true≢false (ap is_ok is)

-- the catalogue and the changes
pub two_read : {T B : Type 0} (d : Directory) (records changes : List PageRef) (x : T) (old mid new : DiskState) → records ≡ d.catalogue.items → changes ≡ d.changes.items
    → ReadsPages records (IsErrOf {T = T} {E = LoadFault} (Ok x) Device) old mid → ReadsPages changes B mid new → ReadsLists d B old new
two_read d records changes x old mid new rs cs first second =
    record {
      runs = reading_then old mid new (went_well x) first.runs second.runs;
      calls = omega (arith, first.one_each, second.one_each, ap length rs, ap length cs);
    }

-- and the published pages that are no catalogue pages
pub three_read : {T S C : Type 0} (d : Directory) (records changes published own : List PageRef) (x : T) (y : S) (old mid late new : DiskState) → records ≡ d.catalogue.items → changes ≡ d.changes.items
    → published ≡ d.published.items → own ≡ d.catalogue.items
    → ReadsPages records (IsErrOf {T = T} {E = LoadFault} (Ok x) Device) old mid → ReadsPages changes (IsErrOf {T = S} {E = LoadFault} (Ok y) Device) mid late
    → ReadsPages (unshared published own) C late new → ReadsLists d C old new
three_read d records changes published own x y old mid late new rs cs ps os first second third =
    let sizes : length (unshared published own) ≡ length (unshared d.published.items d.catalogue.items) =
    ap (λ refs. length (unshared refs own)) ps ∙ ap (λ refs. length (unshared d.published.items refs)) os in
    record {
      runs = reading_then old late new (went_well y) (reading_then old mid late (went_well x) first.runs second.runs) third.runs;
      calls = omega (arith, first.one_each, second.one_each, third.one_each, ap length rs, ap length cs, sizes);
    }
