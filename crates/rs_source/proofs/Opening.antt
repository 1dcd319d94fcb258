-- The headline for a file.
use Rattle.std.proofs.Common.{◌≡◌, ◌∙◌, ℕ, List, Some, Ok, Err, ap, subst, IsTrue}
use Rattle.rs_disk.specs.Medium.{DiskState, Medium, resting}
use Rattle.rs_store.specs.Source.{Stored}
use Rattle.rs_store.specs.declared.opening.OpenFault.{OpenFault}
use Rattle.rs_store.specs.declared.opening.OpenFault.TheVariants as openings
use Rattle.rs_recovery.specs.Recovered.{Headline, IsExcuse}
use Rattle.rs_source.specs.Arguments.{error_of_opening}
use Rattle.rs_source.specs.declared.file.NoSource.{NoSource}
use Rattle.rs_source.specs.Files.{IsLost, HeadlineOfFile}

not_lost : (before after : DiskState) (fault : OpenFault) → IsExcuse before after fault → ¬ IsLost (error_of_opening fault)
not_lost before after openings.NotASource excuse = absurd excuse
not_lost before after openings.Damaged excuse = absurd excuse
not_lost before after openings.Device excuse = λ lost. absurd lost
not_lost before after openings.NoMemory excuse = λ lost. absurd lost

module _ {D : Type 0} (device : D → DiskState) (first : List ℕ) (disk : D) where
  -- the bytes that an opening finds
  found : (image : List ℕ) → (device disk).now ≡ resting first → first ≡ image → (device disk).now.seen ≡ image
  found image now is = ap (λ (m : Medium). m.seen) now ∙ is

  pub opened_file : (source : Stored D) → Headline device disk (Ok source)
      → (IsTrue (device source.disk).honest → (device disk).now ≡ resting first) → HeadlineOfFile device first (Ok source)
  opened_file source headline now base limit moment before x past sessions is honest =
      let recovered = headline base limit moment before x past sessions (found x.image (now honest) is) honest in
      record {
        standing = recovered.standing;
        left = recovered.left;
        state = recovered.state;
        yields = recovered.yields;
        regular = recovered.regular;
        timely = recovered.timely;
      }

  pub unopened_file : (back : D) (fault : OpenFault) (lack : NoSource D) → Headline device disk (Err (back, fault))
      → (IsTrue (device back).honest → (device disk).now ≡ resting first) → lack.disk ≡ Some back → lack.error ≡ error_of_opening fault
      → HeadlineOfFile device first (Err lack)
  unopened_file back fault lack headline now has error base limit moment before x past sessions is =
      rw has (λ honest lost.
      let recovered = headline base limit moment before x past sessions (found x.image (now honest) is) honest in
      not_lost (device disk) (device back) fault recovered.state (subst IsLost error lost))
