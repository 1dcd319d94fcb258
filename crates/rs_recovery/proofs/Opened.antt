-- The result of an opening.
use Rattle.std.proofs.Common.{◌≡◌, ℕ, List, Some, None, sym, ◌∙◌, subst, Result, Ok, Err}
use Rattle.std.specs.Prelude.{IsTrue, IfOk, IfErr}
use Rattle.rs_disk.specs.Medium.{DiskState}
use Rattle.rs_commit.specs.Slots.{Standing, current}
use Rattle.rs_model.specs.State.{Source}
use Rattle.rs_image.specs.StateOfImage.{StandsFor}
use Rattle.rs_image.specs.Laws.{StandsOnce}
use Rattle.rs_store.specs.declared.opening.OpenFault.{OpenFault}
use Rattle.rs_store.specs.declared.opening.OpenFault.TheVariants.{NotASource, Damaged, Device, NoMemory}
use Rattle.rs_store.specs.Source.{Stored, Holds, state_of}
use Rattle.rs_store.specs.Opening.{IsOpened, IsNotOpened, disk_of}
use Rattle.rs_recovery.specs.Recovered.{HandsBack, IsOpenedOn}

no_slots : (image : List ℕ) (slots : Standing) → current image ≡ Some slots → current image ≡ None → ⊥
no_slots image slots is none = let clash : Some slots ≡ None = sym is ∙ none in cc

pub gives_back : StandsOnce → {D : Type 0} (device : D → DiskState) (disk : D) (result : Result (Stored D) (D × OpenFault))
    → IfOk result (IsOpened device (device disk)) → IfErr result (λ e. IsNotOpened (device disk) (device e.0) e.1)
    → IsTrue (device (disk_of result)).honest → (s : Source) → StandsFor (device disk).now.seen s → HandsBack device disk result s
gives_back stands_once device disk (Ok source) opened refused honest s stands =
    let found = opened.holds honest in
    subst (Holds device source) (stands_once (device disk).now.seen (state_of device source) s found.1 stands) found.0
gives_back stands_once device disk (Err (back, NotASource)) opened refused honest s stands = no_slots (device disk).now.seen stands.1.0 stands.1.1 (refused honest)
gives_back stands_once device disk (Err (back, Damaged)) opened refused honest s stands = (refused honest).1 s stands
gives_back stands_once device disk (Err (back, Device)) opened refused honest s stands = refused
gives_back stands_once device disk (Err (back, NoMemory)) opened refused honest s stands = tt

pub opened_on : {D : Type 0} (device : D → DiskState) (disk : D) (result : Result (Stored D) (D × OpenFault))
    → IfOk result (IsOpened device (device disk))
    → IfOk result (λ source. IsTrue (device source.disk).honest → IsOpenedOn device (device disk).now.seen source)
opened_on device disk (Ok source) opened = λ honest. (state_of device source, (opened.holds honest).1, (opened.holds honest).0)
opened_on device disk (Err refused) opened = tt
