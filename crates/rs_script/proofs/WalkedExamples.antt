-- Worked scripts: the events of their statements.
use Rattle.std.proofs.Common.{◌≡◌, Bool, List, [], ◌∷◌, refl, inl, inr}
use Rattle.std.specs.Prelude.{codes}
use Rattle.rs_model.specs.State.{Source, start_of}
use Rattle.rs_model.specs.declared.command.Command.TheVariants.{Delete, Publish}
use Rattle.rs_model.specs.declared.command.Refusal as model
use Rattle.rs_model.specs.declared.command.Refusal.TheVariants as decides
use Rattle.rs_model.specs.declared.event.Event.{Event}
use Rattle.rs_model.specs.declared.event.Event.TheVariants.{Tried, Refused, Stopped}
use Rattle.rs_store.specs.Refusals.{named_as}
use Rattle.rs_store.specs.declared.refusal.Refusal.TheVariants.{NotHeld, Full, Device, Closed}
use Rattle.rs_recovery.specs.Walked.{ModelRefuses}
use Rattle.rs_script.specs.declared.refusal.Refusal.TheVariants as refusals
use Rattle.rs_record.specs.Decimal.{number_in}
use Rattle.rs_items.specs.Fields.{fields}
use Rattle.rs_items.specs.Items.{item_of_line}
use Rattle.rs_script.specs.Statements.{Statement, single}
use Rattle.rs_script.specs.Requests.{request_of}
use Rattle.rs_script.specs.Session.{LineOutcome, moment_set, refused}
use Rattle.rs_script.specs.Walked.{IsWalkOf}

-- formatted at 1,000
abbrev start : Source
start = start_of (codes "http://a") 2 1000

-- The model refuses the delete. The machine refuses the first publication, since the disk is full. The resource is not
-- held. The device fails in the second publication, and the source is closed from then on.
abbrev statements : List Statement
statements =
    single (codes "at 5000") ∷ single (codes "delete a") ∷ single (codes "publish") ∷ single (codes "show /resource/a")
    ∷ single (codes "publish") ∷ single (codes "publish") ∷ []

abbrev outcomes : List LineOutcome
outcomes =
    moment_set ∷ refused (refusals.Source NotHeld) ∷ refused (refusals.Source Full) ∷ refused (refusals.Source NotHeld)
    ∷ refused (refusals.Source Device) ∷ refused (refusals.Source Closed) ∷ []

abbrev delete : Event
delete = Tried (Delete (codes "a")) 5000

-- no refusal of the model is named `Closed`
never_closed : (reason : model.Refusal) → named_as reason ≡ Closed → ⊥
never_closed decides.BadGroup is = cc
never_closed decides.TooLong is = cc
never_closed decides.NotHeld is = cc
never_closed decides.TooManyResources is = cc
never_closed decides.TooManyChanges is = cc
never_closed decides.Exhausted is = cc

-- the publication may or may not have been applied
pub worked_script : (stands : Bool)
    → IsWalkOf start 0 statements outcomes (delete ∷ Refused Publish ∷ Stopped Publish 5000 stands ∷ Refused Publish ∷ [])
unfolding request_of item_of_line fields number_in
worked_script stands = (
  [],
  delete ∷ Refused Publish ∷ Stopped Publish 5000 stands ∷ Refused Publish ∷ [],
  refl,
  refl,
  (
    delete ∷ [],
    Refused Publish ∷ Stopped Publish 5000 stands ∷ Refused Publish ∷ [],
    refl,
    inl ((decides.NotHeld, refl, refl), refl),
    (
      Refused Publish ∷ [],
      Stopped Publish 5000 stands ∷ Refused Publish ∷ [],
      refl,
      inr ((λ (m : ModelRefuses start Publish 5000 Full). let some = m.1 in absurd cc), refl),
      (
        [],
        Stopped Publish 5000 stands ∷ Refused Publish ∷ [],
        refl,
        refl,
        (
          Stopped Publish 5000 stands ∷ [],
          Refused Publish ∷ [],
          refl,
          (stands, refl),
          (Refused Publish ∷ [], [], refl, inr ((λ m. never_closed m.0 m.2), refl), refl),
        ),
      ),
    ),
  ),
)
