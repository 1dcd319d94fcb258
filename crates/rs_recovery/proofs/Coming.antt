-- A put whose body comes from a reader is a turn.
use Rattle.std.proofs.Common.{◌≡◌, ◌⊎◌, inl, inr, ◌<◌, ℕ, false, List, length, Result, Ok, Err, subst, arith}
use Rattle.rs_disk.specs.Medium.{DiskState}
use Rattle.rs_disk.specs.Leaves.{Leaves}
use Rattle.rs_model.specs.State.{Source}
use Rattle.rs_model.specs.declared.command.Command.TheVariants.{Put}
use Rattle.rs_model.specs.declared.command.Reply.{Reply}
use Rattle.rs_image.specs.StateOfImage.{StandsFor}
use Rattle.rs_store.specs.declared.refusal.Refusal.{Refusal}
use Rattle.rs_store.specs.declared.refusal.Refusal.TheVariants.{ReadFault, ShortBody, Device}
use Rattle.rs_store.specs.Answered.{Answers}
use Rattle.rs_store.specs.Counted.{is_device}
use Rattle.rs_store.specs.Laws.{EarlyFaultsLeave, DeviceOrNoDoubt, RefusedIsNotDone}
use Rattle.rs_store.specs.Received.{IsBodyOf, AnswersFrom, coming_put}
use Rattle.rs_store.specs.Source.{Stored, Holds}
use Rattle.rs_recovery.proofs.FromBelow.{begins_one, may_fit}
use Rattle.rs_recovery.specs.Turns.{CommandsAreTurns, CutPutsIdle, IsPutTurn, ComesInTurn}

module _ {D : Type 0} (device : D → DiskState) (command : CommandsAreTurns device) (idle : CutPutsIdle device)
    (old new : Stored D) (name kind : List ℕ) (n now : ℕ) (came : List ℕ) where
  put_turn : (result : Result Reply Refusal) → AnswersFrom device old new (coming_put name kind n now) came result
      → IsPutTurn device old (coming_put name kind n now) came result new
  put_turn (Ok reply) a = (a.0, command old new (Put name kind came) now (Ok reply) a.1)
  put_turn (Err ReadFault) a = idle old new name kind n now came (inl a)
  put_turn (Err ShortBody) a = idle old new name kind n now came (inr a)
  put_turn (Err refusal) a = (may_fit n came refusal a.0, λ body begins. command old new (Put name kind body) now (Err refusal) (a.1 body begins))

  -- a refused put whose body was cut is not done
  refused_leaves : (refusal : Refusal) → EarlyFaultsLeave device → (refusal ≡ Device) ⊎ (is_device (Err refusal) ≡ false) → RefusedIsNotDone device
      → AnswersFrom device old new (coming_put name kind n now) came (Err refusal)
      → ((body : List ℕ) → IsBodyOf n came body → Answers device old new (Put name kind body) now (Err refusal))
      → length came < n → (s : Source) → Holds device old s → Leaves (device old.disk) (device new.disk) (λ _ image. StandsFor image s)
  refused_leaves refusal early (inl failed) kept a each fewer s held =
      early old new s name kind n now came (subst (λ (r : Refusal). AnswersFrom device old new (coming_put name kind n now) came (Err r)) failed a) fewer held
  refused_leaves refusal early (inr told) kept a each fewer s held =
      let body = begins_one n came (omega (arith, fewer)) in
      (kept old new s (Put name kind body.0) now refusal told ((each body.0 body.1).leads s held)).1

  module _ (early : EarlyFaultsLeave device) (doubt : DeviceOrNoDoubt) (kept : RefusedIsNotDone device) where
    cut_leaves : (result : Result Reply Refusal) → AnswersFrom device old new (coming_put name kind n now) came result → length came < n
        → (s : Source) → Holds device old s → Leaves (device old.disk) (device new.disk) (λ _ image. StandsFor image s)
    cut_leaves (Ok reply) a fewer s held = let never : ⊥ = omega (arith, a.0, fewer) in absurd never
    cut_leaves (Err ReadFault) a fewer s held = (a.left.holds s held).1
    cut_leaves (Err ShortBody) a fewer s held = (a.left.holds s held).1
    cut_leaves (Err refusal) a fewer s held = refused_leaves refusal early (doubt refusal) kept a a.1 fewer s held

    pub comes_in_turn : (result : Result Reply Refusal) → AnswersFrom device old new (coming_put name kind n now) came result
        → ComesInTurn device old (coming_put name kind n now) came result new
    comes_in_turn result a = record { turn = put_turn result a; cut = cut_leaves result a }
