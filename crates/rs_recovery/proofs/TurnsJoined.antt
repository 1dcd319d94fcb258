-- The requests that join into a run of commands.
use Rattle.std.proofs.Common.{◌≡◌, inl, inr, ℕ, Bool, true, List, sym, ◌∙◌, ap, subst, cond, Some, None}
use Rattle.std.specs.Prelude.{replicate}
use Rattle.std.proofs.lemmas.List.{length-replicate}
use Rattle.rs_disk.specs.Medium.{Medium, DiskState, IsImage}
use Rattle.rs_commit.specs.Slots.{Standing}
use Rattle.rs_commit.specs.Commit.{IsReady}
use Rattle.rs_model.specs.State.{Source}
use Rattle.rs_model.specs.Step.{refusal_of}
use Rattle.rs_model.specs.declared.command.Command.{Command}
use Rattle.rs_model.specs.declared.command.Command.TheVariants.{Put}
use Rattle.rs_image.specs.StateOfImage.{StandsFor, Tells}
use Rattle.rs_image.specs.declared.contents.Contents.{Contents}
use Rattle.rs_store.specs.declared.refusal.Refusal.TheVariants.{Closed}
use Rattle.rs_store.specs.Source.{Stored, Holds, state_of}
use Rattle.rs_store.specs.Refusals.{decided, or_spent, is_spent}
use Rattle.rs_store.specs.OnlyReads.{OnlyReads}
use Rattle.rs_store.specs.Received.{IsCutShort, coming_put}
use Rattle.rs_store.specs.Runs.{IsIdle}
use Rattle.rs_store.specs.Laws.{HeldStands}
use Rattle.rs_recovery.proofs.Below.{weaker}
use Rattle.rs_recovery.specs.Turns.{ReadingsIdle, CutPutsIdle}

-- a source that was only read still holds its state
pub holds_on : {D : Type 0} (device : D → DiskState) (old new : Stored D) → OnlyReads device old new → (s : Source) → Holds device old s → Holds device new s
holds_on device old new reads s holds = record {
  is_open = reads.is_closed ∙ holds.is_open;
  ready = subst (λ (x : Standing). IsReady x (device new.disk).now) (sym reads.slots) (subst (λ (m : Medium). IsReady old.slots m) (sym reads.rests.now) holds.ready);
  tells = λ image is.
      let here : IsImage (device old.disk).now image = subst (λ (m : Medium). IsImage m image) reads.rests.now is in
      subst (λ (x : Standing). Tells x.root new.contents image s) (sym reads.slots) (subst (λ (x : Contents). Tells old.slots.root x image s) (sym reads.contents) (holds.tells image here));
}

module _ {D : Type 0} (device : D → DiskState) (images_stand : HeldStands device) where
  pub readings_idle : ReadingsIdle device
  readings_idle old new reads = record {
    is_closed = reads.is_closed;
    holds = λ s holds. (
      holds_on device old new reads s holds,
      weaker (device old.disk) (device new.disk) (λ _. IsImage (device old.disk).now) (λ _ image. StandsFor image s) (λ m image is. images_stand old s holds image is) reads.rests.leaves,
    );
    rests = λ _. reads.rests;
    calls = reads.rests.leaves.later;
  }

  -- a closed source takes no body
  cut_open : (old new : Stored D) (name kind : List ℕ) (n now : ℕ) (came : List ℕ) → IsCutShort device old new (coming_put name kind n now) came → old.is_closed ≡ true → ⊥
  cut_open old new name kind n now came cut shut =
      let command : Command = Put name kind (replicate n 0) in
      let refused : decided old (state_of device old) command now ≡ Some Closed =
      ap (λ (b : Bool). cond b (Some Closed) (or_spent (refusal_of (state_of device old) command now) (is_spent old))) shut in
      let clash : Some Closed ≡ None = sym refused ∙ cut.decides (replicate n 0) (length-replicate n 0) in
      cc

  cut_idles : (old new : Stored D) (name kind : List ℕ) (n now : ℕ) (came : List ℕ) → IsCutShort device old new (coming_put name kind n now) came → IsIdle device old new
  cut_idles old new name kind n now came cut = record {
    is_closed = cut.left.is_closed;
    holds = cut.left.holds;
    rests = λ shut. absurd (cut_open old new name kind n now came cut shut);
    calls = cut.left.runs.runs.calls;
  }

  pub cut_puts_idle : CutPutsIdle device
  cut_puts_idle old new name kind n now came (inl cut) = cut_idles old new name kind n now came cut
  cut_puts_idle old new name kind n now came (inr cut) = cut_idles old new name kind n now came cut
