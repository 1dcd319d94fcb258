-- A put whose device fails before its body came whole leaves the old state: two bodies that begin alike get the same
-- answer.
use Rattle.std.proofs.Common.{◌≡◌, ◌⊎◌, inl, inr, ℕ, ◌+◌, ◌-◌, ◌<◌, arith, List, [], ◌∷◌, ◌++◌, length, Option, Some, None, refl, sym, ◌∙◌, ap, subst}
use Rattle.std.specs.Prelude.{replicate}
use Rattle.std.proofs.lemmas.List.{length-replicate}
use Rattle.rs_disk.specs.Medium.{DiskState}
use Rattle.rs_model.specs.State.{Source, facts_of}
use Rattle.rs_model.specs.declared.value.Held.{Held}
use Rattle.rs_model.specs.declared.command.Command.{Command}
use Rattle.rs_model.specs.declared.command.Command.TheVariants.{Put}
use Rattle.rs_model.specs.declared.command.Reply.{Reply}
use Rattle.rs_model.specs.declared.command.Refusal.{Refusal}
use Rattle.rs_model.specs.Names.{value_of}
use Rattle.rs_model.specs.Step.{refusal_of, moment_at, next_state, reply_to, accepted_unless, step, state_after}
use Rattle.rs_store.proofs.FromBelow.{value-bind, stands_once}
use Rattle.rs_image.specs.StateOfImage.{StandsFor}
use Rattle.rs_store.specs.Laws.{EarlyFaultsLeave}
use Rattle.rs_store.specs.Received.{IsBodyOf}
use Rattle.rs_store.proofs.Received.{begins}

-- a command leaves the state, or the next one
left_or_next : (r : Option Refusal) (s : Source) (next : Source × Reply) → (state_after s (accepted_unless r next) ≡ s) ⊎ (state_after s (accepted_unless r next) ≡ next.0)
left_or_next None s next = inr refl
left_or_next (Some r) s next = inl refl

after_put : (s : Source) (command : Command) (now : ℕ)
    → (state_after s (step s command now) ≡ s) ⊎ (state_after s (step s command now) ≡ next_state s command (moment_at s now))
after_put s command now = left_or_next (refusal_of s command now) s (next_state s command (moment_at s now), reply_to s command (moment_at s now))

-- the bytes of a binding
abbrev bytes_in : Option Held → List ℕ
bytes_in None = []
bytes_in (Some held) = held.bytes

put_holds : (s : Source) (name kind bytes : List ℕ) (t : ℕ) → bytes_in (value_of name (next_state s (Put name kind bytes) t).held) ≡ bytes
put_holds s name kind bytes t = ap bytes_in (value-bind name (record { bytes = bytes; entry = record { facts = facts_of kind bytes; moment = t } }) s.held)

-- so two puts of different bytes lead to different states
puts_differ : (s : Source) (name kind a b : List ℕ) (t : ℕ) → (a ≡ b → ⊥) → next_state s (Put name kind a) t ≡ next_state s (Put name kind b) t → ⊥
puts_differ s name kind a b t other same =
    other (sym (put_holds s name kind a t) ∙ ap (λ (u : Source). bytes_in (value_of name u.held)) same ∙ put_holds s name kind b t)

-- two bodies that differ after the bytes that came
bodies_differ : (came rest : List ℕ) → came ++ 0 ∷ rest ≡ came ++ 1 ∷ rest → ⊥
bodies_differ [] rest same = absurd cc
bodies_differ (x ∷ came) rest same = bodies_differ came rest cc

one_body : (n : ℕ) (came : List ℕ) (x : ℕ) → length came < n → IsBodyOf n came (came ++ x ∷ replicate (n - (length came + 1)) 0)
one_body n came x fewer =
    begins n came (x ∷ replicate (n - (length came + 1)) 0) (omega (arith, length-replicate {A = ℕ} (n - (length came + 1)) 0, fewer))

-- If, for two puts, an image represents the old state or the next one, it represents the old one.
stands_for_old : (s : Source) (name kind a b : List ℕ) (now : ℕ) (image : List ℕ) → (a ≡ b → ⊥)
    → StandsFor image s ⊎ StandsFor image (state_after s (step s (Put name kind a) now))
    → StandsFor image s ⊎ StandsFor image (state_after s (step s (Put name kind b) now)) → StandsFor image s
stands_for_old s name kind a b now image other (inl is) two = is
stands_for_old s name kind a b now image other (inr one) (inl is) = is
stands_for_old s name kind a b now image other (inr one) (inr two) = elim (after_put s (Put name kind a) now) [
  | inl left ↦ subst (λ (u : Source). StandsFor image u) left one
  | inr next ↦ elim (after_put s (Put name kind b) now) [
    | inl left ↦ subst (λ (u : Source). StandsFor image u) left two
    | inr next' ↦ absurd (puts_differ s name kind a b (moment_at s now) other
        (sym next ∙ stands_once image (state_after s (step s (Put name kind a) now)) (state_after s (step s (Put name kind b) now)) one two ∙ next'))
  ]
]

pub early_faults_leave : {D : Type 0} (device : D → DiskState) → EarlyFaultsLeave device
early_faults_leave device old new s name kind n now came answered fewer holds =
    let a : List ℕ = came ++ 0 ∷ replicate (n - (length came + 1)) 0 in
    let b : List ℕ = came ++ 1 ∷ replicate (n - (length came + 1)) 0 in
    let one = (answered.1 a (one_body n came 0 fewer)).leads s holds in
    let two = (answered.1 b (one_body n came 1 fewer)).leads s holds in
    record {
      later = one.later;
      before = one.before;
      each = λ m image from until is.
          stands_for_old s name kind a b now image (bodies_differ came (replicate (n - (length came + 1)) 0)) (one.each m image from until is) (two.each m image from until is);
    }
