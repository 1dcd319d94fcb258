-- The properties of a state that a later state of the source keeps.
use Rattle.std.proofs.Common.{◌≡◌, ℕ, ◌≤◌, List, [], ◌∷◌, ◌++◌, refl, ◌∙◌, sym, arith, Option, Some, None}
use Rattle.rs_model.specs.declared.command.Command.{Command}
use Rattle.rs_model.specs.declared.command.Command.TheVariants.{Put, Delete, Publish, Group}
use Rattle.rs_model.specs.declared.command.Item.{Item}
use Rattle.rs_model.specs.declared.command.Item.TheVariants as single
use Rattle.rs_model.specs.declared.command.Refusal.{Refusal}
use Rattle.rs_model.specs.declared.command.Reply.{Reply}
use Rattle.rs_model.specs.State.{Source}
use Rattle.rs_model.specs.Step.{step, state_after, next_state, accepted_unless, refusal_of, reply_to, moment_at, after_item as item_after, after_items, fold_of}

-- The publication is the same where its number is.
pub record IsLater (s t : Source) : Type 0 where
  pub base : t.base ≡ s.base
  pub limit : t.limit ≡ s.limit
  pub number : s.number ≤ t.number
  pub published : t.number ≡ s.number → (t.at ≡ s.at) × (t.listed ≡ s.listed)

itself : (s : Source) → IsLater s s
itself s = record { base = refl; limit = refl; number = omega arith; published = λ e. (refl, refl) }

-- with the same publication
unpublished : (s t u : Source) → IsLater s t → u.base ≡ t.base → u.limit ≡ t.limit → u.number ≡ t.number → u.at ≡ t.at → u.listed ≡ t.listed
    → IsLater s u
unpublished s t u h b m n at l =
    record {
      base = b ∙ h.base;
      limit = m ∙ h.limit;
      number = omega (arith, h.number, n);
      published = λ e. let same = h.published (sym n ∙ e) in (at ∙ same.0, l ∙ same.1);
    }

after_item : (s t : Source) (item : Item) (m : ℕ) → IsLater s t → IsLater s (item_after t item m)
after_item s t (single.Put name kind bytes) m h = unpublished s t (item_after t (single.Put name kind bytes) m) h refl refl refl refl refl
after_item s t (single.Delete name) m h = unpublished s t (item_after t (single.Delete name) m) h refl refl refl refl refl

after_group : (s t : Source) (items : List Item) (m : ℕ) → IsLater s t → IsLater s (after_items t items m)
after_group s t [] m h = h
after_group s t (item ∷ items) m h = after_group s (item_after t item (moment_at t m)) items m (after_item s t item (moment_at t m) h)

after_command : (s t : Source) (command : Command) (m : ℕ) → IsLater s t → IsLater s (next_state t command m)
after_command s t (Put name kind bytes) m h = unpublished s t (next_state t (Put name kind bytes) m) h refl refl refl refl refl
after_command s t (Delete name) m h = unpublished s t (next_state t (Delete name) m) h refl refl refl refl refl
after_command s t Publish m h =
    record {
      base = h.base;
      limit = h.limit;
      number = omega (arith, h.number);
      published = λ e. absurd (omega (arith, h.number, e));
    }
after_command s t (Group items) m h = after_group s t items m h

unless_refused : (s t : Source) (o : Option Refusal) (next : Source × Reply) → IsLater s t → IsLater s next.0
    → IsLater s (state_after t (accepted_unless o next))
unless_refused s t None next h k = k
unless_refused s t (Some refusal) next h k = h

after_commands : (s t : Source) (commands : List (Command × ℕ)) → IsLater s t → IsLater s (fold_of t commands)
after_commands s t [] h = h
after_commands s t (c ∷ commands) h =
    let m : ℕ = moment_at t c.1 in
    after_commands s (state_after t (step t c.0 c.1)) commands
    (unless_refused s t (refusal_of t c.0 c.1) (next_state t c.0 m, reply_to t c.0 m) h (after_command s t c.0 m h))

-- the state after commands is a later one
pub later : (s : Source) (commands : List (Command × ℕ)) → IsLater s (fold_of s commands)
later s commands = after_commands s s commands (itself s)

pub fold-append : (s : Source) (a b : List (Command × ℕ)) → fold_of s (a ++ b) ≡ fold_of (fold_of s a) b
fold-append s [] b = refl
fold-append s (c ∷ a) b = fold-append (state_after s (step s c.0 c.1)) a b
