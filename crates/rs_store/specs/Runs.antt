-- The effect of a run of commands on a source, and of a stop during it.
use Rattle.std.specs.Prelude.{◌≡◌, ◌⊎◌, ℕ, ◌≤◌, true, List, [], ◌∷◌, take, Result, Ok, Err, MatchOption}
use Rattle.rs_disk.specs.Medium.{DiskState}
use Rattle.rs_disk.specs.Leaves.{Leaves}
use Rattle.rs_disk.specs.Runs.{Rests}
use Rattle.rs_model.specs.State.{Source}
use Rattle.rs_model.specs.Step.{step, state_after, fold_of, refusal_of}
use Rattle.rs_model.specs.declared.command.Command.{Command}
use Rattle.rs_model.specs.declared.command.Reply.{Reply}
use Rattle.rs_image.specs.StateOfImage.{StandsFor}
use Rattle.rs_store.specs.declared.refusal.Refusal.{Refusal}
use Rattle.rs_store.specs.declared.refusal.Refusal.TheVariants.{Closed, Exhausted, Full, Device, NoMemory}
use Rattle.rs_store.specs.declared.running.Ack.{Ack}
use Rattle.rs_store.specs.Source.{Stored, Holds}
use Rattle.rs_store.specs.Refusals.{named_as}
use Rattle.rs_store.specs.Answered.{Answers}
use Rattle.rs_store.specs.Counted.{counted_commands, acknowledged, begun}

-- The source does no command. It may have been read, and free blocks may have been written for a put whose body did not
-- come whole. It is as open or closed as before, still holds the state that it held, and every image of a crash
-- meanwhile represents it. While it is closed, only the counts of the disk change.
pub record IsIdle {D : Type 0} (device : D → DiskState) (old new : Stored D) : Type 0 where
  pub is_closed : new.is_closed ≡ old.is_closed
  pub holds : (s : Source) → Holds device old s → Holds device new s × Leaves (device old.disk) (device new.disk) (λ _ image. StandsFor image s)
  pub rests : old.is_closed ≡ true → Rests (device old.disk) (device new.disk)
  pub calls : (device old.disk).calls ≤ (device new.disk).calls

-- A source answers commands in their order, and the `at_call` of an answer is the disk's count of calls at the answer.
-- Before every command, and after the last, the source may idle.
abbrev pub InTurn : {D : Type 0} → (D → DiskState) → Stored D → List (Command × ℕ) → List Ack → Stored D → Type 0
InTurn {D} device old [] [] new = IsIdle device old new
InTurn {D} device old (c ∷ commands) (a ∷ acks) new =
    (ready : Stored D) × IsIdle device old ready
    × (mid : Stored D) × Answers device ready mid c.0 c.1 a.reply × (a.at_call ≡ (device mid.disk).calls) × InTurn device mid commands acks new
InTurn {D} device old [] (a ∷ acks) new = ⊥
InTurn {D} device old (c ∷ commands) [] new = ⊥

-- An image represents the state after the first j counted commands, for some j: they have all commands that were
-- acknowledged at a count of m calls, and no command that had not begun.
pub record StandsForPrefix (s : Source) (commands : List (Command × ℕ)) (acks : List Ack) (m : ℕ) (image : List ℕ) : Type 0 where
  pub j : ℕ
  pub least : acknowledged m acks ≤ j
  pub most : j ≤ begun m acks
  pub stands : StandsFor image (fold_of s (take j (counted_commands commands acks)))

-- a refusal that the model does not decide
abbrev pub IsBeyondModel : Refusal → Type 0
IsBeyondModel Exhausted = Unit {0}
IsBeyondModel Full = Unit {0}
IsBeyondModel Device = Unit {0}
IsBeyondModel NoMemory = Unit {0}
IsBeyondModel refusal = ⊥

-- The possible answers of an open source that holds a state: Ok with the model's reply; the model's refusal; or, where
-- the model accepts, a refusal that the model does not decide.
abbrev pub MayAnswer : Source → Command → ℕ → Result Reply Refusal → Type 0
MayAnswer s command now (Ok reply) = (t : Source) × (step s command now ≡ Ok (t, reply))
MayAnswer s command now (Err refusal) = MatchOption (refusal_of s command now) (IsBeyondModel refusal) (λ r. refusal ≡ named_as r)

-- A source between two commands: it holds this state; or the device failed in a command that leads from the first state
-- to the second, and the source is closed.
pub data Condition : Type 0 where
  Holding : Source → Condition
  InDoubt : Source → Source → Condition

-- the states that an image of its disk may represent then
abbrev pub MayStandFor : Condition → List ℕ → Type 0
MayStandFor (Holding s) image = StandsFor image s
MayStandFor (InDoubt s t) image = StandsFor image s ⊎ StandsFor image t

-- The possible answers of the source to a command. A closed source answers only Closed.
abbrev pub MayReply : Condition → Command × ℕ → Result Reply Refusal → Type 0
MayReply (Holding s) c reply = MayAnswer s c.0 c.1 reply
MayReply (InDoubt s t) c reply = reply ≡ Err Closed

-- The source after a command, by the answer. After Ok it holds the model's next state. Device leaves a doubt whether
-- the command was done. Any other refusal changes nothing.
abbrev pub condition_after : Condition → Command × ℕ → Result Reply Refusal → Condition
condition_after (Holding s) c (Ok reply) = Holding (state_after s (step s c.0 c.1))
condition_after (Holding s) c (Err Device) = InDoubt s (state_after s (step s c.0 c.1))
condition_after (Holding s) c (Err refusal) = Holding s
condition_after (InDoubt s t) c reply = InDoubt s t

-- the source after commands with these answers
abbrev pub condition_behind : Condition → List (Command × ℕ) → List Ack → Condition
condition_behind is (c ∷ commands) (a ∷ acks) = condition_behind (condition_after is c a.reply) commands acks
condition_behind is commands acks = is

-- One command is answered, as the disk sees it: `old` is the disk after the previous answer, and `new` the disk after
-- this one.
-- `ready`: the disk when the command comes.
-- `idle`: until then the source may be read, and every image of a crash represents a state that the source may have.
-- `within`: within the command, every image represents a state that the source may have before the command or after it.
-- `reply`: this is a possible answer of the source.
-- `at_call`: the answer has the disk's count of calls.
pub record AnswersOne (old : DiskState) (is : Condition) (c : Command × ℕ) (a : Ack) (new : DiskState) : Type 0 where
  pub ready : DiskState
  pub idle : Leaves old ready (λ _. MayStandFor is)
  pub within : Leaves ready new (λ _ image. MayStandFor is image ⊎ MayStandFor (condition_after is c a.reply) image)
  pub reply : MayReply is c a.reply
  pub at_call : a.at_call ≡ new.calls

-- Commands are answered in their order, as the disk sees it. `mid` is the disk after the first answer. The source may
-- also be read after the last answer.
abbrev pub AreAnswered : DiskState → Condition → List (Command × ℕ) → List Ack → DiskState → Type 0
AreAnswered old is [] [] new = Leaves old new (λ _. MayStandFor is)
AreAnswered old is (c ∷ commands) (a ∷ acks) new =
    (mid : DiskState) × AnswersOne old is c a mid × AreAnswered mid (condition_after is c a.reply) commands acks new
AreAnswered old is commands acks new = ⊥
