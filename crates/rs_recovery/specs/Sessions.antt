-- Sessions of a source, one after another, as their disks saw them. A stop ended each of them.
use Rattle.std.specs.Prelude.{◌≡◌, ℕ, ◌≤◌, List, [], ◌∷◌, ◌++◌, take, Option, Some, None, Err}
use Rattle.rs_disk.specs.Medium.{DiskState, IsImage, IsImageAt}
use Rattle.rs_disk.specs.Leaves.{Leaves}
use Rattle.rs_disk.specs.Runs.{Rests}
use Rattle.rs_model.specs.State.{Source}
use Rattle.rs_model.specs.Step.{fold_of, refusal_of}
use Rattle.rs_model.specs.declared.command.Command.{Command}
use Rattle.rs_image.specs.StateOfImage.{StandsFor}
use Rattle.rs_store.specs.declared.refusal.Refusal.TheVariants.{Device}
use Rattle.rs_store.specs.declared.running.Ack.{Ack}
use Rattle.rs_store.specs.Source.{Stored, Holds}
use Rattle.rs_store.specs.OnlyReads.{OnlyReads}
use Rattle.rs_store.specs.Counted.{counted_commands, acknowledged, begun}
use Rattle.rs_store.specs.Laws.{AreNotDevice}
use Rattle.rs_store.specs.Runs.{Condition, Holding, condition_behind, AreAnswered}

-- A stop: it came before or within any disk call, after any number of calls from the first moment to the last, with any
-- image of that moment. `last` is the disk as if no stop had come. At the stop `stop` calls are done, and the next one
-- perhaps in part.
pub record IsStop (first last : DiskState) (stop : ℕ) (image : List ℕ) : Type 0 where
  pub from : first.calls ≤ stop
  pub to : stop ≤ last.calls
  pub left : IsImageAt last stop image

-- A session, on a disk of any type.
-- `first`: the disk when its source was made or opened.
-- `commands`, `acks`: the commands that were answered, with their answers. Some may come after the stop.
-- `unanswered`: the command that was never answered, if the machine stopped in one.
-- `last`: the disk after all these commands, as if the machine had not stopped. The stop picks a moment of this run.
-- `stop`, `image`: the number of disk calls before the stop, and the image of the disk that it left.
pub record Session : Type 0 where
  pub first : DiskState
  pub commands : List (Command × ℕ)
  pub acks : List Ack
  pub unanswered : Option (Command × ℕ)
  pub last : DiskState
  pub stop : ℕ
  pub image : List ℕ

-- all its commands
abbrev pub all_asked : List (Command × ℕ) → Option (Command × ℕ) → List (Command × ℕ)
all_asked commands None = commands
all_asked commands (Some c) = commands ++ c ∷ []

-- their answers: a command that was never answered may be done or not, like a command that is answered Device at the
-- end
abbrev pub all_ended : List Ack → Option (Command × ℕ) → ℕ → List Ack
all_ended acks None calls = acks
all_ended acks (Some c) calls = acks ++ record { reply = Err Device; at_call = calls } ∷ []

abbrev pub asked : Session → List (Command × ℕ)
asked x = all_asked x.commands x.unanswered

abbrev pub ended : Session → List Ack
ended x = all_ended x.acks x.unanswered x.last.calls

-- the accepted commands, and then the command that was answered Device or never, if there is one
abbrev pub counted : Session → List (Command × ℕ)
counted x = counted_commands (asked x) (ended x)

-- A session began with a state: its commands were answered from this state on, and then a stop ended it.
pub record IsSessionFrom (s : Source) (x : Session) : Type 0 where
  pub answered : AreAnswered x.first (Holding s) (asked x) (ended x) x.last
  pub stopped : IsStop x.first x.last x.stop x.image

-- Sessions of one source, the latest first: `x` came after `y`. The first one began with this state. Every later one
-- began with the state `s` of the image that the stop before it had left. They may be on disks of several types.
abbrev pub AreSessions : Source → List Session → Type 0
AreSessions start [] = ⊥
AreSessions start (x ∷ []) = IsSessionFrom start x
AreSessions start (x ∷ y ∷ past) = (s : Source) × StandsFor y.image s × IsSessionFrom s x × AreSessions start (y ∷ past)

-- If the disk of a session saw its commands answered from a state on, and a stop then ended it, it began with that
-- state.
abbrev pub StopsEndSessions : Type 0
StopsEndSessions = (s : Source) (x : Session) → AreAnswered x.first (Holding s) (asked x) (ended x) x.last
    → IsStop x.first x.last x.stop x.image → IsSessionFrom s x

-- A session alone is the first one.
abbrev pub SessionsBegin : Type 0
SessionsBegin = (start : Source) (x : Session) → IsSessionFrom start x → AreSessions start (x ∷ [])

-- A session follows the others if it began with the state of the image that the latest stop before it had left.
abbrev pub SessionsFollow : Type 0
SessionsFollow = (start s : Source) (x y : Session) (past : List Session) → AreSessions start (y ∷ past)
    → StandsFor y.image s → IsSessionFrom s x → AreSessions start (x ∷ y ∷ past)

-- the commands in the image of the latest stop, if this many counted commands of each session survive
abbrev pub commands_left : List Session → List ℕ → List (Command × ℕ)
commands_left (x ∷ past) (j ∷ standing) = commands_left past standing ++ take j (counted x)
commands_left sessions standing = []

-- This many counted commands of each session survive. They include every command that was acknowledged by the stop, and
-- no command that had not begun. The image of the stop represents the state that these commands make, after those of
-- the sessions before.
abbrev pub AreLeft : Source → List Session → List ℕ → Type 0
AreLeft start [] [] = Unit {0}
AreLeft start (x ∷ past) (j ∷ standing) =
    (acknowledged x.stop (ended x) ≤ j) × (j ≤ begun x.stop (ended x))
    × StandsFor x.image (fold_of start (commands_left (x ∷ past) (j ∷ standing))) × AreLeft start past standing
AreLeft start sessions standing = ⊥

-- The numbers of surviving commands are unique.
abbrev pub OneStanding : Type 0
OneStanding = (start : Source) (sessions : List Session) (standing others : List ℕ) → AreSessions start sessions
    → AreLeft start sessions standing → AreLeft start sessions others → others ≡ standing

-- An opening finds the disk as the stop of a session left it: the stop may have left every image that this disk has.
pub record IsLeftBy (x : Session) (disk : DiskState) : Type 0 where
  pub images : (image : List ℕ) → IsImage disk.now image → IsImageAt x.last x.stop image

-- A stop within an opening leaves an image that the stop before it might have left: the sessions stay, with that image.
abbrev pub OpeningsStopToo : Type 0
OpeningsStopToo = (start : Source) (x : Session) (past : List Session) (before after : DiskState)
    → AreSessions start (x ∷ past) → IsLeftBy x before → Leaves before after (λ _. IsImage before.now)
    → Leaves before after (λ _ image. AreSessions start (record x { image = image } ∷ past))

-- If the model accepts the last command, its answer may be struck out: the session with Device in its place began with
-- the same state.
abbrev pub AnswersMayBeMissing : Type 0
AnswersMayBeMissing =
    (first : DiskState) (s t : Source) (commands : List (Command × ℕ)) (acks : List Ack) (c : Command × ℕ) (a : Ack) (last : DiskState) (stop : ℕ) (image : List ℕ)
    → AreAnswered first (Holding s) (commands ++ c ∷ []) (acks ++ a ∷ []) last → condition_behind (Holding s) commands acks ≡ Holding t
    → refusal_of t c.0 c.1 ≡ None → IsStop first last stop image
    → IsSessionFrom s
    (record {
      first = first;
      commands = commands;
      acks = acks;
      unanswered = Some c;
      last = last;
      stop = stop;
      image = image;
    })

-- A source that holds a state has a session of no commands from that state on, before it gets a request.
abbrev pub HeldSourcesBegin : {D : Type 0} → (D → DiskState) → Type 0
HeldSourcesBegin {D} device = (source : Stored D) (s : Source) → Holds device source s
    → AreAnswered (device source.disk) (Holding s) [] [] (device source.disk)

-- A session goes on. Commands were answered from a state on, and no answer was Device. So the source holds the state
-- that the counted ones make. Then more commands were answered from that state on, as in another run. All of them were
-- answered in one session.
abbrev pub SessionsGoOn : Type 0
SessionsGoOn = (s : Source) (old mid new : DiskState) (first then : List (Command × ℕ)) (early late : List Ack)
    → AreAnswered old (Holding s) first early mid → AreNotDevice early
    → AreAnswered mid (Holding (fold_of s (counted_commands first early))) then late new
    → AreAnswered old (Holding s) (first ++ then) (early ++ late) new

-- A session lasts while its disk is only read, as by a copy, or by requests to a closed source.
abbrev pub SessionsLast : Type 0
SessionsLast = (is : Condition) (old mid new : DiskState) (commands : List (Command × ℕ)) (acks : List Ack)
    → AreAnswered old is commands acks mid → Rests mid new → AreAnswered old is commands acks new

-- A source that was only read, as by a copy, still holds its state.
abbrev pub ReadSourcesHold : {D : Type 0} → (D → DiskState) → Type 0
ReadSourcesHold {D} device = (old new : Stored D) (s : Source) → OnlyReads device old new → Holds device old s → Holds device new s
