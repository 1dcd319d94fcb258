-- The commands of a source that was asked in a session are included in every later state.
use Rattle.std.specs.Prelude.{◌≡◌, ◌⊎◌, ℕ, ◌<◌, ◌≤◌, List, ◌∷◌, ◌++◌, length, take}
use Rattle.std.specs.List.{AllByRecursion}
use Rattle.rs_model.specs.State.{Source}
use Rattle.rs_model.specs.Step.{fold_of}
use Rattle.rs_model.specs.declared.command.Command.{Command}
use Rattle.rs_store.specs.Counted.{counted_commands}
use Rattle.rs_store.specs.Runs.{Holding, condition_behind}
use Rattle.rs_recovery.specs.Sessions.{Session, AreSessions, commands_left, AreLeft}

-- The moment at which a source is asked: the number of earlier sessions, the number of answers of its own session, and
-- the state that it holds then, which is the state that it shows.
pub record Asking : Type 0 where
  pub sessions : ℕ
  pub commands : ℕ
  pub state : Source

-- The source of a session that began with this state could be asked after n answers: the stop had not come before them,
-- and they left it holding the state t.
pub record CouldServe (s : Source) (x : Session) (n : ℕ) (t : Source) : Type 0 where
  pub before : AllByRecursion (λ a. a.at_call ≤ x.stop) (take n x.acks)
  pub held : condition_behind (Holding s) (take n x.commands) (take n x.acks) ≡ Holding t

-- The source of the session `x`, which came after the sessions `past`, is asked. These are its commands: the surviving
-- ones of the sessions before, and then the counted ones of its own session.
pub record HasServedIn (start : Source) (x : Session) (past : List Session) (standing : List ℕ) (asking : Asking) (commands : List (Command × ℕ)) : Type 0 where
  pub after : asking.sessions ≡ length past
  pub could : CouldServe (fold_of start (commands_left past standing)) x asking.commands asking.state
  pub behind : commands ≡ commands_left past standing ++ counted_commands (take asking.commands x.commands) (take asking.commands x.acks)

-- The source was asked in one of these sessions, the latest or an earlier one, and these are its commands.
abbrev pub HasServed : Source → List Session → List ℕ → Asking → List (Command × ℕ) → Type 0
HasServed start (x ∷ past) (j ∷ standing) asking commands =
    HasServedIn start x past standing asking commands ⊎ HasServed start past standing asking commands
HasServed start sessions standing asking commands = ⊥

-- in an earlier session, or in the same one after no more commands
abbrev pub IsNoLater : Asking → Asking → Type 0
IsNoLater asking later = (asking.sessions < later.sessions) ⊎ ((asking.sessions ≡ later.sessions) × (asking.commands ≤ later.commands))

abbrev pub IsPrefixOf : List (Command × ℕ) → List (Command × ℕ) → Type 0
IsPrefixOf front whole = (rest : List (Command × ℕ)) × (front ++ rest ≡ whole)

-- Some commands of these sessions survive, in their order.
-- `holds`: of each session its first counted ones, which include all acknowledged ones.
-- `served`: a source that could be asked, in any session, held the state that its commands make, and these
-- commands are a prefix of the surviving ones.
-- `ordered`: they are also a prefix of the commands of any source that could be asked no earlier.
pub record CommandsStand (start : Source) (sessions : List Session) (standing : List ℕ) : Type 0 where
  pub holds : AreLeft start sessions standing
  pub served : (asking : Asking) (commands : List (Command × ℕ)) → HasServed start sessions standing asking commands
      → (asking.state ≡ fold_of start commands) × IsPrefixOf commands (commands_left sessions standing)
  pub ordered : (asking later : Asking) (commands more : List (Command × ℕ)) → IsNoLater asking later
      → HasServed start sessions standing asking commands → HasServed start sessions standing later more → IsPrefixOf commands more

-- Over any number of sessions, whatever the stops, commands survive.
abbrev pub SessionsStand : Type 0
SessionsStand = (start : Source) (sessions : List Session) → AreSessions start sessions
    → (standing : List ℕ) × CommandsStand start sessions standing
