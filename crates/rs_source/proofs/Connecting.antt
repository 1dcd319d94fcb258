-- The effect of a request on a connection, and the held state after connections.
use Rattle.std.proofs.Common.{◌≡◌, ◌≤◌, ◌+◌, ℕ, List, [], ◌∷◌, ◌++◌, length, length-append, map, Result, Ok, Err, refl, ap, sym, ◌∙◌, subst, arith}
use Rattle.std.specs.Prelude.{IfOk, IsErrOf}
use Rattle.rs_disk.specs.Medium.{DiskState}
use Rattle.rs_io.specs.Watch.{Ends}
use Rattle.rs_model.specs.State.{Source}
use Rattle.rs_model.specs.Step.{step, state_after, fold_of}
use Rattle.rs_model.specs.declared.command.Command.{Command}
use Rattle.rs_store.specs.Source.{Stored, Holds, state_of}
use Rattle.rs_io.specs.declared.fault.StreamFault.{StreamFault}
use Rattle.rs_io.specs.declared.fault.StreamFault.TheVariants.{Read, Write}
use Rattle.rs_http.specs.declared.serve.Served.{Served}
use Rattle.rs_store.specs.Advancing.{GoesOnBy}
use Rattle.rs_store.specs.Laws.{RestIsIdle, TurnsGoOn}
use Rattle.rs_store.specs.Runs.{IsIdle, InTurn}
use Rattle.rs_recovery.specs.Prefixes.{IsRunOf, IdleIsRun, RunsJoin}
use Rattle.rs_recovery.specs.Replies.{command_of, ack_of, TurnsAreSeen}
use Rattle.rs_http.specs.Counted.{RunsAtMost}
use Rattle.rs_http.specs.Turn.{Turn}
use Rattle.rs_http.specs.Serving.{Serves, Breaks, Halts}
use Rattle.rs_source.specs.Connections.{Connection, ServesOne, AcceptsOne}
use Rattle.rs_source.specs.Serving.{Requests, IsServedAs, AreServed, Told, AreTold, commands_of, acks_of, AnswersConnections, ServesAccepted}

fold_of-append : (s : Source) (commands more : List (Command × ℕ)) → fold_of s (commands ++ more) ≡ fold_of (fold_of s commands) more
fold_of-append s [] more = refl
fold_of-append s (c ∷ commands) more = fold_of-append (state_after s (step s c.0 c.1)) commands more

-- all outcomes of a request
pub request_is : {D : Type 0} {device : D → DiskState} (turn : Turn device) (ends : Ends) (result : Result Served StreamFault) → IfOk result (Serves turn ends)
    → (IsErrOf result Read → Breaks turn ends) → (IsErrOf result Write → Halts turn ends) → Requests turn ends result
request_is turn ends (Ok served) ok read write = ok
request_is turn ends (Err Read) ok read write = read refl
request_is turn ends (Err Write) ok read write = write refl

module _ {D : Type 0} (device : D → DiskState) where
  -- a source that got no request
  stays : (old new : Stored D) → new ≡ old → GoesOnBy device old new []
  stays old new same = subst (λ (x : Stored D). GoesOnBy device old x []) (sym same) (record {
    opened = λ h. h;
    tells = λ _. refl;
    holds = λ s held free. held;
  })

  -- two sequences of commands, one after the other
  follows : (old mid new : Stored D) (first second : List (Command × ℕ)) → GoesOnBy device old mid first → GoesOnBy device mid new second
      → GoesOnBy device old new (first ++ second)
  follows old mid new first second a b = record {
    opened = λ free. a.opened (b.opened free);
    tells = λ free. b.tells free ∙ ap (λ s. fold_of s second) (a.tells (b.opened free)) ∙ sym (fold_of-append (state_of device old) first second);
    holds = λ s held free. subst (Holds device new) (sym (fold_of-append s first second)) (b.holds (fold_of s first) (a.holds s held (b.opened free)) free);
  }

  -- at most one command per connection leads to the state that is held after the connections
  pub connections_go : (connections : List Connection) (old new : Stored D) → AreServed device old connections new
      → (commands : List (Command × ℕ)) × (length commands ≤ length connections) × GoesOnBy device old new commands
  connections_go [] old new same = ([], omega arith, stays old new same)
  connections_go (c ∷ connections) old new (mid, begun, one, later) =
      let rest = connections_go connections mid new later in
      let here = one.once in (
        here.commands ++ rest.0,
        omega (arith, length-append here.commands rest.0, here.few, rest.1),
        follows old mid new here.commands rest.0 here.goes_on rest.2,
      )

  -- one more connection, or no connection
  pub served_more : (old mid new : Stored D) (connections more : List Connection) → AreServed device old connections mid → AreServed device mid more new
      → AreServed device old (connections ++ more) new
  served_more old mid new [] more same then = subst (λ (s : Stored D). AreServed device s more new) same then
  served_more old mid new (c ∷ connections) more (first, begun, one, later) then =
      (first, begun, one, served_more first mid new connections more later then)

  -- the one accepted connection, or no connection
  pub served_one : (old new : Stored D) (connections : List Connection) → ServesOne (IsServedAs device) old connections new
      → AreServed device old connections new × (length connections ≤ 1)
  served_one old new [] same = (same, omega arith)
  served_one old new (c ∷ []) is = ((new, is.0, is.1.1.0, refl), omega arith)
  served_one old new (c ∷ d ∷ connections) is = absurd is

module _ {D : Type 0} (device : D → DiskState) (rest : RestIsIdle device) (idle : IdleIsRun device) (join : RunsJoin device) where
  nothing_runs : (old new : Stored D) → new ≡ old → IsRunOf device old [] new
  nothing_runs old new same = subst (λ (x : Stored D). IsRunOf device old [] x) (sym same) (idle old old (rest old))

  -- the runs of the connections, in sequence, are a run
  pub connections_run : (connections : List Connection) (old new : Stored D) → AreServed device old connections new
      → RunsAtMost device old (length connections) new
  connections_run [] old new same = ([], omega arith, nothing_runs old new same)
  connections_run (c ∷ connections) old new (mid, begun, one, later) =
      let others = connections_run connections mid new later in
      let here = one.run in (
        here.0 ++ others.0,
        omega (arith, length-append here.0 others.0, here.1, others.1),
        join old mid new here.0 others.0 here.2 others.2,
      )

module _ {D : Type 0} (device : D → DiskState) (rest : RestIsIdle device) (join : TurnsGoOn device) where
  -- the answers that connections got, and the commands that the source got from them in sequence
  record AllTold (old : Stored D) (connections : List Connection) (new : Stored D) : Type 0 where
    told : List Told
    connections_are : map (λ t. t.connection) told ≡ connections
    each : AreTold device old told new
    in_turn : InTurn device old (commands_of told) (acks_of told) new

  still : (old new : Stored D) → new ≡ old → IsIdle device old new
  still old new same = subst (λ (s : Stored D). IsIdle device old s) (sym same) (rest old)

  all_told : (connections : List Connection) (old new : Stored D) → AreServed device old connections new → AllTold old connections new
  all_told [] old new same = record { told = []; connections_are = refl; each = same; in_turn = still old new same }
  all_told (c ∷ connections) old new (mid, begun, one, later) =
      let others = all_told connections mid new later in
      let got = one.answered.got in
      record {
        told = record { connection = c; got = got } ∷ others.told;
        connections_are = ap (λ (cs : List Connection). c ∷ cs) others.connections_are;
        each = (mid, record { is_new = begun.unwritten; tells = one.answered; got_is = refl }, others.each);
        in_turn =
            join old mid new (command_of got) (commands_of others.told) (ack_of got) (acks_of others.told) one.answered.in_turn others.in_turn;
      }

  pub connections_answered : TurnsAreSeen device → (connections : List Connection) (old new : Stored D) → AreServed device old connections new
      → AnswersConnections device old connections new
  connections_answered seen connections old new served =
      let all = all_told connections old new served in
      record {
        told = all.told;
        connections_are = all.connections_are;
        each = all.each;
        answered = seen old new (commands_of all.told) (acks_of all.told) all.in_turn;
      }

-- The connections that a listener accepted so far, at most `count`, were served.
pub record AreSoFar {D L : Type 0} (device : D → DiskState) (accepted : L → List Connection → L → Type 0) (from : L) (old : Stored D)
    (count : ℕ) (to : L) (new : Stored D) : Type 0 where
  pub connections : List Connection
  pub came : accepted from connections to
  pub few : length connections ≤ count
  pub served : AreServed device old connections new

module _ {D L : Type 0} (device : D → DiskState) (accepted : L → List Connection → L → Type 0) where
  pub none_yet : (rests : (listener : L) → accepted listener [] listener) (from : L) (old : Stored D) → AreSoFar device accepted from old 0 from old
  none_yet rests from old = record { connections = []; came = rests from; few = omega arith; served = refl }

  -- at most one accepted connection
  pub one_accepted : (from to : L) (old new : Stored D) → AcceptsOne accepted (IsServedAs device) from old to new
      → AreSoFar device accepted from old 1 to new
  one_accepted from to old new one =
      let is = served_one device old new one.connections one.served in
      record { connections = one.connections; came = one.came; few = is.1; served = is.0 }

  pub one_more : (joins : (from at to : L) (early late : List Connection) → accepted from early at → accepted at late to → accepted from (early ++ late) to)
      (from at to : L) (old mid new : Stored D) (count : ℕ) → AreSoFar device accepted from old count at mid → ServesAccepted device accepted at mid 1 to new
      → AreSoFar device accepted from old (count + 1) to new
  one_more joins from at to old mid new count all one = record {
    connections = all.connections ++ one.connections;
    came = joins from at to all.connections one.connections all.came one.came;
    few = omega (arith, length-append all.connections one.connections, all.few, one.few);
    served = served_more device old mid new all.connections one.connections all.served one.served;
  }

  pub serves_accepted : (RestIsIdle device) → TurnsGoOn device → TurnsAreSeen device → (from to : L) (old new : Stored D) (count : ℕ)
      → AreSoFar device accepted from old count to new → ServesAccepted device accepted from old count to new
  serves_accepted rest join seen from to old new count all = record {
    connections = all.connections;
    came = all.came;
    few = all.few;
    served = all.served;
    answers = connections_answered device rest join seen all.connections old new all.served;
  }

  pub accepted_go : (from to : L) (old new : Stored D) (count : ℕ) → AreSoFar device accepted from old count to new
      → (commands : List (Command × ℕ)) × (length commands ≤ count) × GoesOnBy device old new commands
  accepted_go from to old new count all =
      let go = connections_go device all.connections old new all.served in
      (go.0, omega (arith, go.1, all.few), go.2)

  pub accepted_run : RestIsIdle device → IdleIsRun device → RunsJoin device → (from to : L) (old new : Stored D) (count : ℕ)
      → AreSoFar device accepted from old count to new → RunsAtMost device old count new
  accepted_run rest idle join from to old new count all =
      let run = connections_run device rest idle join all.connections old new all.served in
      (run.0, omega (arith, run.1, all.few), run.2)
