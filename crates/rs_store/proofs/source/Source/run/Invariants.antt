use Rattle.std.proofs.Common.{◌≡◌, ◌≤◌, IsErrOf, IsTrue, length, take, vec_len}
use Rattle.std.specs.List.{AllZip}
use Rattle.std.specs.Vec.{vec_capacity}
use Rattle.rs_store.specs.Runs.{InTurn}
use Rattle.rs_store.specs.declared.refusal.Refusal.TheVariants.{Closed}
use Rattle.rs_store.proofs.source.Source.run.Given as goal

abbrev pub invariant-loop-command : goal.invariant-loop-command
invariant-loop-command g l = record {
  turn : InTurn g.D.Disk.state l.initial.self (take l.command-index l.commands) l.acks.items l.self;
  closed : IsTrue l.initial.self.is_closed → (l.self ≡ l.initial.self) × AllZip (λ command a. IsErrOf a.reply Closed) (take l.command-index l.commands) l.acks.items;
  room : length l.commands ≤ vec_capacity l.acks;
  many : vec_len l.acks ≡ l.command-index;
}
