use Rattle.std.proofs.Common.{rules, ◌≡◌, [], ◌∷◌, ◌+◌, ◌≤◌, ◌++◌, ℕ, List, length, take, sym, ◌∙◌, ap, subst, arith}
use Rattle.std.proofs.KnownBytes.{Consumes-trans}
use Rattle.std.proofs.lemmas.List.{length-append, length-take}
use Rattle.std.proofs.lemmas.Result.{err_from_is_err_and}
use Rattle.std.specs.Io.KnownBytes.{Consumes}
use Rattle.rs_fixity.specs.Hashed.{HasTaken}
use Rattle.rs_body.specs.Blocks.{part}
use Rattle.rs_store.proofs.FromBelow.{went_well, only_on, only_then}
use Rattle.rs_io.specs.Watch.{watched}
use Rattle.rs_store.proofs.Received.{stops_behind}
use Rattle.rs_store.proofs.ReaderCounts.{reads_behind}
use Rattle.rs_store.proofs.receiving.receive.Goals as goal

pub returns-in_err-receive_piece-clause-stopped : goal.returns-in_err-receive_piece-clause-stopped
returns-in_err-receive_piece-clause-stopped g c =
    let given = err_from_is_err_and c.from_residual.result c.from_residual.ensures.1 in
    let inv = c.loop-at.invariant in
    let cut = c.in_err-receive_piece.ensures.stopped in
    let remaining = g.R.Read.remaining in
    let rest = remaining (watched c.receive_piece.new.reader) in
    let front = part c.args.extent c.loop-at.at (g.D.Disk.state c.loop-at.disk).now.seen in
    let piece : List ℕ = take c.min-size.result c.loop-at.buffer in
    let fits : length front + length piece ≤ c.args.body_length = omega (arith, inv.whole, inv.within, length-take {A = ℕ}, c.min-size.ensures) in
    rw (given.1, given.2) (
      front ++ cut.0,
      Consumes-trans (remaining (watched c.args.reader.now)) (remaining (watched c.loop-at.reader)) rest front cut.0 inv.took.0 cut.1,
      stops_behind c.args.body_length (length piece) rest front cut.0 c.in_err-receive_piece.field-0.0 fits cut.2,
      reads_behind c.args.reader.now c.loop-at.reader c.receive_piece.new.reader front cut.0 _ (omega (arith, inv.reads, inv.whole)) inv.took.1 cut.3,
    )

pub returns-in_err-receive_piece-clause-writes : goal.returns-in_err-receive_piece-clause-writes
returns-in_err-receive_piece-clause-writes g c =
    let alone = c.args.extent ∷ [] in
    let both = only_then alone alone alone (g.D.Disk.state c.args.disk.now) (g.D.Disk.state c.loop-at.disk) (g.D.Disk.state c.receive_piece.new.disk)
    (λ b is. is) (λ b is. is) (λ none. none) c.loop-at.invariant.writes c.in_err-receive_piece.ensures.writes in
    record { runs = search rules; outside = both.outside }

pub loop-at-preserved : goal.loop-at-preserved
loop-at-preserved g c =
    let inv = c.loop-at.invariant in
    let e = c.in_ok-receive_piece.ensures in
    let size = c.min-size.result in
    let remaining = g.R.Read.remaining in
    let piece : List ℕ = c.receive_piece.new.piece in
    let alone = c.args.extent ∷ [] in
    let old = g.D.Disk.state c.args.disk.now in
    let mid = g.D.Disk.state c.loop-at.disk in
    let new = g.D.Disk.state c.receive_piece.new.disk in
    let front = part c.args.extent c.loop-at.at mid.now.seen in
    let now = part c.args.extent (c.loop-at.at + size) new.now.seen in
    let long : length (take size c.loop-at.buffer) ≡ size = omega (arith, length-take {A = ℕ}, c.min-size.ensures, c.min-size.array_long) in
    let same : length piece ≡ size = c.receive_piece.auto.piece ∙ long in
    let joined : now ≡ front ++ piece =
    subst (λ (k : ℕ). part c.args.extent (c.loop-at.at + k) new.now.seen ≡ front ++ piece) long e.reads in
    record {
      within = omega (arith, c.min-size.ensures, inv.within);
      took = (
        subst (λ (came : List ℕ). Consumes (remaining (watched c.args.reader.now)) (remaining (watched c.receive_piece.new.reader)) came) (sym joined)
            (Consumes-trans (remaining (watched c.args.reader.now)) (remaining (watched c.loop-at.reader)) (remaining (watched c.receive_piece.new.reader)) front piece inv.took.0 e.ok.0),
        e.ok.1 ∙ inv.took.1,
      );
      reads = omega (arith, inv.reads, e.called, same);
      whole = ap length joined ∙ omega (arith, length-append front piece, same, inv.whole);
      hashed = subst (λ (came : List ℕ). HasTaken c.add.new.self came) (sym joined) (c.add.ensures front inv.hashed);
      writes = only_on alone alone alone old mid new (λ b is. is) (λ b is. is) (λ none. none) (λ is. absurd cc) (λ none. absurd none) (went_well old mid new (λ none. none) inv.writes.runs.runs) inv.writes e.writes;
    }
