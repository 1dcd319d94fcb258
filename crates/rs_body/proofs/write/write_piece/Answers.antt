use Rattle.std.proofs.Common.{◌+◌, ◌*◌, ℕ, length, ◌∙◌, ap, subst, arith, IsErr, OnOk, OnErr}
use Rattle.std.proofs.lemmas.Bool.Decides.{nat_tests}
use Rattle.std.proofs.lemmas.Result.{on_ok_weaker}
use Rattle.rs_disk.specs.Medium.{Medium}
use Rattle.rs_disk.specs.Calls.{Writes, Tears}
use Rattle.rs_disk.specs.Runs.{WritesWithin}
use Rattle.rs_extent.specs.Blocks.{block_size}
use Rattle.rs_body.specs.Blocks.{part, place_of}
use Rattle.rs_body.proofs.FromBelow.{write_leaves, counts_calls, writing_one}
use Rattle.rs_body.proofs.KeptBlocks.{outside_write, piece_follows, lies}
use Rattle.rs_body.proofs.Torn.{held, torn_held}
use Rattle.rs_body.proofs.write.write_piece.Goals as goal

pub write-requires : goal.write-requires
write-requires g c =
    let n = length c.args.piece.now in
    let room = lies c.args.extent c.args.at n (g.D.Disk.state c.args.disk.now).size c.if-is_empty.ensures c.requires.fits c.requires.room in
    omega (arith, c.offset_of.ensures, room)

pub returns-clause-reads : goal.returns-clause-reads
returns-clause-reads g c =
    let e = c.args.extent in
    let n = length c.args.piece.now in
    let old = g.D.Disk.state c.args.disk.now in
    let new = g.D.Disk.state c.write.new.self in
    let room = lies e c.args.at n old.size c.if-is_empty.ensures c.requires.fits c.requires.room in
    let is = g.met.D.Disk.holds c.args.disk.now in
    on_ok_weaker c.write.result
    (λ (wrote : Writes (block_size * e.first + c.args.at) c.args.piece.now old new).
    ap (λ (m : Medium). part e (c.args.at + n) m.seen) wrote.now ∙ piece_follows e c.args.at old.now.seen c.args.piece.now (omega (arith, room, is.image.size, is.settled)))
    (subst (λ (from : ℕ). OnOk c.write.result (Writes (from + c.args.at) c.args.piece.now old new)) c.offset_of.ensures c.write.ensures.writes)

pub returns-clause-writes : goal.returns-clause-writes
returns-clause-writes g c =
    let e = c.args.extent in
    let at = place_of e c.args.at in
    let n = length c.args.piece.now in
    let bytes = c.args.piece.now in
    let old = g.D.Disk.state c.args.disk.now in
    let new = g.D.Disk.state c.write.new.self in
    let counts = c.write.ensures.counts in
    let is = g.met.D.Disk.holds c.args.disk.now in
    let room = lies e c.args.at n old.size c.if-is_empty.ensures c.requires.fits c.requires.room in
    let ok : OnOk c.write.result (Writes at bytes old new) =
    subst (λ (from : ℕ). OnOk c.write.result (Writes (from + c.args.at) bytes old new)) c.offset_of.ensures c.write.ensures.writes in
    let err : OnErr c.write.result (Tears at n old new) =
    subst (λ (from : ℕ). OnErr c.write.result (Tears (from + c.args.at) n old new)) c.offset_of.ensures c.write.ensures.tears in
    let left = held old new at bytes c.write.result ok err in
    let run : WritesWithin at n (IsErr c.write.result) old new = record {
      writes = writing_one old new c.write.result counts c.write.ensures.keeps;
      torn = torn_held at n old.now new.now (omega (arith, room, is.image.size, is.settled)) left;
      leaves = write_leaves old new at bytes c.write.result counts is room ok err;
    } in
    record {
      within = run;
      outside = λ kept beside. outside_write kept e c.args.at n old new beside c.requires.fits (omega (arith, room, is.unsettled)) run left;
      one_call = (counts_calls old new c.write.result counts).1;
      no_call = λ none. absurd (grind (arith, nat_tests, none, c.if-is_empty.ensures));
    }
