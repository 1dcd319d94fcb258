use Rattle.std.proofs.Common.{◌≡◌, ◌+◌, ◌*◌, ℕ, length, sym, ◌∙◌, ap, List, ◌++◌, take, drop, Result, Ok, Err, OnOk, IsTrue, arith}
use Rattle.rs_extent.specs.declared.Extent.{Extent}
use Rattle.rs_extent.specs.Blocks.{block_size}
use Rattle.rs_body.specs.Blocks.{part}
use Rattle.rs_body.proofs.KeptBlocks.{lies}
use Rattle.rs_body.proofs.Pieces.{piece_behind}
use Rattle.rs_body.proofs.read.read_piece.Goals as goal

-- a read at the place of a piece gives the bytes that follow those before it
given_behind : {E : Type 0} (H : Type 0) (e : Extent) (at n from : ℕ) (seen into : List ℕ) (result : Result (Unit {0}) E) → from ≡ block_size * e.first + at → (H → OnOk result (into ≡ take n (drop from seen)))
    → OnOk result (H → part e (at + n) seen ≡ part e at seen ++ into)
given_behind H e at n from seen into (Ok x) is given = λ h. piece_behind e at n seen ∙ ap (λ (l : List ℕ). part e at seen ++ l) (ap (λ (k : ℕ). take n (drop k seen)) (sym is) ∙ sym (given h))
given_behind H e at n from seen into (Err x) is given = cc

pub read-requires : goal.read-requires
read-requires g c =
    let room = lies c.args.extent c.args.at (length c.args.into.now) (g.D.Disk.state c.args.disk.now).size c.if-is_empty.ensures c.requires.fits c.requires.room in
    omega (arith, c.offset_of.ensures, room)

pub returns-clause-gives : goal.returns-clause-gives
returns-clause-gives g c =
    given_behind (IsTrue (g.D.Disk.state c.read.new.self).honest) c.args.extent c.args.at (length c.args.into.now) (c.offset_of.result + c.args.at) (g.D.Disk.state c.args.disk.now).now.seen c.read.new.into c.read.result (omega (arith, c.offset_of.ensures)) c.read.ensures.gives
