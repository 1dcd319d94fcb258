use Rattle.std.proofs.Common.{rules, refl, vec_len, ◌≡◌, ◌+◌, ◌-◌, ◌≤◌, ℕ, List, [], ◌++◌, length, take, drop, sym, ◌∙◌, ap, Result, Ok, Err, OnOk, IsTrue, arith}
use Rattle.std.proofs.lemmas.List.{take_all, take_at, drop_at, length-append, length-take-le, length-drop, append-nil}
use Rattle.std.specs.Prelude.{replicate}
use Rattle.std.proofs.Math.ListN.{drop_of_length-le}
use Rattle.rs_disk.specs.Medium.{DiskState}
use Rattle.rs_extent.specs.declared.Extent.{Extent}
use Rattle.rs_body.specs.Blocks.{part}
use Rattle.rs_body.specs.Reading.{HasNextPiece}
use Rattle.rs_body.proofs.read.append_piece.Goals as goal

-- a piece read after the bytes before it
next : {E : Type 0} (e : Extent) (at n end : ℕ) (old new : DiskState) (before into bytes : List ℕ) (result : Result (Unit {0}) E) → at ≡ length before → at + n ≡ end → length into ≡ n
    → bytes ≡ before ++ into → OnOk result (IsTrue new.honest → part e (at + n) old.now.seen ≡ part e at old.now.seen ++ into) → OnOk result (HasNextPiece e end old new before bytes)
next e at n end old new before into bytes (Ok x) is order long joined given = record {
  front = ap (take (length before)) joined ∙ take_at before into (length before) refl;
  long = omega (arith, ap length joined, length-append before into, is, order, long);
  gives = λ honest. ap (λ (k : ℕ). part e k old.now.seen) (sym order) ∙ given honest ∙ ap (λ (k : ℕ). part e k old.now.seen ++ into) is
      ∙ ap (λ (l : List ℕ). part e (length before) old.now.seen ++ l) (sym (ap (drop (length before)) joined ∙ drop_at before into (length before) refl));
}
next e at n end old new before into bytes (Err x) is order long joined given = cc

-- bytes that were lent out from one place on, in their place again
lent : (at n : ℕ) (before whole new after rest : List ℕ) → at ≤ n → length whole ≡ n → take at whole ≡ before → length new ≡ n - at → after ≡ []
    → take n ((take at whole ++ (new ++ after)) ++ rest) ≡ before ++ new
lent at n before whole new after rest order long front size none =
    let joined : (take at whole ++ (new ++ after)) ++ rest ≡ (take at whole ++ new) ++ rest =
    ap (λ (l : List ℕ). (take at whole ++ l) ++ rest) (ap (λ (l : List ℕ). new ++ l) none ∙ append-nil new) in
    ap (take n) joined
    ∙ take_at (take at whole ++ new) rest n (length-append (take at whole) new ∙ omega (arith, length-take-le at whole (omega (arith, order, long)), size, order))
    ∙ ap (λ (l : List ℕ). l ++ new) front

-- the bytes before, in a vector that was filled up
kept : (at n : ℕ) (before whole rest : List ℕ) → length before ≡ at → at ≤ n → whole ≡ take n before ++ rest → take at whole ≡ before
kept at n before whole rest long order is =
    ap (take at) is ∙ ap (λ (l : List ℕ). take at (l ++ rest)) (take_all n before (omega (arith, long, order))) ∙ take_at before rest at long

pub returns-clause-piece : goal.returns-clause-piece
returns-clause-piece g c =
    let whole = c.deref_mut.result.now in
    let filled : whole ≡ take c.args.end c.args.into.now.items ++ replicate (c.args.end - vec_len c.args.into.now) 0 = search rules in
    let front = kept c.len-at.result c.args.end c.args.into.now.items whole _ (search rules) (search rules) filled in
    next c.args.extent c.len-at.result _ c.args.end (g.D.Disk.state c.args.disk.now) (g.D.Disk.state c.read_piece.new.disk) c.args.into.now.items c.read_piece.new.into _ c.read_piece.result
    (search rules) (search rules) (search rules)
    (lent c.len-at.result _ c.args.into.now.items whole c.read_piece.new.into _ _ (search rules) (search rules) front (search rules)
    (drop_of_length-le (drop c.len-at.result whole) (omega (arith, length-drop c.len-at.result whole))))
    c.read_piece.ensures.gives
