use Rattle.std.proofs.Common.{rules, ◌≡◌, ◌+◌, ◌-◌, ◌++◌, ℕ, List, length, take, drop, sym, ◌∙◌, ap, subst, arith}
use Rattle.std.proofs.lemmas.List.{take_all, length-drop}
use Rattle.rs_fixity.specs.Hashed.{HasTakenSha256}
use Rattle.rs_body.proofs.Pieces.{with_piece, front_with_piece}
use Rattle.rs_body.proofs.by_pieces.append_pieces.Goals as goal

-- the bytes from one place on, all of them
rest_of : (at : ℕ) (before bytes lent : List ℕ) → length before ≡ at → lent ≡ bytes → take (length lent - at) (drop at lent) ≡ drop (length before) bytes
rest_of at before bytes lent long same =
    take_all (length lent - at) (drop at lent) (omega (arith, length-drop at lent)) ∙ ap (λ (l : List ℕ). drop at l) same ∙ ap (λ (k : ℕ). drop k bytes) (sym long)

pub loop-at-preserved : goal.loop-at-preserved
loop-at-preserved g c =
    let i = c.loop-at.invariant in
    let one = c.in_ok-append_piece.ensures in
    let before = c.loop-at.into.items in
    let new = c.append_piece.new.into.items in
    let end = c.loop-at.at + c.min.result in
    let now = g.D.Disk.state c.loop-at.disk in
    let then = g.D.Disk.state c.append_piece.new.disk in
    let long : length before ≡ c.loop-at.at = search rules in
    record {
      within = search rules;
      long = search rules;
      space = search rules;
      reads = λ honest. front_with_piece c.args.extent c.loop-at.at end (g.D.Disk.state c.args.disk.now) now then before new i.runs.now long one.piece (i.reads (one.reads.runs.runs.lasts honest)) honest;
      hashed = subst (λ (l : List ℕ). HasTakenSha256 c.add.new.self l)
          (ap (λ (l : List ℕ). before ++ l) (rest_of c.loop-at.at before new c.deref.result.now long c.deref.ensures.value) ∙ with_piece c.args.extent end now then before new one.piece)
          (c.add.ensures before i.hashed);
      runs = search rules;
      whole = search rules;
      calls = search rules;
      none = λ nothing. absurd (omega (arith, nothing, c.loop-at-test.true, c.min.ensures));
    }
