use Rattle.std.proofs.Common.{rules, ◌≡◌, ℕ, [], ◌∷◌, List, sym, ◌∙◌, ap}
use Rattle.std.proofs.lemmas.List.Elements.{All-nil, All-cons}
use Rattle.rs_model.specs.Listed.{entry_of}
use Rattle.rs_copy.specs.Copies.{HasItsBody}
use Rattle.rs_copy.proofs.bodies.copy_body.Goals as goal

pub returns-then-eq-clause-bodies : goal.returns-then-eq-clause-bodies
returns-then-eq-clause-bodies g c =
    let r = c.args.held.now in
    let new = (g.E.Disk.state c.copy_pieces.new.to).now.seen in
    let e = c.in_ok-sha256.ensures in
    let same : c.in_ok-sha256.sha256 ≡ r.digests.sha256 = search rules in
    record {
      copied = λ honest. ap (λ (bytes : List ℕ). (r.name, record { bytes = bytes; entry = (entry_of r).1 }) ∷ []) (e.copied honest);
      intact = All-cons (HasItsBody new) (record r { extent = c.args.extent }) [] (sym e.digest ∙ same) (All-nil (HasItsBody new));
      damaged = λ is. absurd cc;
    }
