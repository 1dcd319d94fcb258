use Rattle.std.proofs.Common.{rules, ◌≡◌, [], ◌∷◌, ◌++◌, sym, subst, arith}
use Rattle.std.specs.Prelude.{All}
use Rattle.std.proofs.lemmas.List.Elements.{All-push}
use Rattle.std.proofs.lemmas.Result.{err_from_is_err_and}
use Rattle.rs_page.proofs.OneList.{read_more, no_more}
use Rattle.rs_page.proofs.reading.read_first.Goals as goal

pub returns-in_err-item-clause-malformed : goal.returns-in_err-item-clause-malformed
returns-in_err-item-clause-malformed g c =
    let p = err_from_is_err_and c.from_residual.result c.from_residual.ensures.1 in
    rw (p.1, p.2)
    (λ malformed items rest long lawful.
    no_more g.T.PageItem.format c.formats_stand_alone.ensures c.loop.items.items items c.args.bytes.now c.loop.rest.now rest c.loop.invariant.lawful lawful
    (omega (arith, c.loop.invariant.count, c.loop-test.true, long)) c.loop.invariant.found (c.in_err-item.ensures.malformed.0 (cc)))

pub loop-preserved : goal.loop-preserved
loop-preserved g c =
    let pushed : c.push.new.self.items ≡ c.loop.items.items ++ c.in_ok-item.item ∷ [] = search rules in
    record {
      count = search rules;
      lawful = subst (All g.T.PageItem.format.IsLawful) (sym pushed)
          (All-push g.T.PageItem.format.IsLawful c.loop.items.items c.in_ok-item.item c.loop.invariant.lawful c.in_ok-item.ensures.found.0);
      found = rw (pushed, c.split_at.ensures.back)
          (read_more g.T.PageItem.format c.loop.items.items c.in_ok-item.item c.args.bytes.now c.loop.rest.now c.in_ok-item.size c.loop.invariant.found c.in_ok-item.ensures.found.1 c.in_ok-item.ensures.size);
    }
