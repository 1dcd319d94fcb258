use Rattle.std.proofs.Common.{rules, ◌≡◌, ◌∷◌, [], ◌++◌, length, sym, ap, subst, arith}
use Rattle.std.specs.Prelude.{All}
use Rattle.std.proofs.lemmas.List.{length-append}
use Rattle.std.proofs.lemmas.List.Elements.{All-push}
use Rattle.rs_directory.specs.Directory.{ref_bytes, IsLawfulRef}
use Rattle.rs_directory.proofs.Pieces.{length-ref_bytes}
use Rattle.rs_directory.proofs.Entries.{read_more}
use Rattle.rs_directory.proofs.reading.refs_of.Goals as goal

pub loop-entry-smaller : goal.loop-entry-smaller
loop-entry-smaller c =
    let first = c.in-Some.ensures.some in
    omega (arith, ap length first.spelled, length-append (ref_bytes c.in-Some.entry) c.in-Some.after.now, length-ref_bytes c.in-Some.entry first.lawful)

pub loop-entry-preserved : goal.loop-entry-preserved
loop-entry-preserved c =
    let first = c.in-Some.ensures.some in
    let pushed : c.push.new.self.items ≡ c.loop-entry.refs.items ++ c.in-Some.entry ∷ [] = search rules in
    record {
      lawful = subst (All IsLawfulRef) (sym pushed) (All-push IsLawfulRef c.loop-entry.refs.items c.in-Some.entry c.loop-entry.invariant.lawful first.lawful);
      found = rw pushed (read_more c.loop-entry.refs.items c.in-Some.entry c.args.bytes.now c.loop-entry.rest.now c.in-Some.after.now
          c.loop-entry.invariant.found first.spelled);
    }
