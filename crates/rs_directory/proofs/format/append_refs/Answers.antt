use Rattle.std.proofs.Common.{rules, arith}
use Rattle.std.proofs.lemmas.List.Elements.{All-more}
use Rattle.rs_directory.specs.Directory.{IsLawfulRef}
use Rattle.rs_directory.proofs.Entries.{one_appended}
use Rattle.rs_directory.proofs.format.append_refs.Goals as goal

pub loop-entry-preserved : goal.loop-entry-preserved
loop-entry-preserved c =
    let refs = c.args.refs.now in
    let i = c.loop-entry.entry-index in
    record {
      items = one_appended refs i _ c.args.out.now.items c.loop-entry.out.items c.append_ref.new.out.items c.append_ref.ensures.lawful (omega arith)
          (search rules)
          c.loop-entry.invariant.items c.append_ref.ensures.items;
      len = omega arith;
      capacity = omega arith;
      lawful = All-more IsLawfulRef refs i _ (omega arith) c.loop-entry.invariant.lawful c.append_ref.ensures.lawful;
    }
