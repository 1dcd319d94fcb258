use Rattle.std.proofs.Common.{◌≡◌, List, map, sym, ap, ◌∙◌, rules}
use Rattle.rs_record.specs.declared.record.Record.{Record}
use Rattle.rs_model.specs.Listed.{entry_of}
use Rattle.rs_catalogue.specs.Catalogue.{records_of}
use Rattle.rs_store.proofs.Found.{entries_held}
use Rattle.rs_store.proofs.source.Source.records.Goals as goal

pub returns-clause-entries : goal.returns-clause-entries
returns-clause-entries g c =
    let all = records_of c.args.self.now.contents.catalogue in
    let same : c.in_ok-records_in.field-0.items ≡ all = search rules in
    ap (λ (l : List Record). map entry_of l) same ∙ sym (entries_held (g.D.Disk.state c.args.self.now.disk).now.seen all)
