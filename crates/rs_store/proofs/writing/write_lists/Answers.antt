use Rattle.std.proofs.Common.{rules, arith, ◌≡◌, ◌*◌, ◌+◌, ◌≤◌, [], ◌∷◌, subst, length, Result, Ok, Err}
use Rattle.std.specs.Prelude.{OnOk}
use Rattle.rs_disk.specs.Medium.{DiskState}
use Rattle.rs_body.specs.Blocks.{part}
use Rattle.rs_store.proofs.FromBelow.{only_then}
use Rattle.rs_plan.specs.Plans.{places}
use Rattle.rs_image.specs.declared.contents.Contents.{Contents}
use Rattle.rs_directory.specs.Directory.{written_format}
use Rattle.rs_image.specs.StateOfImage.{listing, AreLists}
use Rattle.rs_store.proofs.Written.{pages_of, pages_among, directory_among, beside_each, apart_each, inside_each, all_written}
use Rattle.rs_store.proofs.writing.write_lists.Goals as goal

pub write_pages-requires-clause-room : goal.write_pages-requires-clause-room
write_pages-requires-clause-room g c b is =
    let size = (g.D.Disk.state c.args.disk.now).size in
    (inside_each size c.args.plan.now c.requires.inside).pages b is

pub write_pages-requires-clause-apart : goal.write_pages-requires-clause-apart
write_pages-requires-clause-apart g c = (apart_each c.args.plan.now c.requires.apart).pages

pub returns-in_err-write_pages-clause-writes : goal.returns-in_err-write_pages-clause-writes
returns-in_err-write_pages-clause-writes g c =
    record { runs = search rules; outside = λ kept beside. c.write_pages.ensures.writes.outside kept (beside_each kept c.args.plan.now beside).pages }

pub write_directory-requires-clause-room : goal.write_directory-requires-clause-room
write_directory-requires-clause-room g c b is =
    let size = (g.D.Disk.state c.args.disk.now).size in
    let fits : 512 * b + 512 ≤ size = (inside_each size c.args.plan.now c.requires.inside).directory b is in
    omega (arith, fits, c.write_pages.ensures.writes.runs.runs.size)

pub returns-clause-writes : goal.returns-clause-writes
returns-clause-writes g c =
    let p = c.args.plan.now in
    only_then (pages_of p) (p.directory ∷ []) (places p) (g.D.Disk.state c.args.disk.now) (g.D.Disk.state c.write_pages.new.disk) (g.D.Disk.state c.write_directory.new.disk)
    (pages_among p) (directory_among p) (λ is. absurd cc) c.in_ok-write_pages.ensures.writes c.write_directory.ensures.writes

-- two facts of success give a third
both_ok : {T E P Q R : Type 0} (r : Result T E) → (P → Q → R) → OnOk r P → OnOk r Q → OnOk r R
both_ok (Ok x) f p q = f p q
both_ok (Err e) f p q = tt

pub returns-clause-stored : goal.returns-clause-stored
returns-clause-stored g c =
    let p = c.args.plan.now in
    let new : DiskState = g.D.Disk.state c.write_directory.new.disk in
    let stored = c.in_ok-write_pages.ensures.ok in
    both_ok c.write_directory.result
    (λ reads lists. record {
      contents = stored;
      lists = subst (λ (d : Contents). AreLists d) stored lists;
      reads = λ bodies sized stand. all_written p bodies (g.D.Disk.state c.args.disk.now) (g.D.Disk.state c.write_pages.new.disk) new
          c.requires.apart sized stand c.write_pages.ensures.writes c.in_ok-write_pages.ensures.pages c.write_directory.ensures.writes
          (subst (λ (d : Contents). part p.directory (length (listing written_format d)) new.now.seen ≡ listing written_format d) stored reads);
    })
    c.write_directory.ensures.reads c.write_directory.ensures.lists
