use Rattle.std.proofs.Common.{◌≡◌, List, Result, Ok, Err, [], ◌∷◌, ◌++◌, arith, sym, ◌∙◌, ap, subst, refl}
use Rattle.std.specs.Prelude.{IfErr, IsErrOf}
use Rattle.std.specs.Result.{IsErrAnd}
use Rattle.rs_extent.specs.declared.Extent.{Extent}
use Rattle.rs_copy.proofs.FromBelow.{apart_front, apart_behind, some_first, some_front, pages_stored}
use Rattle.rs_page.specs.Items.{record_format, change_format}
use Rattle.rs_page.specs.declared.page.store.StoreFault.{StoreFault}
use Rattle.rs_page.specs.declared.page.store.StoreFault.TheVariants.{Device as NoDevice, NoMemory as NoPageMemory}
use Rattle.rs_catalogue.specs.Catalogue.{records_of}
use Rattle.rs_commit.specs.declared.root.Root.{Root}
use Rattle.rs_image.specs.declared.contents.Contents.{Contents}
use Rattle.rs_image.specs.Reach.{bodies_of}
use Rattle.rs_image.specs.StateOfImage.{AreAllStored}
use Rattle.rs_copy.specs.declared.faults.CopyFault.{CopyFault}
use Rattle.rs_copy.specs.declared.faults.CopyFault.TheVariants.{TooSmall, Full, Device, Damaged, NoMemory}
use Rattle.rs_copy.specs.Copies.{Disks}
use Rattle.rs_copy.specs.Copying.{CopiesOnly, IsListed, IsOfListing, IsOfWriting, copied_root, copy_fault_of, pages_in, written_in}
use Rattle.rs_copy.proofs.Handed.{both_ok, either_way, err_is, handed_on, no_err}
use Rattle.rs_copy.proofs.Laid.{bodies_among, pages_among}
use Rattle.rs_copy.proofs.MovedBodies.{ends_bodies}
use Rattle.rs_copy.proofs.Runs.{copies_as, copies_handed, copies_within, copies_write}
use Rattle.rs_copy.proofs.Told.{bodies_at_end, stands_at_end}
use Rattle.rs_copy.proofs.writing.write_behind.Goals as goal

-- the fault of a page ends the writing, with Device exactly if a device failed
page_handed : {S T : Type 0} {xs : List Extent} {old new : Disks} (r : Result T CopyFault) (e : StoreFault) → IsErrAnd r (λ y. y ≡ copy_fault_of e)
    → CopiesOnly xs (IsErrOf {T = S} (Err e) NoDevice) old new → CopiesOnly xs (IsErrOf r Device) old new
page_handed r NoDevice handed run = copies_as (λ is. err_is r Device handed) (λ is. refl) run
page_handed r NoPageMemory handed run = copies_as (λ is. absurd cc) (λ is. let same : NoMemory ≡ Device = handed_on r NoMemory Device handed is in absurd cc) run

page_whole : {S : Type 0} (e : StoreFault) → ¬ IsErrOf {T = S} (Err (copy_fault_of e)) Damaged
page_whole NoDevice is = absurd cc
page_whole NoPageMemory is = absurd cc

-- the faults of the directory are faults of the writing
of_writing : {T : Type 0} (r : Result T CopyFault) → IfErr r IsOfListing → IfErr r IsOfWriting
of_writing (Ok x) of = tt
of_writing (Err TooSmall) of = of
of_writing (Err Full) of = of
of_writing (Err Device) of = of
of_writing (Err Damaged) of = tt
of_writing (Err NoMemory) of = of

pub copy_bodies-requires-clause-apart : goal.copy_bodies-requires-clause-apart
copy_bodies-requires-clause-apart g c =
    let lists = c.args.layout.now.contents in
    apart_behind (pages_in lists) (bodies_of (records_of lists.catalogue)) c.requires.room.apart.1

pub returns-in_err-copy_bodies-clause-copies : goal.returns-in_err-copy_bodies-clause-copies
returns-in_err-copy_bodies-clause-copies g c =
    let l = c.args.layout.now in
    copies_handed c.from_residual.result c.in_err-copy_bodies.field-0.0 Device c.from_residual.ensures.1
    (copies_within (written_in l.contents l.directory) (bodies_among l.contents l.directory) c.in_err-copy_bodies.ensures.copies)

pub returns-in_err-copy_bodies-clause-bodies : goal.returns-in_err-copy_bodies-clause-bodies
returns-in_err-copy_bodies-clause-bodies g c =
    ends_bodies c.from_residual.result c.in_err-copy_bodies.field-0.0 c.from_residual.ensures.1 c.in_err-copy_bodies.ensures.bodies.damaged

pub write_pages-requires-clause-room : goal.write_pages-requires-clause-room
write_pages-requires-clause-room g c b is =
    let l = c.args.layout.now in
    omega (arith, c.requires.room.on_disk b (pages_among l.contents l.directory b is), c.copy_bodies.ensures.copies.runs.advances.size)

pub write_pages-requires-clause-apart : goal.write_pages-requires-clause-apart
write_pages-requires-clause-apart g c =
    let lists = c.args.layout.now.contents in
    apart_front (pages_in lists) (bodies_of (records_of lists.catalogue)) c.requires.room.apart.1

pub returns-in_err-write_pages-clause-copies : goal.returns-in_err-write_pages-clause-copies
returns-in_err-write_pages-clause-copies g c =
    let l = c.args.layout.now in
    page_handed c.from_residual-in_err-write_pages.result c.in_err-write_pages.field-0.0 c.from_residual-in_err-write_pages.ensures.1
    (copies_write (pages_among l.contents l.directory) (λ is. absurd cc)
    (copies_within (written_in l.contents l.directory) (bodies_among l.contents l.directory) c.in_ok-copy_bodies.ensures.copies) c.in_err-write_pages.ensures.writes)

pub returns-in_err-write_pages-clause-bodies : goal.returns-in_err-write_pages-clause-bodies
returns-in_err-write_pages-clause-bodies g c =
    let e = c.in_err-write_pages.field-0.0 in
    ends_bodies {S = Root} c.from_residual-in_err-write_pages.result (copy_fault_of e) c.from_residual-in_err-write_pages.ensures.1 (λ is honest. absurd (page_whole e is))

pub write_directory-requires-clause-stored : goal.write_directory-requires-clause-stored
write_directory-requires-clause-stored g c =
    let lists = c.args.layout.now.contents in
    let untouched = c.requires.room.untouched in
    subst AreAllStored (sym c.in_ok-write_pages.ensures.stored)
    (record {
      catalogue = pages_stored record_format lists.catalogue untouched.catalogue;
      history = pages_stored change_format lists.history.pages untouched.history;
      published = pages_stored record_format lists.published untouched.published;
    })

pub write_directory-requires-clause-room : goal.write_directory-requires-clause-room
write_directory-requires-clause-room g c b is =
    let l = c.args.layout.now in
    omega (
      arith,
      c.requires.room.on_disk b (some_first l.directory (pages_in l.contents ++ bodies_of (records_of l.contents.catalogue)) b is),
      c.copy_bodies.ensures.copies.runs.advances.size,
      c.write_pages.ensures.writes.runs.runs.size,
    )

pub returns-clause-copies : goal.returns-clause-copies
returns-clause-copies g c =
    let l = c.args.layout.now in
    copies_write (some_front (l.directory ∷ []) (pages_in l.contents ++ bodies_of (records_of l.contents.catalogue))) (λ is. absurd cc)
    (copies_write (pages_among l.contents l.directory) (λ is. absurd cc)
    (copies_within (written_in l.contents l.directory) (bodies_among l.contents l.directory) c.in_ok-copy_bodies.ensures.copies) c.in_ok-write_pages.ensures.writes)
    c.write_directory.ensures.writes

pub returns-clause-bodies : goal.returns-clause-bodies
returns-clause-bodies g c =
    let l = c.args.layout.now in
    let bodies = c.in_ok-copy_bodies.ensures.bodies in
    let stay =
    bodies_at_end (g.E.Disk.state c.args.to.now).size l.contents l.directory c.requires.room _ _ _ c.in_ok-write_pages.ensures.writes c.write_directory.ensures.writes in
    record {
      copied = either_way c.write_directory.result (λ honest. stay.0 ∙ bodies.copied honest);
      intact = either_way c.write_directory.result (stay.1 bodies.intact);
      damaged = λ is honest. absurd (no_err IsOfListing c.write_directory.result Damaged c.write_directory.ensures.others (λ none. none) is);
    }

pub returns-clause-made : goal.returns-clause-made
returns-clause-made g c =
    let l = c.args.layout.now in
    let new = (g.E.Disk.state c.write_directory.new.to).now.seen in
    let pages = c.in_ok-write_pages.ensures in
    both_ok c.write_directory.result
    (λ (root : Root) is listed. record {
      root = is ∙ ap (copied_root l.directory) pages.stored;
      layout = ap (λ (d : Contents). record l { contents = d }) pages.stored;
      stands = record {
        pages = stands_at_end (g.E.Disk.state c.args.to.now).size l.contents l.directory c.requires.room _ _ _ pages.writes c.write_directory.ensures.writes pages.written;
        listed = subst (λ (d : Contents). IsListed l.directory d new) pages.stored listed;
      };
    })
    c.write_directory.ensures.root c.write_directory.ensures.listed

pub returns-clause-others : goal.returns-clause-others
returns-clause-others g c = of_writing c.write_directory.result c.write_directory.ensures.others
