use Rattle.std.proofs.Common.{rules, ◌≡◌, length, ◌∙◌}
use Rattle.rs_body.specs.declared.read.LoadFault.TheVariants.{Damaged}
use Rattle.rs_image.proofs.ListsRead.{handed_on, handed_lists, refusal_tells_none, damage_tells_none, went_well}
use Rattle.rs_image.proofs.Found.{size_seen, found_still, refused_behind, reads_behind, reads_well, untold_lists, are_told, none_told}
use Rattle.rs_image.proofs.loading.load.Goals as goal

pub returns-in_err-directory-clause-damaged : goal.returns-in_err-directory-clause-damaged
returns-in_err-directory-clause-damaged g c is = c.in_err-directory.ensures.damaged (handed_on _ Damaged _ c.from_residual.ensures.1 is)

pub returns-in_err-contents-clause-damaged : goal.returns-in_err-contents-clause-damaged
returns-in_err-contents-clause-damaged g c is honest =
    untold_lists _ _ _ _ _ c.in_ok-directory.ensures.found _ c.in_ok-directory.ensures.runs c.in_ok-directory.ensures.calls c.in_err-contents.ensures.reads honest
    (c.in_err-contents.ensures.damaged (handed_on _ Damaged _ c.from_residual-in_err-contents.ensures.1 is) honest)

-- once the directory was read, all pages that it names were found placed
pub returns-in_err-contents-clause-no_memory : goal.returns-in_err-contents-clause-no_memory
returns-in_err-contents-clause-no_memory g c is =
    refused_behind _ _ _ _ _ c.in_ok-directory.ensures.found _ c.in_ok-directory.ensures.runs c.in_ok-directory.ensures.calls c.in_err-contents.ensures.reads

pub returns-in_err-used-clause-no_memory : goal.returns-in_err-used-clause-no_memory
returns-in_err-used-clause-no_memory g c is =
    refused_behind _ _ _ _ _ c.in_ok-directory.ensures.found _ c.in_ok-directory.ensures.runs c.in_ok-directory.ensures.calls c.in_ok-contents.ensures.reads

-- the directory comes first, and then the pages that it names, which are placed
pub returns-in_err-contents-clause-reads : goal.returns-in_err-contents-clause-reads
returns-in_err-contents-clause-reads g c =
    reads_behind _ _ _ _ _ c.in_ok-directory.ensures.found _ c.in_ok-directory.ensures.runs c.in_ok-directory.ensures.calls (handed_lists _ _ _ _ _ c.from_residual-in_err-contents.ensures.1 c.in_err-contents.ensures.reads)

pub returns-in_err-used-clause-reads : goal.returns-in_err-used-clause-reads
returns-in_err-used-clause-reads g c =
    reads_well _ _ _ _ _ c.in_ok-directory.ensures.found _ c.in_ok-directory.ensures.runs c.in_ok-directory.ensures.calls c.in_ok-contents.ensures.reads (went_well c.in_ok-contents.contents)
    (refusal_tells_none _ c.from_residual-in_err-used.ensures.1)

pub returns-in-Some-clause-reads : goal.returns-in-Some-clause-reads
returns-in-Some-clause-reads g c =
    reads_well _ _ _ _ _ c.in_ok-directory.ensures.found _ c.in_ok-directory.ensures.runs c.in_ok-directory.ensures.calls c.in_ok-contents.ensures.reads (went_well c.in_ok-contents.contents) (went_well _)

pub returns-in-None-clause-reads : goal.returns-in-None-clause-reads
returns-in-None-clause-reads g c =
    reads_well _ _ _ _ _ c.in_ok-directory.ensures.found _ c.in_ok-directory.ensures.runs c.in_ok-directory.ensures.calls c.in_ok-contents.ensures.reads (went_well c.in_ok-contents.contents) damage_tells_none

pub returns-in-Some-clause-told : goal.returns-in-Some-clause-told
returns-in-Some-clause-told g c honest =
    let new = g.D.Disk.state c.load_lists.new.disk in
    let read = c.in_ok-directory.ensures.found in
    let found = found_still _ _ _ _ _ read _ c.in_ok-directory.ensures.runs c.in_ok-directory.ensures.calls c.in_ok-contents.ensures.reads honest in
    let long : c.size.result ≡ length new.now.seen = c.size.ensures ∙ size_seen new.size new.now (g.met.D.Disk.holds c.load_lists.new.disk) in
    are_told c.args.root.now c.in_ok-directory.directory c.in_ok-contents.contents new.now.seen c.size.result read.lawful read.digest found
    c.in_ok-contents.ensures.lists (c.in_ok-contents.ensures.found honest) long (search rules)

pub returns-in-None-clause-damaged : goal.returns-in-None-clause-damaged
returns-in-None-clause-damaged g c is honest =
    let new = g.D.Disk.state c.load_lists.new.disk in
    let read = c.in_ok-directory.ensures.found in
    let found = found_still _ _ _ _ _ read _ c.in_ok-directory.ensures.runs c.in_ok-directory.ensures.calls c.in_ok-contents.ensures.reads honest in
    let long : c.size.result ≡ length new.now.seen = c.size.ensures ∙ size_seen new.size new.now (g.met.D.Disk.holds c.load_lists.new.disk) in
    none_told c.args.root.now c.in_ok-directory.directory c.in_ok-contents.contents new.now.seen c.size.result read.lawful found
    c.in_ok-contents.ensures.lists (c.in_ok-contents.ensures.found honest) long (search rules)
