use Rattle.std.proofs.Common.{true≢false, ◌≡◌, List, ℕ, false, get_or, sym, ap, subst, Result, Ok, Err}
use Rattle.std.specs.Prelude.{IfOk, IfErr, IsTrue}
use Rattle.rs_disk.specs.Medium.{Medium, DiskState}
use Rattle.rs_store.proofs.FromBelow.{resting_off, runs_one, nothing_read, nothing_synced, nothing_then}
use Rattle.rs_commit.specs.Slots.{Standing}
use Rattle.rs_commit.specs.Commit.{AreSettled}
use Rattle.rs_image.specs.declared.contents.Loaded.{Loaded}
use Rattle.rs_store.specs.declared.opening.OpenFault.{OpenFault}
use Rattle.rs_store.specs.Opening.{IsFound, IsNotOpened}
use Rattle.rs_store.proofs.Opened.{not_opened_before}
use Rattle.rs_store.proofs.opening.read_settled.Goals as goal

-- the result of opening a disk that was settled before
found_settled : (r : Result (Standing × Loaded) OpenFault) (old mid new : DiskState) → AreSettled mid.now → mid.now.seen ≡ old.now.seen
    → IfOk r (λ x. IsTrue new.honest → AreSettled mid.now → IsFound mid.now.seen new.now x.0 x.1.contents)
    → IfOk r (λ x. IsTrue new.honest → IsFound old.now.seen new.now x.0 x.1.contents)
found_settled (Ok x) old mid new settled same found = λ honest. subst (λ (l : List ℕ). IsFound l new.now x.0 x.1.contents) same (found honest settled)
found_settled (Err e) old mid new settled same found = tt

refused_before : (r : Result (Standing × Loaded) OpenFault) (old mid new : DiskState) → ((fault : OpenFault) → IsNotOpened mid new fault → IsNotOpened old new fault)
    → IfErr r (IsNotOpened mid new) → IfErr r (IsNotOpened old new)
refused_before (Ok x) old mid new before refused = tt
refused_before (Err e) old mid new before refused = before e refused

pub returns-clause-found : goal.returns-clause-found
returns-clause-found g c =
    let old = g.D.Disk.state c.args.disk.now in
    let mid = g.D.Disk.state c.sync.new.self in
    let settled : AreSettled mid.now =
    λ i lt. subst (λ (m : Medium). get_or m.unsettled i false ≡ false) (sym c.in_ok-sync.ensures.settles.now) (resting_off old.now.seen i) in
    found_settled c.read_source.result old mid (g.D.Disk.state c.read_source.new.disk) settled (ap (λ (m : Medium). m.seen) c.in_ok-sync.ensures.settles.now) c.read_source.ensures.found

pub returns-clause-refused : goal.returns-clause-refused
returns-clause-refused g c =
    let old = g.D.Disk.state c.args.disk.now in
    let mid = g.D.Disk.state c.sync.new.self in
    let new = g.D.Disk.state c.read_source.new.disk in
    let sync = runs_one old mid c.sync.result c.sync.ensures.counts in
    refused_before c.read_source.result old mid new
    (not_opened_before old mid new (ap (λ (m : Medium). m.seen) c.in_ok-sync.ensures.settles.now) sync.size sync.faults) c.read_source.ensures.refused

pub returns-clause-runs : goal.returns-clause-runs
returns-clause-runs g c =
    let old = g.D.Disk.state c.args.disk.now in
    let mid = g.D.Disk.state c.sync.new.self in
    let new = g.D.Disk.state c.read_source.new.disk in
    let sync = nothing_synced old mid (Ok c.in_ok-sync.field-0) c.in_ok-sync.ensures.counts (g.met.D.Disk.holds c.args.disk.now) c.in_ok-sync.ensures.settles tt in
    nothing_then old mid new (λ is. true≢false (sym is)) sync (nothing_read mid new c.read_source.ensures.runs)
