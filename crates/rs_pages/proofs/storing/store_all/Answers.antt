use Rattle.std.proofs.Common.{true≢false, is_ok, set, ap, arith, Err}
use Rattle.std.specs.Prelude.{IsErrOf}
use Rattle.std.proofs.lemmas.Result.{err_from_is_err_and}
use Rattle.rs_page.specs.declared.page.store.StoreFault.TheVariants.{Device}
use Rattle.rs_pages.specs.Storing.{StoresSome, WritesPages}
use Rattle.rs_pages.proofs.Writing.{writes_as, writes_one}
use Rattle.rs_pages.proofs.StoredUpTo.{next_room, next_settled, store_step, store_stop, store_end}
use Rattle.rs_pages.proofs.storing.store_all.Given.{Over}
use Rattle.rs_pages.proofs.storing.store_all.Goals as goal
use Rattle.rs_pages.proofs.storing.store_all.Goals.{In_err-store}

pub store-requires-clause-placed : goal.store-requires-clause-placed
store-requires-clause-placed g c = next_settled c.page-item.result c.loop-page.invariant.so_far (omega arith) c.requires.placed

pub store-requires-clause-room : goal.store-requires-clause-room
store-requires-clause-room g c = next_room c.page-item.result c.loop-page.invariant.so_far (omega arith) c.requires.room

pub loop-page-preserved : goal.loop-page-preserved
loop-page-preserved g c =
    let settled = next_settled c.page-item.result c.loop-page.invariant.so_far (omega arith) c.requires.placed in
    let one = writes_one _ _ _ _ settled (λ h. (c.store.ensures.stored h).1) c.store.ensures.calls c.in_ok-store.ensures.writes in
    record {
      so_far = store_step c.page-item.result c.loop-page.invariant.so_far (omega arith) c.store.new.self (g.D.Disk.state c.store.new.disk) (λ is. true≢false (ap is_ok is)) c.requires.apart one
          c.in_ok-store.ensures.ok c.in_ok-store.ensures.reads;
    }

-- the result of a failed write of a page
stopped : (g : Over) (c : In_err-store g) → StoresSome g.T.PageItem.format (g.D.Disk.state c.store.new.disk).now.seen c.args.pages.now (set c.loop-page.pages c.loop-page.page-index c.store.new.self)
    × WritesPages c.args.pages.now (IsErrOf {T = Unit {0}} (Err c.in_err-store.field-0.0) Device) (g.D.Disk.state c.args.disk.now) (g.D.Disk.state c.store.new.disk)
stopped g c =
    let settled = next_settled c.page-item.result c.loop-page.invariant.so_far (omega arith) c.requires.placed in
    let one = writes_one _ _ _ _ settled (λ h. (c.store.ensures.stored h).1) c.store.ensures.calls c.in_err-store.ensures.writes in
    store_stop c.page-item.result c.loop-page.invariant.so_far (omega arith) c.store.new.self (g.D.Disk.state c.store.new.disk) c.requires.apart one c.in_err-store.ensures.err

pub returns-in_err-store-clause-err : goal.returns-in_err-store-clause-err
returns-in_err-store-clause-err g c =
    rw (err_from_is_err_and c.from_residual.result c.from_residual.ensures.1).1 (stopped g (goal.at.returns-in_err-store-clause-err g c).In_err-store).0

pub returns-in_err-store-clause-writes : goal.returns-in_err-store-clause-writes
returns-in_err-store-clause-writes g c =
    let p = err_from_is_err_and c.from_residual.result c.from_residual.ensures.1 in
    rw (p.1, p.2) (stopped g (goal.at.returns-in_err-store-clause-writes g c).In_err-store).1

pub returns-clause-ok : goal.returns-clause-ok
returns-clause-ok g c = (store_end c.loop-page.invariant.so_far (omega arith)).0

pub returns-clause-writes : goal.returns-clause-writes
returns-clause-writes g c = writes_as _ _ _ (λ failed. absurd failed) (λ is. true≢false (ap is_ok is)) (store_end c.loop-page.invariant.so_far (omega arith)).1
