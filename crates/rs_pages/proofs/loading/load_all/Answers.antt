use Rattle.std.proofs.Common.{true≢false, is_ok, rules, ◌≡◌, [], ◌∷◌, ◌++◌, length, ◌∙◌, ap, arith}
use Rattle.std.proofs.lemmas.List.Elements.{All-nil}
use Rattle.std.proofs.lemmas.Result.{err_from_is_err_and}
use Rattle.rs_body.specs.declared.read.LoadFault.TheVariants.{NoMemory}
use Rattle.rs_page.specs.Pages.{stored_ref}
use Rattle.rs_page.specs.DiskPages.{Stands}
use Rattle.rs_pages.proofs.LoadedUpTo.{all_called, load_step, load_end, damaged_at, too_many, reads_next, no_ref}
use Rattle.rs_pages.proofs.loading.load_all.Goals as goal

pub loop-page-preserved : goal.loop-page-preserved
loop-page-preserved g c =
    let pushed : c.push.new.self.items ≡ c.loop-page.loaded.items ++ c.in_ok-page.page ∷ [] = search rules in
    record {
      so_far = load_step _ c.loop-page.invariant.so_far (omega arith) all_called c.push.new.self.items c.in_ok-page.page (g.D.Disk.state c.load.new.disk) (λ is. true≢false (ap is_ok is))
          (omega (arith, c.in-Some.ensures, ap length c.items.ensures.items)) pushed (ap stored_ref c.in_ok-page.ensures.place) c.in_ok-page.ensures.lawful.some (λ honest stand. c.in_ok-page.ensures.found honest)
          (record { runs = c.in_ok-page.ensures.runs; one_each = c.load.ensures.calls });
    }

pub returns-clause-pages : goal.returns-clause-pages
returns-clause-pages g c = (load_end c.loop-page.invariant.so_far (omega arith)).0

pub returns-clause-found : goal.returns-clause-found
returns-clause-found g c honest = (load_end c.loop-page.invariant.so_far (omega arith)).2 honest (All-nil (Stands g.T.PageItem.format _))

pub returns-clause-reads : goal.returns-clause-reads
returns-clause-reads g c = (load_end c.loop-page.invariant.so_far (omega arith)).1 _ (λ is. true≢false (ap is_ok is))

pub returns-in_err-page-clause-damaged : goal.returns-in_err-page-clause-damaged
returns-in_err-page-clause-damaged g c =
    let p = err_from_is_err_and c.from_residual.result c.from_residual.ensures.1 in
    rw (p.1, p.2)
    (λ damaged honest. damaged_at c.loop-page.page-index c.args.pages.now _ (g.D.Disk.state c.load.new.disk).now.seen (omega arith) (c.in_err-page.ensures.damaged (cc) honest))

pub returns-in_err-page-clause-reads : goal.returns-in_err-page-clause-reads
returns-in_err-page-clause-reads g c =
    let p = err_from_is_err_and c.from_residual.result c.from_residual.ensures.1 in
    rw (p.1, p.2)
    (reads_next no_ref c.loop-page.invariant.so_far (omega arith) all_called (g.D.Disk.state c.load.new.disk) (λ is. cc) (λ is. cc) (record { runs = c.in_err-page.ensures.runs; one_each = c.load.ensures.calls }))

pub returns-in_default-clause-damaged : goal.returns-in_default-clause-damaged
returns-in_default-clause-damaged g c damaged honest =
    too_many _ c.loop-page.invariant.so_far (omega arith) all_called c.in_ok-page.page.items (g.D.Disk.state c.load.new.disk) c.pages_hold_once.ensures.page
    (omega (arith, c.in_default.ensures, ap length c.items.ensures.items)) c.in_ok-page.ensures.runs honest (All-nil (Stands g.T.PageItem.format _)) (c.in_ok-page.ensures.found honest)

pub returns-in_default-clause-reads : goal.returns-in_default-clause-reads
returns-in_default-clause-reads g c =
    reads_next no_ref c.loop-page.invariant.so_far (omega arith) all_called (g.D.Disk.state c.load.new.disk) (λ is. absurd (true≢false (ap is_ok is))) (λ is. cc)
    (record { runs = c.in_ok-page.ensures.runs; one_each = c.load.ensures.calls })

pub returns-in_err-map_err-clause-reads : goal.returns-in_err-map_err-clause-reads
returns-in_err-map_err-clause-reads g c =
    let full : c.in_err-map_err.field-0.0 ≡ NoMemory = search rules in
    let p = err_from_is_err_and c.from_residual-in_err-map_err.result c.from_residual-in_err-map_err.ensures.1 in
    rw (p.1, p.2 ∙ full)
    (reads_next no_ref c.loop-page.invariant.so_far (omega arith) all_called (g.D.Disk.state c.load.new.disk) (λ is. absurd (true≢false (ap is_ok is))) (λ is. cc)
    (record { runs = c.in_ok-page.ensures.runs; one_each = c.load.ensures.calls }))
