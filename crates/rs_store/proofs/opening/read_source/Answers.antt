use Rattle.std.proofs.Common.{◌≡◌, ◌<◌, ℕ, List, Option, Some, IsTrue, length, refl, arith, ap, sym, subst, ◌∙◌}
use Rattle.std.specs.Prelude.{IsSome}
use Rattle.std.proofs.lemmas.Result.{err_from_is_err_and}
use Rattle.rs_disk.specs.Medium.{Medium}
use Rattle.rs_store.proofs.FromBelow.{reading_as, reading_then}
use Rattle.rs_commit.specs.Slots.{Standing, current}
use Rattle.rs_commit.specs.declared.root.Root.{Root}
use Rattle.rs_image.specs.StateOfImage.{Tells}
use Rattle.rs_image.specs.Loading.{IsDirectoryPlaced, NamesPlaced}
use Rattle.rs_store.proofs.Opened.{small_tells_nothing, untold_stands_for_nothing, lists_not_opened, failed_behind, no_memory_of_lists}
use Rattle.rs_store.proofs.opening.read_source.Goals as goal

pub returns-then-size-lt-SLOTS_SIZE-clause-refused : goal.returns-then-size-lt-SLOTS_SIZE-clause-refused
returns-then-size-lt-SLOTS_SIZE-clause-refused g c honest =
    let old = g.D.Disk.state c.args.disk.now in
    let medium = g.met.D.Disk.holds c.args.disk.now in
    let small : length old.now.seen < 1024 = omega (arith, medium.image.size, medium.settled, c.size.ensures, c.in_ok-slots.ensures.runs.runs.size, c.if-size-lt-SLOTS_SIZE.true) in
    let found : current old.now.seen ≡ Some c.in_ok-slots.slots = c.in_ok-slots.ensures.found honest in
    (subst (λ (o : Option Standing). IsSome o) (sym found) refl, λ s stands. small_tells_nothing old.now.seen small s stands)

pub returns-in_err-found-clause-refused : goal.returns-in_err-found-clause-refused
returns-in_err-found-clause-refused g c =
    let old = g.D.Disk.state c.args.disk.now in
    let mid = g.D.Disk.state c.open_slots.new.disk in
    let new = g.D.Disk.state c.load.new.disk in
    let slots = c.in_ok-slots.slots in
    let root = c.in_ok-slots.root in
    let fault = c.in_err-found.field-0.0 in
    let seen : new.now.seen ≡ old.now.seen = ap (λ (m : Medium). m.seen) (c.load.ensures.reads.runs.now ∙ c.open_slots.ensures.runs.now) in
    let size : new.size ≡ old.size = c.load.ensures.reads.runs.runs.size ∙ c.open_slots.ensures.runs.runs.size in
    let found : IsTrue new.honest → current old.now.seen ≡ Some slots = λ honest. c.in_ok-slots.ensures.found (c.load.ensures.reads.runs.runs.lasts honest) in
    let given = err_from_is_err_and c.from_residual-in_err-found.result c.from_residual-in_err-found.ensures.1 in
    rw (given.1, given.2) (lists_not_opened old new fault
    (λ is honest. (
      subst (λ (o : Option Standing). IsSome o) (sym (found honest)) refl,
      λ s stands. untold_stands_for_nothing old.now.seen slots root (found honest) c.in_ok-slots.ensures.root
          (λ l s told. c.in_err-found.ensures.damaged (cc) honest l s (subst (λ (image : List ℕ). Tells root l image s) (sym seen) told)) s stands,
    ))
    (λ is. failed_behind old mid new c.open_slots.ensures.runs.runs.faults (c.in_err-found.ensures.reads.runs.runs.failed (cc)))
    (λ is honest. record {
      standing = slots;
      slots = found honest;
      directory = subst (λ (n : ℕ). IsDirectoryPlaced n slots.root) size
          (subst (λ (r : Root). IsDirectoryPlaced new.size r) (sym c.in_ok-slots.ensures.root) (c.in_err-found.ensures.no_memory (cc)).directory);
    }))

pub returns-clause-runs : goal.returns-clause-runs
returns-clause-runs g c =
    reading_then (g.D.Disk.state c.args.disk.now) (g.D.Disk.state c.open_slots.new.disk) (g.D.Disk.state c.load.new.disk) (λ is. absurd cc)
    c.in_ok-slots.ensures.runs (reading_as (g.D.Disk.state c.open_slots.new.disk) (g.D.Disk.state c.load.new.disk) (λ is. absurd cc) (λ is. absurd cc) c.in_ok-found.ensures.reads.runs)

pub returns-in_err-found-clause-no_memory_behind : goal.returns-in_err-found-clause-no_memory_behind
returns-in_err-found-clause-no_memory_behind g c =
    let old = g.D.Disk.state c.args.disk.now in
    let new = g.D.Disk.state c.load.new.disk in
    let slots = c.in_ok-slots.slots in
    let seen : new.now.seen ≡ old.now.seen = ap (λ (m : Medium). m.seen) (c.load.ensures.reads.runs.now ∙ c.open_slots.ensures.runs.now) in
    let size : new.size ≡ old.size = c.load.ensures.reads.runs.runs.size ∙ c.open_slots.ensures.runs.runs.size in
    let given = err_from_is_err_and c.from_residual-in_err-found.result c.from_residual-in_err-found.ensures.1 in
    rw (given.1, given.2) (no_memory_of_lists c.in_err-found.field-0.0 _ (λ is honest more. record {
      standing = slots;
      slots = c.in_ok-slots.ensures.found (c.load.ensures.reads.runs.runs.lasts honest);
      pages = subst (λ (n : ℕ). NamesPlaced n slots.root old.now.seen) size
          (subst (λ (image : List ℕ). NamesPlaced new.size slots.root image) seen
          (subst (λ (r : Root). NamesPlaced new.size r new.now.seen) (sym c.in_ok-slots.ensures.root)
          ((c.in_err-found.ensures.no_memory (cc)).pages honest (omega (arith, more, c.open_slots.ensures.calls)))));
    }))
