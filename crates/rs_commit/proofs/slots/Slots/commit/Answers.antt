use Rattle.std.proofs.Common.{◌≡◌, ◌+◌, ◌<◌, ◌∙◌, true, refl, sym, ap, subst, arith}
use Rattle.rs_disk.specs.Leaves.{Leaves}
use Rattle.rs_commit.specs.declared.root.Root.{Root}
use Rattle.rs_commit.specs.declared.slot.Slot.{Slot}
use Rattle.rs_commit.specs.Slots.{Standing, other, IsLawfulRoot}
use Rattle.rs_commit.specs.Commit.{IsReady, OldOrNew, next}
use Rattle.rs_commit.proofs.Ready.{committed_ready, ready_opens}
use Rattle.rs_commit.proofs.Runs.{none_leaves}
use Rattle.rs_commit.proofs.slots.Slots.commit.Goals as goal

pub returns-then-self-clause-any_moment : goal.returns-then-self-clause-any_moment
returns-then-self-clause-any_moment g c ready =
    none_leaves c.args.self.now (g.D.Disk.state c.args.disk.now) (g.met.D.Disk.holds c.args.disk.now) ready (next c.args.self.now.root c.args.directory c.args.length c.args.sha256.now)

pub returns-in_err-put_root-clause-any_moment : goal.returns-in_err-put_root-clause-any_moment
returns-in_err-put_root-clause-any_moment g c ready =
    let root : c.self.inside.root ≡ c.args.self.now.root = ap (λ (s : Standing). s.root) c.self.view_is in
    let greater : c.args.self.now.root.generation < c.self.inside.root.generation + 1 = omega (arith, ap (λ (r : Root). r.generation) root) in
    let old = g.D.Disk.state c.args.disk.now in
    subst (λ (r : Root). Leaves old (g.D.Disk.state c.put_root.new.disk) (λ _. OldOrNew old.now c.args.self.now.root (next r c.args.directory c.args.length c.args.sha256.now)))
    root (c.put_root.ensures.any_moment greater ready)

pub returns-clause-committed : goal.returns-clause-committed
returns-clause-committed g c =
    let root : c.self.inside.root ≡ c.args.self.now.root = ap (λ (s : Standing). s.root) c.self.view_is in
    let greater : c.args.self.now.root.generation < c.self.inside.root.generation + 1 = omega (arith, ap (λ (r : Root). r.generation) root) in
    let same : other c.args.self.now.slot ≡ c.other.result = sym (c.other.ensures ∙ ap (λ (s : Standing). other s.slot) c.self.view_is) in
    let last = g.D.Disk.state c.put_root.new.disk in
    let new = next c.self.inside.root c.args.directory c.args.length c.args.sha256.now in
    let after : Standing = record { slot = c.other.result; root = new; spare_open = true } in
    let lawful : IsLawfulRoot new = record { version = refl; generation = omega (arith, c.if-self.false); first = omega arith; blocks = omega arith; bytes = omega arith; digest = omega arith } in
    let again : IsReady c.args.self.now (g.D.Disk.state c.args.disk.now).now → IsReady after last.now =
    λ ready. subst (λ (s : Slot). IsReady (record { slot = s; root = new; spare_open = true }) last.now) same
    (committed_ready c.args.self.now (g.D.Disk.state c.args.disk.now).now last.now new ready lawful greater c.in_ok-put_root.ensures.written) in
    record {
      root = ap (λ (r : Root). next r c.args.directory c.args.length c.args.sha256.now) root;
      written = c.in_ok-put_root.ensures.written;
      opens = λ ready image left. ready_opens after last.now last.size (g.met.D.Disk.holds c.put_root.new.disk) (again ready) image left;
      ready = again;
    }
