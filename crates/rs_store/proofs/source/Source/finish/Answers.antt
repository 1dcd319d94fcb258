use Rattle.std.proofs.Common.{arith, ◌≡◌, ℕ, true, List, length, refl, sym, ◌∙◌, ap, subst, Result, Ok, Err, IsErrOf}
use Rattle.rs_disk.specs.Medium.{DiskState}
use Rattle.std.specs.Prelude.{Vec}
use Rattle.std.specs.Global.{Global}
use Rattle.rs_extent.specs.declared.Extent.{Extent}
use Rattle.rs_extent.specs.Extents.{AreTaken, AreGiven}
use Rattle.rs_commit.specs.declared.root.Root.{Root}
use Rattle.rs_commit.specs.declared.faults.CommitFault.{CommitFault}
use Rattle.rs_commit.specs.declared.faults.CommitFault.TheVariants.{Device as Failed, Exhausted as Spent}
use Rattle.rs_commit.specs.Slots.{other}
use Rattle.rs_commit.specs.Commit.{next, with_root}
use Rattle.rs_store.specs.declared.refusal.Refusal.TheVariants.{Device, NoMemory}
use Rattle.rs_page.specs.declared.page.store.StoreFault.{StoreFault}
use Rattle.rs_page.specs.declared.page.store.StoreFault.TheVariants.{Device as NotWritten, NoMemory as NotGiven}
use Rattle.rs_store.specs.declared.writing.Written.{Written}
use Rattle.rs_store.specs.Source.{Stored, rooted_in}
use Rattle.rs_plan.specs.Plans.{places, once_stored, planned_root, planned_listing, IsPlanned}
use Rattle.rs_plan.specs.declared.plan.Plan.{Plan}
use Rattle.rs_store.specs.Writing.{IsDigestOf, IsPlanOfSome}
use Rattle.rs_store.proofs.Finished.{Promised, stopped_behind, broken_behind, not_committed_behind, committed_behind}
use Rattle.rs_store.proofs.UsedBlocks.{taken_places, can_take, can_give, used_next, sound_next}
use Rattle.rs_store.proofs.source.Source.finish.Goals as goal

same_root : (r : Root) (p : Plan) (directory : Extent) (w : Written) → directory ≡ p.directory → IsDigestOf (once_stored p.contents) w
    → next r directory w.length w.sha256 ≡ planned_root r p
same_root r p directory w is digest =
    ap (λ (d : Extent). next r d w.length w.sha256) is ∙ ap (λ (n : ℕ). next r p.directory n w.sha256) digest.len
    ∙ ap (λ (h : List ℕ). next r p.directory (length (planned_listing p)) h) digest.sha256

commit_failed : (result : Result (Unit {0}) CommitFault) (fault : CommitFault) → result ≡ Err fault → (IsErrOf result Spent → ⊥) → IsErrOf result Failed
commit_failed (Ok x) fault is spare = absurd cc
commit_failed (Err Spent) fault is spare = absurd (spare refl)
commit_failed (Err Failed) fault is spare = refl

not_both : {T : Type 0} (result : Result T StoreFault) → result ≡ Err NotGiven → IsErrOf result NotWritten → ⊥
not_both result refused failed = absurd cc

-- the plan is one for the lists in memory
planned_of : {D : Type 0} (device : D → DiskState) (o now : Stored D) (p : Plan) → o ≡ now → (given : IsPlanOfSome (rooted_in device now) p)
    → IsPlanned (rooted_in device o) given.command given.moment p
planned_of {D} device o now p same given = subst (λ (s : Stored D). IsPlanned (rooted_in device s) given.command given.moment p) (sym same) given.planned

pub write_lists-requires : goal.write_lists-requires
write_lists-requires g c =
    let device = g.D.Disk.state in
    let o : Stored g.row.D.Denot = record { disk = c.self.inside.disk; slots = c.self.inside.slots; contents = c.self.inside.contents; is_closed = c.self.inside.is_closed } in
    let planned = planned_of device o c.args.self.now c.args.plan.now c.self.view_is c.requires.planned in
    record {
      inside = planned.inside;
      apart = planned.apart;
      placed = record { catalogue = planned.catalogue; history = planned.history };
      directory = planned.directory;
      listable = planned.listable;
    }

pub take_each-requires : goal.take_each-requires
take_each-requires g c =
    let device = g.D.Disk.state in
    let o : Stored g.row.D.Denot = record { disk = c.self.inside.disk; slots = c.self.inside.slots; contents = c.self.inside.contents; is_closed = c.self.inside.is_closed } in
    let given = c.requires.planned in
    can_take (device o.disk).size o.slots.root o.contents given.command given.moment c.args.plan.now c.self.inside.used c.self.invariant.rooted.whole c.self.invariant.used
    (planned_of device o c.args.self.now c.args.plan.now c.self.view_is given)
    c.deref.result.now (c.deref.ensures.value ∙ ap (λ (v : Vec Extent Global). v.items) c.write_lists.ensures.stays.taken)

pub give_each-requires : goal.give_each-requires
give_each-requires g c =
    let device = g.D.Disk.state in
    let o : Stored g.row.D.Denot = record { disk = c.self.inside.disk; slots = c.self.inside.slots; contents = c.self.inside.contents; is_closed = c.self.inside.is_closed } in
    let given = c.requires.planned in
    let p = c.args.plan.now in
    let planned = planned_of device o c.args.self.now p c.self.view_is given in
    let took : AreTaken c.self.inside.used c.take_each.new.self (places p) =
    subst (λ (es : List Extent). AreTaken c.self.inside.used c.take_each.new.self es)
    (c.deref.ensures.value ∙ ap (λ (v : Vec Extent Global). v.items) c.write_lists.ensures.stays.taken ∙ taken_places (device o.disk).size o.slots.root o.contents given.command given.moment p c.self.inside.used c.self.invariant.rooted.whole c.self.invariant.used planned) c.take_each.ensures in
    can_give (device o.disk).size o.slots.root o.contents given.command given.moment p c.self.inside.used c.self.invariant.rooted.whole c.self.invariant.used
    planned c.take_each.new.self took
    c.deref-2.result.now (c.deref-2.ensures.value ∙ ap (λ (v : Vec Extent Global). v.items) c.write_lists.ensures.stays.freed)

-- the memory follows the root
pub invariant_of-self-2 : goal.invariant_of-self-2
invariant_of-self-2 g c =
    let device = g.D.Disk.state in
    let o : Stored g.row.D.Denot = record { disk = c.self.inside.disk; slots = c.self.inside.slots; contents = c.self.inside.contents; is_closed = c.self.inside.is_closed } in
    let given = c.requires.planned in
    let p = c.args.plan.now in
    let size = (device o.disk).size in
    let planned = planned_of device o c.args.self.now p c.self.view_is given in
    let used = c.self.inside.used in
    let mid = c.take_each.new.self in
    let then = c.give_each.new.self in
    let took : AreTaken used mid (places p) =
    subst (λ (es : List Extent). AreTaken used mid es)
    (c.deref.ensures.value ∙ ap (λ (v : Vec Extent Global). v.items) c.write_lists.ensures.stays.taken ∙ taken_places (device o.disk).size o.slots.root o.contents given.command given.moment p c.self.inside.used c.self.invariant.rooted.whole c.self.invariant.used planned) c.take_each.ensures in
    let gave : AreGiven mid then p.freed.items =
    subst (λ (es : List Extent). AreGiven mid then es)
    (c.deref-2.ensures.value ∙ ap (λ (v : Vec Extent Global). v.items) c.write_lists.ensures.stays.freed) c.give_each.ensures in
    sound_next size (device c.commit-committed.new.disk).size o.slots.root c.commit-committed.new.self.root o.contents c.swap.new.x given.command given.moment p then
    (c.commit-committed.ensures.runs.writes.runs.size ∙ c.write_lists.ensures.writes.runs.runs.size)
    (c.in-Ok-committed.ensures.committed.root ∙ same_root o.slots.root p c.write_lists.new.plan.directory c.in-Ok.written c.write_lists.ensures.stays.directory c.in-Ok.ensures.written)
    (c.swap.ensures.x_after ∙ c.in-Ok.ensures.stored.contents) c.self.invariant.rooted.room planned
    (used_next size o.slots.root o.contents given.command given.moment p used c.self.invariant.rooted.whole c.self.invariant.used planned mid took then gave)

pub returns-in-Err-NoMemory-clause-answers : goal.returns-in-Err-NoMemory-clause-answers
returns-in-Err-NoMemory-clause-answers g c =
    let device = g.D.Disk.state in
    let o : Stored g.row.D.Denot = record { disk = c.self.inside.disk; slots = c.self.inside.slots; contents = c.self.inside.contents; is_closed = c.self.inside.is_closed } in
    let new : Stored g.row.D.Denot = record { disk = c.write_lists.new.disk; slots = c.self.inside.slots; contents = c.self.inside.contents; is_closed = c.self.inside.is_closed } in
    subst (Promised device c.args.plan.now new (Err NoMemory)) c.self.view_is
    (stopped_behind device g.met.D.Disk.holds o c.args.plan.now c.self.invariant.rooted.whole c.write_lists.new.disk _ c.write_lists.ensures.writes
    (not_both c.write_lists.result (subst (λ (x : StoreFault). c.write_lists.result ≡ Err x) c.in-Err-NoMemory.field-0-is c.in-Err-NoMemory.is)))

pub returns-in-Err-Device-clause-answers : goal.returns-in-Err-Device-clause-answers
returns-in-Err-Device-clause-answers g c =
    let device = g.D.Disk.state in
    let o : Stored g.row.D.Denot = record { disk = c.self.inside.disk; slots = c.self.inside.slots; contents = c.self.inside.contents; is_closed = c.self.inside.is_closed } in
    let new : Stored g.row.D.Denot = record { disk = c.write_lists.new.disk; slots = c.self.inside.slots; contents = c.self.inside.contents; is_closed = true } in
    subst (Promised device c.args.plan.now new (Err Device)) c.self.view_is
    (broken_behind device g.met.D.Disk.holds o c.args.plan.now c.self.invariant.rooted.whole c.write_lists.new.disk _ c.write_lists.ensures.writes new refl refl
    (subst (λ (x : StoreFault). c.write_lists.result ≡ Err x) c.in-Err-Device.field-0-is c.in-Err-Device.is))

pub returns-in-Err-clause-answers : goal.returns-in-Err-clause-answers
returns-in-Err-clause-answers g c =
    let device = g.D.Disk.state in
    let o : Stored g.row.D.Denot = record { disk = c.self.inside.disk; slots = c.self.inside.slots; contents = c.self.inside.contents; is_closed = c.self.inside.is_closed } in
    let new : Stored g.row.D.Denot = record { disk = c.commit-committed.new.disk; slots = c.commit-committed.new.self; contents = c.self.inside.contents; is_closed = true } in
    let p = c.args.plan.now in
    let mid = device c.write_lists.new.disk in
    let root : Root = next o.slots.root c.write_lists.new.plan.directory c.in-Ok.written.length c.in-Ok.written.sha256 in
    let generation : c.self.inside.slots.root.generation ≡ c.args.self.now.slots.root.generation =
    ap (λ (s : Stored g.row.D.Denot). s.slots.root.generation) c.self.view_is in
    let spare : IsErrOf c.commit-committed.result Spent → ⊥ = λ is. let over = c.commit-committed.ensures.exhausted.0 is in omega (arith, over, generation, c.requires.spare) in
    subst (Promised device p new (Err Device)) c.self.view_is
    (not_committed_behind device g.met.D.Disk.holds o p c.self.invariant.rooted.whole c.write_lists.new.disk _ c.in-Ok.ensures.writes
    c.write_lists.new.plan c.in-Ok.ensures.stored root
    (same_root o.slots.root p c.write_lists.new.plan.directory c.in-Ok.written c.write_lists.ensures.stays.directory c.in-Ok.ensures.written)
    new c.commit-committed.ensures.any_moment _ c.commit-committed.ensures.runs.writes (λ is. absurd cc) refl (commit_failed c.commit-committed.result _ c.in-Err.is spare))

pub returns-clause-answers : goal.returns-clause-answers
returns-clause-answers g c =
    let device = g.D.Disk.state in
    let o : Stored g.row.D.Denot = record { disk = c.self.inside.disk; slots = c.self.inside.slots; contents = c.self.inside.contents; is_closed = c.self.inside.is_closed } in
    let new : Stored g.row.D.Denot =
    record { disk = c.commit-committed.new.disk; slots = c.commit-committed.new.self; contents = c.swap.new.x; is_closed = c.self.inside.is_closed } in
    let p = c.args.plan.now in
    let mid = device c.write_lists.new.disk in
    let root : Root = next o.slots.root c.write_lists.new.plan.directory c.in-Ok.written.length c.in-Ok.written.sha256 in
    subst (Promised device p new (Ok c.write_lists.new.plan.reply)) c.self.view_is
    (committed_behind device g.met.D.Disk.holds o p c.self.invariant.rooted.whole c.write_lists.new.disk _ c.in-Ok.ensures.writes
    c.write_lists.new.plan c.in-Ok.ensures.stored root
    (same_root o.slots.root p c.write_lists.new.plan.directory c.in-Ok.written c.write_lists.ensures.stays.directory c.in-Ok.ensures.written)
    new c.commit-committed.ensures.any_moment _ c.in-Ok-committed.ensures.runs.writes
    c.write_lists.new.plan.reply (with_root mid.now.seen (other c.self.inside.slots.slot) c.commit-committed.new.self.root)
    c.in-Ok-committed.ensures.committed.root (c.swap.ensures.x_after ∙ c.in-Ok.ensures.stored.contents) refl c.in-Ok-committed.ensures.committed.ready c.commit-committed.ensures.runs.outside
    c.in-Ok-committed.ensures.committed.written c.write_lists.ensures.stays.reply
    (λ is. absurd cc) (λ is. absurd cc))
