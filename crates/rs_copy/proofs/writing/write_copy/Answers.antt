use Rattle.std.proofs.Common.{inl, inr, ℕ, refl, sym, ◌∙◌, ap, subst, arith}
use Rattle.rs_disk.specs.Leaves.{Leaves}
use Rattle.rs_commit.specs.declared.root.Root.{Root}
use Rattle.rs_commit.specs.Format.{IsAsBefore, NoneOrRoot, fresh}
use Rattle.rs_commit.specs.Slots.{Standing}
use Rattle.rs_copy.specs.declared.faults.CopyFault.TheVariants.{Device}
use Rattle.rs_copy.specs.Laying.{all_stored}
use Rattle.rs_copy.specs.Copies.{NoneOrState}
use Rattle.rs_copy.specs.Copying.{HasRoom, copied_root, is_slot}
use Rattle.rs_copy.proofs.Ended.{not_yet, ends_badly, reached, told_there, intact_there, sound_here}
use Rattle.rs_copy.proofs.Laid.{room, records_moved}
use Rattle.rs_copy.proofs.Meanwhile.{MayTell, opened, written}
use Rattle.rs_copy.proofs.FromBelow.{weaker}
use Rattle.rs_copy.proofs.Runs.{copying_as, copying_then, copying_write}
use Rattle.rs_copy.proofs.Whole.{all_have_places}
use Rattle.rs_copy.proofs.writing.write_copy.Goals as goal

pub returns-in_err-close_slots : goal.returns-in_err-close_slots
returns-in_err-close_slots g c =
    let old = g.E.Disk.state c.args.to.now in
    let new = g.E.Disk.state c.close_slots.new.disk in
    let e = c.in_err-close_slots.ensures in
    ends_badly {S = Standing} c.from_residual.result Device c.from_residual.ensures.1
    (copying_as (λ is. refl) (λ is. refl) (copying_write (g.D.Disk.state c.args.from.now) old new e.runs.writes)) (omega arith) tt (λ is. absurd cc)
    (λ s honest state. weaker old new (λ _. IsAsBefore old.now) (λ _. MayTell s old) (λ m image before. inr before) e.gates)
    (λ s honest state when. not_yet old new (IsAsBefore old.now) (λ m. NoneOrState s) e.gates
    (elim when [ inl late ↦ absurd (omega (arith, late, e.calls.most)) | inr unmet ↦ e.calls.cut_short refl unmet ]))

pub write_behind-requires-clause-places : goal.write_behind-requires-clause-places
write_behind-requires-clause-places g c =
    all_have_places (g.D.Disk.state c.args.from.now).size c.requires.behind.root c.args.old.now c.requires.behind.whole

pub write_behind-requires-clause-alike : goal.write_behind-requires-clause-alike
write_behind-requires-clause-alike g c =
    let l = c.args.layout.now in
    records_moved (g.E.Disk.state c.args.to.now).size c.args.old.now l.contents l.directory l.used c.requires.laid_out

pub write_behind-requires-clause-room : goal.write_behind-requires-clause-room
write_behind-requires-clause-room g c =
    let l = c.args.layout.now in
    subst (λ (n : ℕ). HasRoom n l.contents l.directory) (sym c.close_slots.ensures.runs.writes.runs.size)
    (room (g.E.Disk.state c.args.to.now).size c.args.old.now l.contents l.directory l.used c.requires.laid_out)

pub returns-in_err-root : goal.returns-in_err-root
returns-in_err-root g c =
    let before = g.D.Disk.state c.args.from.now in
    let old = g.E.Disk.state c.args.to.now in
    let one = g.E.Disk.state c.close_slots.new.disk in
    let two = g.E.Disk.state c.write_behind.new.to in
    let l = c.args.layout.now in
    let closed = c.in_ok-close_slots.ensures in
    let e = c.in_err-root.ensures in
    let told =
    written c.shut_tells_none.ensures.none old one two (g.met.E.Disk.holds c.close_slots.new.disk) closed.shut closed.gates (closed.calls.all (λ is. absurd cc))
    (e.copies.outside is_slot (room old.size c.args.old.now l.contents l.directory l.used c.requires.laid_out).behind) in
    ends_badly {S = Root} c.from_residual-in_err-root.result c.in_err-root.field-0.0 c.from_residual-in_err-root.ensures.1
    (copying_then (λ is. absurd cc) (copying_write before old one closed.runs.writes) e.copies.runs) e.once e.others e.bodies.damaged
    (λ s honest state. (told s).any) (λ s honest state when. (told s).none)

pub returns-in_err-open_first : goal.returns-in_err-open_first
returns-in_err-open_first g c =
    let after = g.D.Disk.state c.write_behind.new.from in
    let old = g.E.Disk.state c.args.to.now in
    let two = g.E.Disk.state c.write_behind.new.to in
    let new = g.E.Disk.state c.open_first.new.disk in
    let closed = c.in_ok-close_slots.ensures in
    let e = c.in_ok-root.ensures in
    let o = c.in_err-open_first.ensures in
    let l = c.args.layout.now in
    let root : Root = copied_root l.directory (all_stored l.contents) in
    let at =
    reached c.args.old.now l c.shut_tells_none.ensures.none c.shut_tells_none.ensures.stays (g.met.E.Disk.holds c.close_slots.new.disk) (g.met.E.Disk.holds c.write_behind.new.to)
    c.requires.laid_out c.requires.behind (λ is. absurd cc) (λ is. absurd cc) closed.runs closed.calls closed.gates closed.shut e.copies e.made.stands e.bodies.copied in
    let opening : Leaves two new (λ _. NoneOrRoot two.now root) = subst (λ (r : Root). Leaves two new (λ _. NoneOrRoot two.now r)) e.made.root (o.any_moment at.shut) in
    ends_badly {S = Standing} c.from_residual-in_err-open_first.result Device c.from_residual-in_err-open_first.ensures.1
    (copying_as (λ is. refl) (λ is. refl) (copying_then (λ none. none) at.runs (copying_write after two new o.runs.writes))) e.once tt (λ is. absurd cc)
    (λ s honest state. (opened s root (all_stored l.contents) (at.meanwhile s) opening (at.told s honest state)).any)
    (λ s honest state when. (opened s root (all_stored l.contents) (at.meanwhile s) opening (at.told s honest state)).none)

pub returns : goal.returns
returns g c =
    let before = g.D.Disk.state c.args.from.now in
    let after = g.D.Disk.state c.write_behind.new.from in
    let old = g.E.Disk.state c.args.to.now in
    let two = g.E.Disk.state c.write_behind.new.to in
    let new = g.E.Disk.state c.open_first.new.disk in
    let closed = c.in_ok-close_slots.ensures in
    let e = c.in_ok-root.ensures in
    let o = c.in_ok-open_first.ensures in
    let lists = c.args.old.now in
    let l = c.args.layout.now in
    let root : Root = copied_root l.directory (all_stored l.contents) in
    let at =
    reached lists l c.shut_tells_none.ensures.none c.shut_tells_none.ensures.stays (g.met.E.Disk.holds c.close_slots.new.disk) (g.met.E.Disk.holds c.write_behind.new.to)
    c.requires.laid_out c.requires.behind (λ is. absurd cc) (λ is. absurd cc) closed.runs closed.calls closed.gates closed.shut e.copies e.made.stands e.bodies.copied in
    let opening : Leaves two new (λ _. NoneOrRoot two.now root) = subst (λ (r : Root). Leaves two new (λ _. NoneOrRoot two.now r)) e.made.root (o.any_moment at.shut) in
    record {
      runs = copying_as (λ is. absurd cc) (λ is. absurd cc) (copying_then (λ none. none) at.runs (copying_write after two new o.runs.writes));
      once = e.once;
      others = tt;
      damaged = λ is. absurd cc;
      slots = o.made.slots ∙ ap fresh e.made.root;
      ready = o.made.ready at.shut;
      layout = e.made.layout;
      sound = sound_here lists l old.size before.size c.requires.laid_out c.requires.behind two.now.seen at.long e.made.stands c.requires.size new.size
          (o.runs.writes.runs.size ∙ at.runs.advances.size);
      intact = intact_there lists l old.size before.size c.requires.laid_out c.requires.behind two.now.seen at.long e.made.stands new.now.seen o.runs.outside e.bodies.intact;
      holds = λ s honest state image is.
          told_there lists l old.size before.size c.requires.laid_out c.requires.behind two.now.seen at.long e.made.stands s new.now _ image (at.told s honest state) o.made.written o.runs.outside is;
      any_moment = λ s honest state. (opened s root (all_stored l.contents) (at.meanwhile s) opening (at.told s honest state)).any;
      settled = λ s honest state when. (opened s root (all_stored l.contents) (at.meanwhile s) opening (at.told s honest state)).none;
    }
