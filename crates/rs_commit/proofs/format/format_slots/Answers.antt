use Rattle.std.proofs.Common.{◌≡◌, true, false, ◌≤◌, ◌∷◌, [], ◌++◌, ℕ, List, length, refl, ◌∙◌, ap, arith, Ok, Err}
use Rattle.std.proofs.lemmas.Result.{err_from_is_err_and}
use Rattle.rs_disk.specs.Medium.{Medium, over, resting}
use Rattle.rs_commit.specs.Slots.{payload_of, written_version}
use Rattle.rs_commit.specs.Commit.{WritesSlots, behind_slots}
use Rattle.rs_commit.specs.Format.{slot_bytes, formatted}
use Rattle.rs_commit.proofs.Payloads.{made}
use Rattle.rs_commit.proofs.Ready.{formatted_ready}
use Rattle.rs_commit.proofs.Runs.{slots_within, slots_written, slots_then}
use Rattle.rs_commit.proofs.format.format_slots.Given.{Over}
use Rattle.rs_commit.proofs.format.format_slots.Goals as goal
use Rattle.rs_commit.proofs.format.format_slots.Goals.{In_ok-write, In_ok-write_settled}

pub returns-in_err-write-clause-runs : goal.returns-in_err-write-clause-runs
returns-in_err-write-clause-runs g c =
    let e = c.in_err-write.ensures in
    rw (err_from_is_err_and c.from_residual.result c.from_residual.ensures.1).1
    (slots_written c.offset.result c.closed_slot.result (Err c.in_err-write.field-0.0) (g.met.D.Disk.holds c.args.disk.now) c.requires.size (omega (arith, c.offset.ensures)) e.counts e.writes e.tears e.keeps)

first : (g : Over) (c : In_ok-write g) → WritesSlots (false ≡ true) (g.D.Disk.state c.args.disk.now) (g.D.Disk.state c.write.new.self)
first g c =
    let e = c.in_ok-write.ensures in
    slots_written c.offset.result c.closed_slot.result (Ok c.in_ok-write.field-0) (g.met.D.Disk.holds c.args.disk.now) c.requires.size (omega (arith, c.offset.ensures)) e.counts e.writes e.tears e.keeps

pub returns-in_err-write_settled-clause-runs : goal.returns-in_err-write_settled-clause-runs
returns-in_err-write_settled-clause-runs g c =
    rw (err_from_is_err_and c.from_residual-in_err-write_settled.result c.from_residual-in_err-write_settled.ensures.1).1
    (slots_then (first g (goal.at.returns-in_err-write_settled-clause-runs g c).In_ok-write) (slots_within c.in_err-write_settled.ensures.writes (omega (arith, c.offset-2.ensures))))

two : (g : Over) (c : In_ok-write_settled g) → WritesSlots (false ≡ true) (g.D.Disk.state c.args.disk.now) (g.D.Disk.state c.write_settled.new.disk)
two g c = slots_then (first g (goal.at.In_ok-write_settled g c).In_ok-write) (slots_within c.in_ok-write_settled.ensures.writes (omega (arith, c.offset-2.ensures)))

pub returns-in_err-write_settled-2-clause-runs : goal.returns-in_err-write_settled-2-clause-runs
returns-in_err-write_settled-2-clause-runs g c =
    rw (err_from_is_err_and c.from_residual-in_err-write_settled-2.result c.from_residual-in_err-write_settled-2.ensures.1).1
    (slots_then (two g (goal.at.returns-in_err-write_settled-2-clause-runs g c).In_ok-write_settled) (slots_within c.in_err-write_settled-2.ensures.writes (omega (arith, c.offset-3.ensures))))

pub returns-clause-runs : goal.returns-clause-runs
returns-clause-runs g c =
    slots_then (two g (goal.at.returns-clause-runs g c).In_ok-write_settled) (slots_within c.in_ok-write_settled-2.ensures.writes (omega (arith, c.offset-3.ensures)))

pub returns-clause-made : goal.returns-clause-made
returns-clause-made g c =
    let root = c.args.root.now in
    let lawful = c.payload.ensures.lawful in
    let old = g.D.Disk.state c.args.disk.now in
    let mid = g.D.Disk.state c.write.new.self in
    let next = g.D.Disk.state c.write_settled.new.disk in
    let last = g.D.Disk.state c.write_settled-2.new.disk in
    let is = g.met.D.Disk.holds c.args.disk.now in
    let room : 1024 ≤ length old.now.seen = omega (arith, c.requires.size, is.image.size, is.settled) in
    let first : c.closed_slot.result ≡ slot_bytes 0 (payload_of root) = c.closed_slot.ensures ∙ ap (λ (l : List ℕ). slot_bytes 0 l) c.payload.ensures.bytes in
    let e1 : mid.now.seen ≡ over old.now.seen 0 (slot_bytes 0 (payload_of root)) =
    ap (λ (m : Medium). m.seen) c.in_ok-write.ensures.writes.now ∙ (λ i. over old.now.seen (c.offset.ensures i) (first i)) in
    let e2 : next.now.seen ≡ over mid.now.seen 512 (slot_bytes 0 (written_version ∷ [])) =
    ap (λ (m : Medium). m.seen) c.in_ok-write_settled.ensures.settled ∙ (λ i. over mid.now.seen (c.offset-2.ensures i) (c.closed_slot-2.ensures i)) in
    let last_seen : List ℕ = over next.now.seen 0 (1 ∷ []) in
    let are : last.now ≡ resting (formatted root ++ behind_slots old.now.seen) =
    c.in_ok-write_settled-2.ensures.settled ∙ ap (λ (k : ℕ). resting (over next.now.seen k (1 ∷ []))) c.offset-3.ensures
    ∙ ap resting (made root old.now.seen mid.now.seen next.now.seen last_seen lawful room e1 e2 refl) in
    rw c.fresh.ensures (record { slots = refl; written = are; ready = formatted_ready root (behind_slots old.now.seen) last.now lawful are })
