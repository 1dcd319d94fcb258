use Rattle.std.proofs.Common.{◌≡◌, ◌≤◌, ◌∙◌, length, rules, arith, ap, sym, subst, Result, Ok, Err, OnOk}
use Rattle.std.specs.Prelude.{IfOk}
use Rattle.rs_disk.specs.Medium.{Medium, resting}
use Rattle.rs_body.specs.Blocks.{part}
use Rattle.rs_commit.specs.Slots.{Standing}
use Rattle.rs_commit.specs.Commit.{IsReady}
use Rattle.rs_store.proofs.Started.{front_made, part_behind}
use Rattle.rs_store.proofs.formatting.write_blank.Goals as goal

-- a consequence of a clause of successes
if_ok : {T E : Type 0} {P : T → Type 0} {Q : Type 0} (r : Result T E) → ((x : T) → P x → Q) → IfOk r P → OnOk r Q
if_ok (Ok x) from p = from x p
if_ok (Err e) from p = tt

pub returns-clause-made : goal.returns-clause-made
returns-clause-made g c =
    let root = c.args.blank.now.root in
    let bytes = c.args.blank.now.directory.items in
    let mid = g.D.Disk.state c.write_body.new.disk in
    let new = g.D.Disk.state c.format_slots.new.disk in
    let one = g.met.D.Disk.holds c.write_body.new.disk in
    let room : 1024 ≤ length mid.now.seen = omega (arith, one.image.size, one.settled, c.write_body.ensures.writes.within.writes.runs.size, c.requires.fits.slots) in
    let was : part root.directory (length bytes) mid.now.seen ≡ bytes = search rules in
    let outside = c.format_slots.ensures.runs.outside in
    if_ok c.format_slots.result (λ slots made. record {
      front = front_made root mid.now.seen new.now room outside.size made.written;
      ready = subst (λ (s : Standing). IsReady s new.now) made.slots made.ready;
      resting = made.written ∙ ap resting (sym (ap (λ (m : Medium). m.seen) made.written));
      reads = part_behind root.directory (length bytes) new.now.seen mid.now.seen c.requires.fits.behind outside ∙ was;
    }) c.format_slots.ensures.made
