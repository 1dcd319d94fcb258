use Rattle.std.proofs.Common.{rules, ◌≡◌, ◌∷◌, ℕ, ◌+◌, ◌<◌, length, drop, take, get_or, List, [], refl, ◌∙◌, ap, arith, Option, None, Bor}
use Rattle.std.specs.List.{cons_option}
use Rattle.std.specs.Option.{option_copied}
use Rattle.std.proofs.lemmas.List.{drop_all}
use Rattle.rs_disk.specs.Medium.{DiskState}
use Rattle.rs_extent.specs.declared.Extent.{Extent}
use Rattle.rs_extent.specs.Extents.{in_some, IsSubset}
use Rattle.rs_body.specs.Outside.{WritesOnly, WritesPart}
use Rattle.rs_store.proofs.FromBelow.{only_as, only_then, part_only, fits_sized}
use Rattle.rs_model.specs.declared.command.Item.{Item}
use Rattle.rs_plan.specs.Room.{bodies_kept}
use Rattle.rs_plan.specs.Turned.{no_body}
use Rattle.rs_store.proofs.Grouped.{kept_step, has_extent, others_left, sized_at, among_all, inside_at, beside_before, one_more, all_stand}
use Rattle.rs_store.proofs.grouping.write_bodies.Goals.{in-Some+in_ok-write_body, in_default}
use Rattle.rs_store.proofs.grouping.write_bodies.Goals as goal

-- the remaining bodies, by the body of the first item
left_by : (items : List Item) (i n : ℕ) (o p : Option (Bor (List ℕ))) → drop n (bodies_kept items) ≡ bodies_kept (drop i items)
    → bodies_kept (drop i items) ≡ cons_option (option_copied o) (bodies_kept (drop (i + 1) items)) → o ≡ p
    → drop n (bodies_kept items) ≡ cons_option (option_copied p) (bodies_kept (drop (i + 1) items))
left_by items i n o p left step is = left ∙ step ∙ ap (λ (q : Option (Bor (List ℕ))). cons_option (option_copied q) (bodies_kept (drop (i + 1) items))) is

pub bounds-extents-written : goal.bounds-extents-written
bounds-extents-written g c =
    let items = c.args.items.now in
    let i = c.loop-i.i in
    let next = left_by items i c.loop-i.written c.body_kept.result _ c.loop-i.invariant.left (kept_step items i (option_copied c.body_kept.result) c.body_kept.ensures) c.in-Some.is in
    has_extent c.args.extents.now (bodies_kept items) c.requires.sized c.loop-i.written c.in-Some.bytes.now (bodies_kept (drop (i + 1) items)) next

pub write_body-requires-clause-room : goal.write_body-requires-clause-room
write_body-requires-clause-room g c b is =
    let items = c.args.items.now in
    let extents = c.args.extents.now in
    let i = c.loop-i.i in
    let n = c.loop-i.written in
    let next = left_by items i n c.body_kept.result _ c.loop-i.invariant.left (kept_step items i (option_copied c.body_kept.result) c.body_kept.ensures) c.in-Some.is in
    let there = inside_at extents (bodies_kept items) c.requires.sized n c.in-Some.bytes.now (bodies_kept (drop (i + 1) items)) next no_body (get_or extents n no_body) refl
    (g.D.Disk.state c.args.disk.now).size c.requires.room b is in
    omega (arith, there, c.loop-i.invariant.writes.runs.runs.size)

pub write_body-requires-clause-fits : goal.write_body-requires-clause-fits
write_body-requires-clause-fits g c =
    let items = c.args.items.now in
    let extents = c.args.extents.now in
    let i = c.loop-i.i in
    let n = c.loop-i.written in
    let bytes = c.in-Some.bytes.now in
    let next = left_by items i n c.body_kept.result _ c.loop-i.invariant.left (kept_step items i (option_copied c.body_kept.result) c.body_kept.ensures) c.in-Some.is in
    fits_sized (get_or extents n no_body) (length bytes)
    (sized_at extents (bodies_kept items) c.requires.sized n bytes (bodies_kept (drop (i + 1) items)) next no_body (get_or extents n no_body) refl)

-- one more body, written to the extent at hand
further : {B C : Type 0} (extents : List Extent) (e : Extent) (n : ℕ) (old mid new : DiskState) → IsSubset (in_some (e ∷ [])) (in_some extents)
    → (B → C) → (C → B) → WritesOnly extents ⊥ old mid → WritesPart e 0 n B mid new → WritesOnly extents C old new
further extents e n old mid new among to from one two =
    only_as extents old new to from (only_then extents (e ∷ []) extents old mid new (λ b is. is) among (λ none. none) one (part_only e 0 n mid new two))

pub returns-in_err-write_body-clause-writes : goal.returns-in_err-write_body-clause-writes
returns-in_err-write_body-clause-writes g c =
    let items = c.args.items.now in
    let extents = c.args.extents.now in
    let i = c.loop-i.i in
    let n = c.loop-i.written in
    let next = left_by items i n c.body_kept.result _ c.loop-i.invariant.left (kept_step items i (option_copied c.body_kept.result) c.body_kept.ensures) c.in-Some.is in
    let e = get_or extents n no_body in
    let among = among_all extents (bodies_kept items) c.requires.sized n c.in-Some.bytes.now (bodies_kept (drop (i + 1) items)) next no_body e refl in
    let both = further extents e (length c.in-Some.bytes.now) (g.D.Disk.state c.args.disk.now) (g.D.Disk.state c.loop-i.disk) (g.D.Disk.state c.write_body.new.disk) among
    (λ is. is) (λ is. is) c.loop-i.invariant.writes c.in_err-write_body.ensures.writes in
    record { runs = search rules; outside = both.outside }

pub loop-i-preserved : goal.loop-i-preserved
loop-i-preserved g c =
    let items = c.args.items.now in
    let extents = c.args.extents.now in
    let bodies = bodies_kept items in
    let sized = c.requires.sized in
    let i = c.loop-i.i in
    let n = c.loop-i.written in
    let kept = c.loop-i.invariant in
    let old = g.D.Disk.state c.args.disk.now in
    let mid = g.D.Disk.state c.loop-i.disk in
    let step = kept_step items i (option_copied c.body_kept.result) c.body_kept.ensures in
    elim c.match-body_kept.branch [
      | in-Some+in_ok-write_body w ↦
          let bytes = w.in-Some.bytes.now in
          let later : List (List ℕ) = bodies_kept (drop (i + 1) items) in
          let next = left_by items i n c.body_kept.result _ kept.left step w.in-Some.is in
          let e = get_or extents n no_body in
          let new = g.D.Disk.state w.write_body.new.disk in
          let among = among_all extents bodies sized n bytes later next no_body e refl in
          let written = w.write_body.ensures.writes.outside (in_some (take n extents)) (beside_before extents bodies sized n bytes later next no_body e refl c.requires.apart) in
          rw (w.written-is, w.disk-is) (record {
            left = others_left extents bodies sized n bytes later next;
            stand = one_more extents bodies sized n bytes later next no_body e refl mid.now.seen new.now.seen kept.stand written.seen w.in_ok-write_body.ensures.reads;
            writes = further extents e (length bytes) old mid new among (λ is. absurd cc) (λ none. absurd none) kept.writes w.in_ok-write_body.ensures.writes;
          })
      | in_default w ↦
          rw (w.written-is, w.disk-is) (record {
            left = left_by items i n c.body_kept.result None kept.left step w.in_default.is;
            stand = kept.stand;
            writes = kept.writes;
          })
    ]

pub returns-clause-stand : goal.returns-clause-stand
returns-clause-stand g c =
    let items = c.args.items.now in
    let none : drop c.loop-i.written (bodies_kept items) ≡ [] = c.loop-i.invariant.left ∙ ap bodies_kept (drop_all c.loop-i.i items c.loop-i-test.false) in
    all_stand c.args.extents.now (bodies_kept items) c.loop-i.written (g.D.Disk.state c.loop-i.disk).now.seen c.requires.sized none c.loop-i.invariant.stand

pub offset_bounds-extents-written : goal.offset_bounds-extents-written
offset_bounds-extents-written g c =
    let within : c.loop-i.written < length c.args.extents.now = bounds-extents-written g c in
    search rules

pub overflow_add-written : goal.overflow_add-written
overflow_add-written g c =
    let items = c.args.items.now in
    let i = c.loop-i.i in
    let next = left_by items i c.loop-i.written c.body_kept.result _ c.loop-i.invariant.left (kept_step items i (option_copied c.body_kept.result) c.body_kept.ensures) c.in-Some.is in
    let within : c.loop-i.written < length c.args.extents.now =
    has_extent c.args.extents.now (bodies_kept items) c.requires.sized c.loop-i.written c.in-Some.bytes.now (bodies_kept (drop (i + 1) items)) next in
    search rules
