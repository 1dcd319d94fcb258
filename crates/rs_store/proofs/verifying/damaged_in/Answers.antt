use Rattle.std.proofs.Common.{◌≡◌, ◌<◌, ◌+◌, ◌++◌, ◌∷◌, [], length, map, take, List, ℕ, sym, ◌∙◌, ap, arith}
use Rattle.std.proofs.lemmas.List.{take_more}
use Rattle.std.proofs.lemmas.Option.{get_or_from_slice_get}
use Rattle.rs_disk.specs.Medium.{Medium, DiskState}
use Rattle.rs_disk.specs.Runs.{CallsAtMost}
use Rattle.rs_store.proofs.FromBelow.{went_well, reading_on, read_among, read_once_more}
use Rattle.rs_record.specs.declared.record.Record.{Record}
use Rattle.rs_catalogue.specs.Catalogue.{records_of}
use Rattle.rs_image.specs.StateOfImage.{held_in}
use Rattle.rs_store.specs.Verified.{damaged_among}
use Rattle.rs_copy.specs.Copies.{calls_for}
use Rattle.rs_store.specs.Shows.{calls_for_held}
use Rattle.rs_store.proofs.Damaged.{damaged_more, calls_for_records}
use Rattle.rs_store.proofs.verifying.damaged_in.Goals as goal

-- the calls for the records are those for the held resources
of_held : (image : List ℕ) (rs : List Record) (old new : DiskState) → CallsAtMost (calls_for rs) old new → CallsAtMost (calls_for_held (map (held_in image) rs)) old new
of_held image rs old new once = let same : calls_for_held (map (held_in image) rs) ≡ calls_for rs = calls_for_records image rs in omega (arith, same, once)

pub returns-in_err-note_damage-clause-once : goal.returns-in_err-note_damage-clause-once
returns-in_err-note_damage-clause-once g c =
    let old = g.D.Disk.state c.args.disk.now in
    let new = g.D.Disk.state c.note_damage.new.disk in
    let all = records_of c.args.catalogue.now in
    let i = c.loop-i.i in
    of_held old.now.seen all old new
    (read_among all (i + 1) old new
    (read_once_more all i c.at.result.now c.at.ensures old (g.D.Disk.state c.loop-i.disk) new c.loop-i.invariant.once c.in_err-note_damage.ensures.once))

pub loop-i-preserved : goal.loop-i-preserved
loop-i-preserved g c =
    let old = g.D.Disk.state c.args.disk.now in
    let mid = g.D.Disk.state c.loop-i.disk in
    let new = g.D.Disk.state c.note_damage.new.disk in
    let inv = c.loop-i.invariant in
    let e = c.in_ok-note_damage.ensures in
    let all = records_of c.args.catalogue.now in
    let i = c.loop-i.i in
    let r = c.at.result.now in
    let seen = old.now.seen in
    let within : i < length all = omega (arith, c.len-i-end.ensures.value, c.loop-i-test.true) in
    let first : take (i + 1) all ≡ take i all ++ r ∷ [] = take_more all i r within ∙ ap (λ (x : Record). take i all ++ x ∷ []) (get_or_from_slice_get all i r r c.at.ensures) in
    record {
      names = λ honest.
          e.names honest
          ∙ ap (λ (l : List (List ℕ)). l ++ damaged_among (held_in mid.now.seen r ∷ [])) (inv.names (e.runs.runs.lasts honest))
          ∙ ap (λ (m : Medium). damaged_among (map (held_in seen) (take i all)) ++ damaged_among (held_in m.seen r ∷ [])) inv.runs.now
          ∙ sym (damaged_more seen (take i all) r)
          ∙ ap (λ (l : List Record). damaged_among (map (held_in seen) l)) (sym first);
      few = omega (arith, e.few, inv.few);
      once = read_once_more all i r c.at.ensures old mid new inv.once e.once;
      runs = reading_on old mid new (λ none. none) (λ is. absurd cc) (λ none. absurd none) (went_well old mid new (λ none. none) inv.runs.runs) inv.runs e.runs;
    }

pub returns-clause-once : goal.returns-clause-once
returns-clause-once g c =
    let old = g.D.Disk.state c.args.disk.now in
    let new = g.D.Disk.state c.loop-i.disk in
    let all = records_of c.args.catalogue.now in
    of_held old.now.seen all old new (read_among all c.loop-i.i old new c.loop-i.invariant.once)
