-- The answer of copying, by the result of the writing.
use Rattle.std.proofs.Common.{◌≡◌, inl, inr, ◌<◌, ℕ, Result, Ok, Err, refl, sym, subst}
use Rattle.rs_commit.specs.declared.root.Root.{Root}
use Rattle.rs_commit.specs.Commit.{IsReady}
use Rattle.rs_commit.specs.Format.{fresh}
use Rattle.rs_commit.specs.Slots.{Standing}
use Rattle.rs_image.specs.declared.contents.Contents.{Contents}
use Rattle.rs_image.specs.Reach.{blocks_of_disk}
use Rattle.rs_image.specs.Rooted.{Rooted}
use Rattle.rs_copy.specs.declared.copying.Copied.{Copied}
use Rattle.rs_copy.specs.declared.faults.CopyFault.{CopyFault}
use Rattle.rs_copy.specs.declared.faults.CopyFault.TheVariants.{TooSmall, Full, Device, Damaged}
use Rattle.rs_copy.specs.declared.laying_out.Layout.{Layout}
use Rattle.rs_copy.specs.Laying.{IsLaidOut, all_stored}
use Rattle.rs_copy.specs.Copies.{Copies, Disks}
use Rattle.rs_copy.specs.Copying.{IsOfWriting, WritesCopy, copied_root}
use Rattle.rs_copy.proofs.Handed.{no_err, same_err}
use Rattle.rs_copy.proofs.Roomy.{has_room}

-- the layout, for the size of this disk and the lists of the root
laid_at : {n size : ℕ} {x c : Contents} (l : Layout) → n ≡ size → x ≡ c → IsLaidOut n x l.contents l.directory l.used → IsLaidOut size c l.contents l.directory l.used
laid_at {size = size} {x = x} l same lists laid =
    subst (λ (y : Contents). IsLaidOut size y l.contents l.directory l.used) lists (subst (λ (k : ℕ). IsLaidOut k x l.contents l.directory l.used) same laid)

-- a copy that was written
pub copies_written : {n : ℕ} {x : Contents} (r : Rooted) (old new : Disks) (l l' : Layout) (slots : Standing) → (blocks_of_disk old.to.size < 16 → ⊥)
    → n ≡ old.to.size → x ≡ r.contents → IsLaidOut n x l.contents l.directory l.used → WritesCopy x l l' old new (Ok slots)
    → Copies r old new (Ok (record { slots = slots; contents = l'.contents; used = l'.used }))
copies_written r old new l l' slots large same lists laid found =
    let w : WritesCopy r.contents l l' old new (Ok slots) = subst (λ (c : Contents). WritesCopy c l l' old new (Ok slots)) lists found in
    let root : Root = copied_root l.directory (all_stored l.contents) in
    subst (λ (s : Standing). Copies r old new (Ok (record { slots = s; contents = l'.contents; used = l'.used }))) (sym w.slots)
    (subst (λ (x : Layout). Copies r old new (Ok (record { slots = fresh root; contents = x.contents; used = x.used }))) (sym w.layout)
    (record {
      rests = w.runs.rests;
      once = w.once;
      advances = w.runs.advances;
      stops = w.runs.stops;
      too_small = (λ is. absurd cc, λ small. absurd (large small));
      full = λ is. absurd cc;
      untouched = λ is. elim is [ inl small ↦ absurd cc | inr full ↦ absurd cc ];
      room = λ is. elim is [ inl failed ↦ absurd cc | inr damaged ↦ absurd cc ];
      failed = λ is. absurd cc;
      sound = λ not. w.runs.sound (λ is. absurd cc);
      damaged = λ is. absurd cc;
      copied = record {
        slots = refl;
        generation = refl;
        version = refl;
        ready = subst (λ (s : Standing). IsReady s new.to.now) w.slots w.ready;
        sound = w.sound;
        intact = w.intact;
      };
      lies = record { placed = l.contents; laid_out = laid_at l same lists laid; contents = refl };
      holds = λ s honest told image at. w.holds s honest told.state image at;
      any_moment = λ s honest told. w.any_moment s honest told.state;
      settled = λ s honest told when. w.settled s honest told.state when;
    }))

-- a copy whose writing failed
pub copies_failed : {n : ℕ} {x : Contents} (r : Rooted) (old new : Disks) (l l' : Layout) (fault : CopyFault) (result : Result Copied CopyFault) → (blocks_of_disk old.to.size < 16 → ⊥)
    → n ≡ old.to.size → x ≡ r.contents → IsLaidOut n x l.contents l.directory l.used → result ≡ Err fault → WritesCopy x l l' old new (Err fault) → Copies r old new result
copies_failed r old new l l' fault result large same lists laid is found =
    let w : WritesCopy r.contents l l' old new (Err fault) = subst (λ (c : Contents). WritesCopy c l l' old new (Err fault)) lists found in
    let not_small = no_err {T = Standing} IsOfWriting (Err fault) TooSmall w.others (λ none. none) in
    let not_full = no_err {T = Standing} IsOfWriting (Err fault) Full w.others (λ none. none) in
    subst (λ (x : Result Copied CopyFault). Copies r old new x) (sym is)
    (record {
      rests = w.runs.rests;
      once = w.once;
      advances = w.runs.advances;
      stops = w.runs.stops;
      too_small = (λ is. absurd (not_small (same_err fault TooSmall is)), λ small. absurd (large small));
      full = λ full. absurd (not_full (same_err fault Full full));
      untouched = λ either. elim either [ inl small ↦ absurd (not_small (same_err fault TooSmall small)) | inr full ↦ absurd (not_full (same_err fault Full full)) ];
      room = λ met lacks. has_room old.to.size r.contents l.contents l.directory l.used (laid_at l same lists laid) lacks;
      failed = λ failed. w.runs.failed (same_err fault Device failed);
      sound = λ not. w.runs.sound (λ failed. not (same_err fault Device failed));
      damaged = λ damaged. w.damaged (same_err fault Damaged damaged);
      copied = tt;
      lies = tt;
      holds = λ s honest told. tt;
      any_moment = λ s honest told. w.any_moment s honest told.state;
      settled = λ s honest told when. w.settled s honest told.state when;
    })
