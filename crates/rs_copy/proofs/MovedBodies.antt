-- Bodies that are copied one after the other.
use Rattle.std.proofs.Common.{◌≡◌, ◌<◌, ◌≤◌, ◌+◌, ◌/◌, ℕ, Bool, true, suc, List, [], ◌∷◌, ◌++◌, length, take, drop, map, get_or, Some, refl, sym, ◌∙◌, ap, ap₂, subst, IsTrue, Result, Ok, Err, add-one, drop-cons, arith}
use Rattle.std.specs.Prelude.{All, IsErrOf, slice_get}
use Rattle.std.specs.Result.{IsErrAnd}
use Rattle.std.specs.List.{AllZip}
use Rattle.std.proofs.lemmas.List.{take-append-drop, map-append, map_more, take_more}
use Rattle.std.proofs.lemmas.List.Elements.{All-nil, All-cons, All-head, All-tail, All-get_or, AllZip-get_or}
use Rattle.std.proofs.lemmas.Option.{slice_get_within, get_or_from_slice_get}
use Rattle.std.proofs.lemmas.List.Sums.{sum_by_push, sum_by-take-le}
use Rattle.rs_disk.specs.Medium.{DiskState}
use Rattle.rs_disk.specs.Runs.{CallsAtMost}
use Rattle.rs_fixity.specs.Digests.{digests}
use Rattle.rs_extent.specs.declared.Extent.{Extent}
use Rattle.rs_extent.specs.Extents.{in_some, AreApart, AreBeside, IsSubset}
use Rattle.rs_copy.proofs.FromBelow.{some_first, some_rest, some_front, some_behind, beside_front, beside_between, part_kept}
use Rattle.rs_body.specs.Blocks.{part}
use Rattle.rs_body.specs.Outside.{Keeps}
use Rattle.rs_record.specs.declared.record.Record.{Record}
use Rattle.rs_model.specs.declared.value.Held.{Held}
use Rattle.rs_model.specs.Listed.{entry_of}
use Rattle.rs_image.specs.Reach.{bodies_of}
use Rattle.rs_image.specs.StateOfImage.{held_in}
use Rattle.rs_copy.specs.declared.faults.CopyFault.{CopyFault}
use Rattle.rs_copy.specs.declared.faults.CopyFault.TheVariants.{Damaged}
use Rattle.rs_copy.specs.Laying.{IsMoved}
use Rattle.rs_copy.specs.Copies.{Disks, HasItsBody, calls_for}
use Rattle.rs_copy.specs.Copying.{CopiesBodies, HasPlace}
use Rattle.rs_copy.proofs.Handed.{handed_err}

-- Bodies stay if the content of their blocks stays.
pub bodies_stay : (kept : ℕ → Bool) (size : ℕ) (rs : List Record) (old new : List ℕ) → All (HasPlace size) rs → ((b : ℕ) → in_some (bodies_of rs) b ≡ true → kept b ≡ true) → Keeps kept old new
    → (map (held_in new) rs ≡ map (held_in old) rs) × (All (HasItsBody old) rs → All (HasItsBody new) rs)
bodies_stay kept size [] old new places all keeps = (refl, λ intact. All-nil (HasItsBody new))
bodies_stay kept size (r ∷ rs) old new places all keeps =
    let body : part r.extent r.length new ≡ part r.extent r.length old =
    part_kept kept r.extent r.length (All-head (HasPlace size) r rs places).fits (λ b is. all b (some_first r.extent (bodies_of rs) b is)) old new keeps in
    let rest = bodies_stay kept size rs old new (All-tail (HasPlace size) r rs places) (λ b is. all b (some_rest r.extent (bodies_of rs) b is)) keeps in (
      ap₂ (λ (one : List ℕ × Held) (more : List (List ℕ × Held)). one ∷ more)
          (ap (λ (bytes : List ℕ). (r.name, record { bytes = bytes; entry = (entry_of r).1 })) body) rest.0,
      λ intact. All-cons (HasItsBody new) r rs (ap (λ (bytes : List ℕ). (digests bytes).sha256) body ∙ All-head (HasItsBody old) r rs intact)
          (rest.1 (All-tail (HasItsBody old) r rs intact)),
    )

-- A list around one of its elements, here of records.
pub at_place : (rs : List Record) (i : ℕ) (r : Record) → slice_get rs i ≡ Some r → rs ≡ take i rs ++ r ∷ drop (i + 1) rs
at_place rs i r at =
    let within : i < length rs = slice_get_within rs i r at in
    let there : get_or rs i r ≡ r = get_or_from_slice_get rs i r r at in
    let behind : drop i rs ≡ r ∷ drop (i + 1) rs = rw add-one (drop-cons rs i r within ∙ ap (λ (x : Record). x ∷ drop (suc i) rs) there) in
    sym (take-append-drop i rs) ∙ ap (λ (l : List Record). take i rs ++ l) behind

pub take_one_more : (rs : List Record) (i : ℕ) (r : Record) → slice_get rs i ≡ Some r → take (i + 1) rs ≡ take i rs ++ r ∷ []
take_one_more rs i r at = take_more rs i r (slice_get_within rs i r at) ∙ ap (λ (x : Record). take i rs ++ x ∷ []) (get_or_from_slice_get rs i r r at)

-- one more body, read once
pub read_once_more : (rs : List Record) (i : ℕ) (r : Record) → slice_get rs i ≡ Some r → (old mid new : DiskState) → CallsAtMost (calls_for (take i rs)) old mid
    → CallsAtMost ((r.length + 16383) / 16384) mid new → CallsAtMost (calls_for (take (i + 1) rs)) old new
read_once_more rs i r at old mid new before one =
    let calls : Record → ℕ = λ x. (x.length + 16383) / 16384 in
    let more : calls_for (take (i + 1) rs) ≡ calls_for (take i rs) + calls r = ap calls_for (take_one_more rs i r at) ∙ sum_by_push calls (take i rs) r in
    omega (arith, more, before, one)

-- the first bodies, among all bodies
pub read_among : (rs : List Record) (i : ℕ) (old new : DiskState) → CallsAtMost (calls_for (take i rs)) old new → CallsAtMost (calls_for rs) old new
read_among rs i old new once =
    let few : calls_for (take i rs) ≤ calls_for rs = sum_by-take-le (λ x. (x.length + 16383) / 16384) rs i in
    omega (arith, few, once)

around : (rs : List Record) (i : ℕ) (r : Record) → slice_get rs i ≡ Some r → bodies_of rs ≡ bodies_of (take i rs) ++ r.extent ∷ bodies_of (drop (i + 1) rs)
around rs i r at = ap bodies_of (at_place rs i r at) ∙ map-append (λ (x : Record). x.extent) (take i rs) (r ∷ drop (i + 1) rs)

pub each_of : (P : Record → Type 0) (rs : List Record) (i : ℕ) (r : Record) → slice_get rs i ≡ Some r → All P rs → P r
each_of P rs i r at all = subst P (get_or_from_slice_get rs i r r at) (All-get_or P rs i r (slice_get_within rs i r at) all)

-- A result that is a fault copied no bodies.
pub ends_bodies : {S T : Type 0} {rs moved : List Record} {old new : Disks} (r : Result T CopyFault) (e : CopyFault) → IsErrAnd r (λ y. y ≡ e)
    → (IsErrOf {T = S} (Err e) Damaged → IsTrue new.from.honest → ¬ All (HasItsBody old.from.now.seen) rs) → CopiesBodies rs moved old new r
ends_bodies (Ok x) e handed damaged = absurd handed
ends_bodies {S} (Err y) e handed damaged = record { copied = tt; intact = tt; damaged = λ is. damaged (handed_err {S = S} (Err y) e Damaged handed is) }

-- The blocks of a body are among those of all bodies, and outside those of the bodies before it.
pub body_among : (rs : List Record) (i : ℕ) (r : Record) → slice_get rs i ≡ Some r → IsSubset (in_some (r.extent ∷ [])) (in_some (bodies_of rs))
body_among rs i r at b is =
    let rest = bodies_of (drop (i + 1) rs) in
    subst (λ (es : List Extent). in_some es b ≡ true) (sym (around rs i r at)) (some_behind (bodies_of (take i rs)) (r.extent ∷ rest) b (some_front (r.extent ∷ []) rest b is))

pub beside_before : (rs : List Record) (i : ℕ) (r : Record) → slice_get rs i ≡ Some r → AreApart (bodies_of rs) → AreBeside (in_some (bodies_of (take i rs))) (r.extent ∷ [])
beside_before rs i r at apart =
    let rest = bodies_of (drop (i + 1) rs) in
    beside_front (in_some (bodies_of (take i rs))) (r.extent ∷ []) rest
    (beside_between (bodies_of (take i rs)) (r.extent ∷ rest) (subst (λ (es : List Extent). AreApart es) (around rs i r at) apart))

-- the same place in records that were moved
pub moved_at : (rs moved : List Record) (i : ℕ) (r m : Record) → AllZip IsMoved rs moved → slice_get rs i ≡ Some r → slice_get moved i ≡ Some m → IsMoved r m
moved_at rs moved i r m all at there =
    let one = AllZip-get_or IsMoved rs moved i r m all (slice_get_within rs i r at) in
    subst (λ (x : Record). IsMoved x m) (get_or_from_slice_get rs i r r at)
    (subst (λ (x : Record). IsMoved (get_or rs i r) x) (get_or_from_slice_get moved i m m there) one)

-- one more body
pub map_one_more : {A : Type 0} (f : Record → A) (rs : List Record) (i : ℕ) (r : Record) → slice_get rs i ≡ Some r → map f (take (i + 1) rs) ≡ map f (take i rs) ++ f r ∷ []
map_one_more f rs i r at =
    map_more f rs i r (slice_get_within rs i r at) ∙ ap (λ (x : Record). map f (take i rs) ++ f x ∷ []) (get_or_from_slice_get rs i r r at)

pub held_more : (rs moved : List Record) (i : ℕ) (r m : Record) (before mid new : List ℕ) → slice_get rs i ≡ Some r → slice_get moved i ≡ Some m
    → map (held_in new) (take i moved) ≡ map (held_in mid) (take i moved) → map (held_in mid) (take i moved) ≡ map (held_in before) (take i rs)
    → map (held_in new) (m ∷ []) ≡ map (held_in before) (r ∷ []) → map (held_in new) (take (i + 1) moved) ≡ map (held_in before) (take (i + 1) rs)
held_more rs moved i r m before mid new at there stay so_far one =
    map_one_more (held_in new) moved i m there
    ∙ ap₂ (λ (l h : List (List ℕ × Held)). l ++ h) (stay ∙ so_far) one
    ∙ sym (map_one_more (held_in before) rs i r at)
