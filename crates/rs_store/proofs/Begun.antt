-- A source after it wrote the bodies of a plan, or stopped at them.
use Rattle.std.proofs.Common.{◌≡◌, ◌<◌, ℕ, true, false, true≢false, List, [], ◌∷◌, length, get_or, refl, sym, ap, subst, arith, None, Result, Ok, Err}
use Rattle.std.specs.Prelude.{is_err, OnOk, OnErr}
use Rattle.rs_disk.specs.Medium.{DiskState, IsMedium}
use Rattle.rs_disk.specs.Runs.{RunsWriting}
use Rattle.rs_store.proofs.FromBelow.{writing_none, writing_as, some_first, outside_none}
use Rattle.rs_extent.specs.declared.Extent.{Extent}
use Rattle.rs_extent.specs.Extents.{AreBeside, IsOnDisk, AreOnDisk}
use Rattle.rs_body.specs.Blocks.{part, IsSized}
use Rattle.rs_body.specs.Outside.{WritesOutside, WritesOnly}
use Rattle.rs_model.specs.Step.{moment_at}
use Rattle.rs_model.specs.declared.command.Command.{Command}
use Rattle.rs_image.specs.Reach.{is_kept}
use Rattle.rs_image.specs.Whole.{IsWhole}
use Rattle.rs_plan.specs.declared.plan.Plan.{Plan}
use Rattle.rs_plan.specs.Room.{bodies_of_command}
use Rattle.rs_plan.specs.Plans.{AreBodies, places, IsPlanned}
use Rattle.rs_store.specs.declared.refusal.Refusal.TheVariants.{Device, NoMemory}
use Rattle.rs_store.specs.Source.{Stored, rooted_in, state_of}
use Rattle.rs_store.specs.Refusals.{decided}
use Rattle.rs_store.specs.Writing.{HasWrittenBodies}
use Rattle.rs_store.specs.Answered.{Answers}
use Rattle.rs_store.proofs.Answered.{stopped, broken_off}
use Rattle.rs_store.proofs.Written.{beside_each, AreSized}

-- a clause of errors, for an answer that is an error
pub on_err : {T E P : Type 0} (r : Result T E) → is_err r ≡ true → OnErr r P → P
on_err (Ok x) bad given = absurd (true≢false (sym bad))
on_err (Err e) bad given = given

-- a clause of successes, for an answer that is a success
pub on_ok : {T E P : Type 0} (r : Result T E) → is_err r ≡ false → OnOk r P → P
on_ok (Ok x) fine given = given
on_ok (Err e) fine given = absurd (true≢false fine)

-- an empty list of bodies is in an empty list of extents
stand_none : (image : List ℕ) (extents : List Extent) → AreSized extents [] → AreBodies image extents []
stand_none image [] none = tt
stand_none image (e ∷ es) none = absurd none

-- A single body has a single extent: ..
pub one_extent : (extents : List Extent) (bytes : List ℕ) (e : Extent) → AreSized extents (bytes ∷ []) → e ≡ get_or extents 0 e → extents ≡ e ∷ []
one_extent [] bytes e sized is = absurd sized
one_extent (x ∷ []) bytes e sized is = ap (λ (y : Extent). y ∷ []) (sym is)
one_extent (x ∷ y ∷ xs) bytes e sized is = absurd sized.1

pub some_extent : (extents : List Extent) (bytes : List ℕ) → AreSized extents (bytes ∷ []) → 0 < length extents
some_extent [] bytes sized = absurd sized
some_extent (x ∷ xs) bytes sized = omega arith

-- .. a write to this extent alone is a write to these extents alone, and if the body is in it, the bodies are in them.
pub only_one : {A : Type 0} {old new : DiskState} (extents : List Extent) (bytes : List ℕ) (e : Extent) → AreSized extents (bytes ∷ []) → e ≡ get_or extents 0 e
    → WritesOnly (e ∷ []) A old new → WritesOnly extents A old new
only_one {A} {old} {new} extents bytes e sized is run = subst (λ (es : List Extent). WritesOnly es A old new) (sym (one_extent extents bytes e sized is)) run

pub stand_one : (extents : List Extent) (e : Extent) (bytes image : List ℕ) → extents ≡ e ∷ [] → part e (length bytes) image ≡ bytes → AreBodies image extents (bytes ∷ [])
stand_one extents e bytes image alone stands = subst (λ (es : List Extent). AreBodies image es (bytes ∷ [])) (sym alone) (stands, tt)

-- .. it has the size of the body, and lies on the disk if all extents do
pub sized_one : (extents : List Extent) (bytes : List ℕ) (e : Extent) → extents ≡ e ∷ [] → AreSized extents (bytes ∷ []) → IsSized e (length bytes)
sized_one extents bytes e alone sized = (subst (λ (es : List Extent). AreSized es (bytes ∷ [])) alone sized).0

pub on_disk_one : (extents : List Extent) (size : ℕ) (e : Extent) → extents ≡ e ∷ [] → AreOnDisk extents size → IsOnDisk e size
on_disk_one extents size e alone inside b is = subst (λ (es : List Extent). AreOnDisk es size) alone inside b (some_first e [] b is)

-- a command without bodies wrote no bodies
pub begun_with_none : {D : Type 0} (device : D → DiskState) (start o : Stored D) (p : Plan) → o ≡ start → AreSized p.bodies.items [] → HasWrittenBodies device start o p []
begun_with_none {D} device start o p same none =
    subst (λ (s : Stored D). HasWrittenBodies device s o p []) same (record {
      slots = refl;
      contents = refl;
      is_closed = refl;
      outside = outside_none (is_kept o.slots.root o.contents) (device o.disk);
      runs = writing_none (device o.disk) (λ none. none);
      stand = stand_none (device o.disk).now.seen p.bodies.items none;
    })

module _ {D : Type 0} (device : D → DiskState) (medium : (disk : D) → IsMedium (device disk).size (device disk).now) (start o : Stored D) (same : o ≡ start) (p : Plan) (mid : D)
    (A : Type 0) (writes : WritesOnly p.bodies.items A (device o.disk) (device mid)) where
  outside : AreBeside (is_kept start.slots.root start.contents) (places p) → WritesOutside (is_kept start.slots.root start.contents) (device start.disk) (device mid)
  outside free =
      subst (λ (s : Stored D). WritesOutside (is_kept start.slots.root start.contents) (device s.disk) (device mid)) same
      (writes.outside (is_kept start.slots.root start.contents) (beside_each (is_kept start.slots.root start.contents) p free).bodies)

  went : RunsWriting A (device start.disk) (device mid)
  went = subst (λ (s : Stored D). RunsWriting A (device s.disk) (device mid)) same writes.runs

  unmet : ¬ A → RunsWriting ⊥ (device start.disk) (device mid)
  unmet well = writing_as (device start.disk) (device mid) well (λ none. absurd none) went

  -- the bodies are written
  pub begun : ¬ A → (bodies : List (List ℕ)) → AreBeside (is_kept start.slots.root start.contents) (places p) → AreBodies (device mid).now.seen p.bodies.items bodies
      → HasWrittenBodies device start (record { disk = mid; slots = o.slots; contents = o.contents; is_closed = o.is_closed }) p bodies
  begun well bodies free stand = record {
    slots = ap (λ (s : Stored D). s.slots) same;
    contents = ap (λ (s : Stored D). s.contents) same;
    is_closed = ap (λ (s : Stored D). s.is_closed) same;
    outside = outside free;
    runs = unmet well;
    stand = stand;
  }

  module _ (whole : IsWhole (device o.disk).size o.slots.root o.contents) (command : Command) (now : ℕ)
      (free : decided start (state_of device start) command now ≡ None)
      (planned : IsPlanned (rooted_in device start) command (moment_at (state_of device start) now) p) where
    was_whole : IsWhole (device start.disk).size start.slots.root start.contents
    was_whole = subst (λ (s : Stored D). IsWhole (device s.disk).size s.slots.root s.contents) same whole

    -- the device failed
    pub broken_body : A
        → Answers device start (record { disk = mid; slots = o.slots; contents = o.contents; is_closed = true }) command now (Err Device)
    broken_body failed =
        broken_off device medium start command now p (bodies_of_command command) was_whole free refl planned mid (outside planned.free)
        (record { disk = mid; slots = o.slots; contents = o.contents; is_closed = true }) refl refl
        failed went

    -- it stopped for another cause, for example lack of memory
    pub stopped_body : ¬ A
        → Answers device start (record { disk = mid; slots = o.slots; contents = o.contents; is_closed = o.is_closed }) command now (Err NoMemory)
    stopped_body well =
        let left : Stored D → Stored D = λ s. record { disk = mid; slots = s.slots; contents = s.contents; is_closed = s.is_closed } in
        subst (λ (s : Stored D). Answers device start s command now (Err NoMemory)) (ap left (sym same))
        (stopped device medium start command now p (bodies_of_command command) was_whole free refl planned mid (outside planned.free) (unmet well))
