-- The results of opening: when a disk represents no state, and when a source holds the state that its lists determine.
use Rattle.std.proofs.Common.{◌≡◌, inl, inr, ◌+◌, ◌≤◌, ◌<◌, ◌^◌, ℕ, false, List, ◌∷◌, Some, Result, Err, IsTrue, length, sym, ◌∙◌, ap, subst, refl, arith}
use Rattle.std.specs.Prelude.{IsSome, IsErrOf}
use Rattle.std.proofs.lemmas.Bool.{cases_lt}
use Rattle.std.proofs.lemmas.List.{length-append, length-take}
use Rattle.rs_extent.specs.declared.Extent.{Extent}
use Rattle.rs_disk.specs.Medium.{Medium, DiskState, IsImage, resting}
use Rattle.rs_disk.specs.Calls.{CountsCall}
use Rattle.rs_disk.specs.Runs.{HasFailed}
use Rattle.rs_store.proofs.FromBelow.{resting_image, within_true, some_first}
use Rattle.rs_body.specs.Blocks.{part, IsSized}
use Rattle.rs_commit.specs.declared.root.Root.{Root}
use Rattle.rs_commit.specs.Slots.{Standing, current}
use Rattle.rs_commit.specs.Commit.{IsReady}
use Rattle.rs_model.specs.State.{Source}
use Rattle.rs_image.specs.declared.contents.Contents.{Contents}
use Rattle.rs_image.specs.Reach.{AreInside}
use Rattle.rs_image.specs.StateOfImage.{Tells, StandsFor, listing, state_in}
use Rattle.rs_image.specs.Loading.{IsDirectoryPlaced}
use Rattle.rs_body.specs.declared.read.LoadFault.{LoadFault}
use Rattle.rs_body.specs.declared.read.LoadFault.TheVariants as lists
use Rattle.rs_store.specs.declared.opening.OpenFault.{OpenFault}
use Rattle.rs_store.specs.declared.opening.OpenFault.TheVariants.{NotASource, Damaged, Device, NoMemory}
use Rattle.rs_store.specs.Opening.{of_lists, IsNotOpened, MayAskForMemory}
use Rattle.rs_store.specs.Source.{Holds}

-- a fault of a later run is one of the whole
pub failed_behind : (old mid new : DiskState) → old.faults ≤ mid.faults → HasFailed mid new → HasFailed old new
failed_behind old mid new le (inl more) = inl (omega (arith, le, more))
failed_behind old mid new le (inr last) = inr last

-- a directory has bytes
pub some_bytes : (version : ℕ) (c : Contents) → 2 ≤ length (listing version c)
some_bytes version c = simp length-append (omega arith)

-- where a directory lies, a disk has more than the slots
has_room : (size n : ℕ) (e : Extent) (es : List Extent) → IsSized e n → 1 ≤ n → AreInside size (e ∷ es) → 1024 ≤ size
has_room size n e es sized some inside =
    let one : 1 ≤ e.blocks = omega (arith, sized.0) in
    let first = inside e.first (some_first e es e.first (within_true e e.first (omega arith) (omega arith))) in
    omega (arith, first.0, first.1)

-- a disk that represents a state has room for the slots
pub told_room : (root : Root) (c : Contents) (image : List ℕ) (s : Source) → Tells root c image s → 1024 ≤ length image
told_room root c image s told =
    let same : length (part root.directory root.length image) ≡ length (listing root.version c) = ap length told.directory in
    let some : 1 ≤ root.length = omega (arith, same, some_bytes root.version c, length-take {A = ℕ}) in
    has_room (length image) root.length root.directory _ told.whole.directory some told.whole.inside

-- so a disk without that room represents no state
pub small_tells_nothing : (image : List ℕ) → length image < 1024 → (s : Source) → StandsFor image s → ⊥
small_tells_nothing image small s stands =
    absurd (omega (arith, told_room stands.0 stands.2.0 image s stands.2.1))

some_same : (a b : Standing) → Some a ≡ Some b → a ≡ b
some_same a b e = cc

-- a disk whose root determines no state represents no state
pub untold_stands_for_nothing : (image : List ℕ) (slots : Standing) (root : Root) → current image ≡ Some slots → slots.root ≡ root
    → ((c : Contents) (s : Source) → Tells root c image s → ⊥) → (s : Source) → StandsFor image s → ⊥
untold_stands_for_nothing image slots root stand is untold s stands =
    let there = stands.1 in
    let same : there.0 ≡ slots = some_same there.0 slots (sym there.1 ∙ stand) in
    let root_same : stands.0 ≡ root = sym there.2 ∙ ap (λ (x : Standing). x.root) same ∙ is in
    untold stands.2.0 s (subst (λ (r : Root). Tells r stands.2.0 image s) root_same stands.2.1)

-- The state of a source whose disk rests and whose root determines its lists.
pub holds_told : {D : Type 0} (device : D → DiskState) (disk : D) (slots : Standing) (c : Contents) (seen : List ℕ)
    → IsReady slots (device disk).now → (device disk).now ≡ resting seen → Tells slots.root c seen (state_in seen c)
    → Holds device (record { disk = disk; slots = slots; contents = c; is_closed = false }) (state_in (device disk).now.seen c)
holds_told device disk slots c seen ready rests told =
    let same : (device disk).now.seen ≡ seen = ap (λ (m : Medium). m.seen) rests in
    let state : state_in seen c ≡ state_in (device disk).now.seen c = ap (λ (l : List ℕ). state_in l c) (sym same) in
    record {
      is_open = refl;
      ready = ready;
      tells = λ image is.
          let there : image ≡ seen = resting_image seen image (subst (λ (m : Medium). IsImage m image) rests is) in
          subst (λ (l : List ℕ). Tells slots.root c l (state_in (device disk).now.seen c)) (sym there)
          (subst (λ (s : Source). Tells slots.root c seen s) state told);
    }

-- the bytes represent the state that their root determines
pub stands_told : {D : Type 0} (device : D → DiskState) (disk : D) (slots : Standing) (c : Contents) (seen : List ℕ)
    → (device disk).now ≡ resting seen → current seen ≡ Some slots → Tells slots.root c seen (state_in seen c)
    → StandsFor seen (state_in (device disk).now.seen c)
stands_told device disk slots c seen rests stand told =
    let same : (device disk).now.seen ≡ seen = ap (λ (m : Medium). m.seen) rests in
    let state : state_in seen c ≡ state_in (device disk).now.seen c = ap (λ (l : List ℕ). state_in l c) (sym same) in
    (slots.root, (slots, stand, refl), (c, subst (λ (s : Source). Tells slots.root c seen s) state told))

-- a property of all faults of the lists is a property of the answers with their names
pub lists_not_opened : (old new : DiskState) (fault : LoadFault)
    → (fault ≡ lists.Damaged → IsTrue new.honest → IsSome (current old.now.seen) × ((s : Source) → ¬ StandsFor old.now.seen s))
    → (fault ≡ lists.Device → HasFailed old new)
    → (fault ≡ lists.NoMemory → IsTrue new.honest → MayAskForMemory old.size old.now.seen) → IsNotOpened old new (of_lists fault)
lists_not_opened old new lists.Damaged damaged device memory = damaged refl
lists_not_opened old new lists.Device damaged device memory = device refl
lists_not_opened old new lists.NoMemory damaged device memory = memory refl

-- a refusal for the content of a disk is a refusal for the content before it settled
pub not_opened_before : (old mid new : DiskState) → mid.now.seen ≡ old.now.seen → mid.size ≡ old.size → old.faults ≤ mid.faults → (fault : OpenFault)
    → IsNotOpened mid new fault → IsNotOpened old new fault
not_opened_before old mid new same size le NotASource refused = λ honest. sym (ap current same) ∙ refused honest
not_opened_before old mid new same size le Damaged refused = λ honest. (
  subst (λ (l : List ℕ). IsSome (current l)) same (refused honest).0,
  λ s stands. (refused honest).1 s (subst (λ (l : List ℕ). StandsFor l s) (sym same) stands),
)
not_opened_before old mid new same size le Device refused = failed_behind old mid new le refused
not_opened_before old mid new same size le NoMemory refused = λ honest.
    let may = refused honest in
    record {
      standing = may.standing;
      slots = sym (ap current same) ∙ may.slots;
      directory = subst (λ (n : ℕ). IsDirectoryPlaced n may.standing.root) size may.directory;
    }

-- reading the slots and the directory took at least four calls
pub one_call_more : {T E : Type 0} (old mid : DiskState) (result : Result T E) → CountsCall old mid result → mid.calls ≤ old.calls + 1
one_call_more old mid result counts = elim (cases_lt (old.calls + 1) (2 ^ 64)) [
  | inl lt ↦ omega (arith, counts.calls lt)
  | inr most ↦ let same : mid.calls ≡ old.calls = ap (λ (d : DiskState). d.calls) (counts.spent most).0 in omega (arith, same)
]

-- NoMemory comes from the lists
pub no_memory_of_lists : {T : Type 0} (fault : LoadFault) (P : Type 0) → (fault ≡ lists.NoMemory → P) → IsErrOf {T = T} (Err (of_lists fault)) NoMemory → P
no_memory_of_lists lists.Damaged P from is = absurd cc
no_memory_of_lists lists.Device P from is = absurd cc
no_memory_of_lists lists.NoMemory P from is = from refl
