-- Runs of calls that keep the bytes of a set of blocks.
use Rattle.std.proofs.Common.{rules, ◌≡◌, ◌⊎◌, inl, inr, ℕ, ◌+◌, ◌*◌, ◌-◌, ◌/◌, ◌%◌, ◌<◌, ◌≤◌, ◌==◌, Bool, true, false, List, ◌++◌, length, take, drop, get_or, refl, sym, ◌∙◌, ap, subst, arith, length-append, length-take, length-drop}
use Rattle.std.proofs.lemmas.Bool.Decides.{nat_tests}
use Rattle.std.proofs.lemmas.List.{append_assoc, drop-append-le, drop-take, ext_get_or, get_or-take, get_or-drop, length-take-le, places, take_at}
use Rattle.rs_disk.specs.Medium.{Medium, DiskState, IsImage, IsImageAt, over, marked}
use Rattle.rs_disk.specs.Leaves.{Torn}
use Rattle.rs_disk.specs.Runs.{RunsReading, WritesWithin}
use Rattle.rs_body.proofs.FromBelow.{torn_below, torn_above, same_goes_on, same_weaker, started, weaker, within_true, outside, turned}
use Rattle.rs_extent.specs.declared.Extent.{Extent}
use Rattle.rs_extent.specs.Blocks.{block_size}
use Rattle.rs_extent.specs.Extents.{within, IsOnDisk, IsBeside}
use Rattle.rs_body.specs.Blocks.{part}
use Rattle.rs_body.specs.Outside.{Keeps, KeepsMarks, KeptFrom, WritesOutside}
use Rattle.rs_body.proofs.Torn.{IsHeld}

-- The first bytes of an extent on the disk, if there are any, lie on the disk.
pub has_room : (e : Extent) (n size : ℕ) → 0 < n → n ≤ block_size * e.blocks → IsOnDisk e size → block_size * e.first + n ≤ size
has_room e n size some fits inside =
    let last : block_size * (e.first + (e.blocks - 1)) + block_size ≤ size = inside (e.first + (e.blocks - 1)) (within_true e (e.first + (e.blocks - 1)) (omega arith) (omega arith)) in
    omega (arith, last)

-- A piece of some bytes that fits into an extent on the disk lies on the disk.
pub lies : (e : Extent) (at n size : ℕ) → false ≡ (n == 0) → at + n ≤ block_size * e.blocks → IsOnDisk e size → block_size * e.first + at + n ≤ size
lies e at n size some fits inside = let room = has_room e (at + n) size (grind (arith, nat_tests, some)) fits inside in omega (arith, room)

-- A block of a set lies below or above every extent that is disjoint from the set.
pub apart_from : (kept : ℕ → Bool) (e : Extent) → IsBeside kept e → (b : ℕ) → kept b ≡ true → (b < e.first) ⊎ (e.first + e.blocks ≤ b)
apart_from kept e beside b is = outside e b (turned (within e) kept beside b is)

-- Blocks are kept by no change, by two changes in turn, and in a subset.
pub keeps_same : (kept : ℕ → Bool) (bytes : List ℕ) → Keeps kept bytes bytes
keeps_same kept bytes = record { size = refl; same = λ b i is lt. refl }

pub keeps_on : (kept : ℕ → Bool) (a b c : List ℕ) → Keeps kept a b → Keeps kept b c → Keeps kept a c
keeps_on kept a b c first behind = record { size = behind.size ∙ first.size; same = λ k i is lt. behind.same k i is lt ∙ first.same k i is lt }

pub keeps_less : (kept more : ℕ → Bool) → ((b : ℕ) → kept b ≡ true → more b ≡ true) → (a b : List ℕ) → Keeps more a b → Keeps kept a b
keeps_less kept more from a b keeps = record { size = keeps.size; same = λ k i is lt. keeps.same k i (from k is) lt }

-- A list torn only within an extent keeps every set disjoint from it.
pub keeps_torn : (kept : ℕ → Bool) (e : Extent) (at n : ℕ) → IsBeside kept e → at + n ≤ block_size * e.blocks → (old new : List ℕ) → Torn (block_size * e.first + at) n old new → Keeps kept old new
keeps_torn kept e at n beside fits old new torn = record {
  size = torn.size;
  same = λ b i is lt. elim (apart_from kept e beside b is) [
    | inl below ↦ torn_below (block_size * e.first + at) n old new torn (block_size * b + i) (omega arith)
    | inr above ↦ torn_above (block_size * e.first + at) n old new torn (block_size * b + i) (omega arith)
  ];
}

-- A set of places keeps those outside a range that is marked.
marked_below : (set : List Bool) (at n i : ℕ) → at ≤ length set → i < at → get_or (marked set at n) i false ≡ get_or set i false
marked_below set at n i le lt = search (rules, places)

marked_above : (set : List Bool) (at n i : ℕ) → at + n ≤ length set → at + n ≤ i → get_or (marked set at n) i false ≡ get_or set i false
marked_above set at n i le lt = search (rules, places)

keeps_marked : (kept : ℕ → Bool) (e : Extent) (at n : ℕ) → IsBeside kept e → at + n ≤ block_size * e.blocks → (set : List Bool) → block_size * e.first + at + n ≤ length set → KeepsMarks kept set (marked set (block_size * e.first + at) n)
keeps_marked kept e at n beside fits set room = record {
  same = λ b i is lt. elim (apart_from kept e beside b is) [
    | inl below ↦ marked_below set (block_size * e.first + at) n (block_size * b + i) (omega arith) (omega arith)
    | inr above ↦ marked_above set (block_size * e.first + at) n (block_size * b + i) room (omega arith)
  ];
}

-- a run without calls
pub outside_none : (kept : ℕ → Bool) (disk : DiskState) → WritesOutside kept disk disk
outside_none kept disk = record {
  seen = keeps_same kept disk.now.seen;
  marks = record { same = λ b i is lt. refl };
  leaves = started disk (λ _. KeptFrom kept disk.now) (λ image left. (image, left, keeps_same kept image));
}

-- one run after another
pub outside_on : (kept : ℕ → Bool) (old mid new : DiskState) → WritesOutside kept old mid → WritesOutside kept mid new → WritesOutside kept old new
outside_on kept old mid new first behind = record {
  seen = keeps_on kept old.now.seen mid.now.seen new.now.seen first.seen behind.seen;
  marks = record { same = λ b i is lt. behind.marks.same b i is lt ∙ first.marks.same b i is lt };
  leaves = same_goes_on (Keeps kept) (keeps_on kept) first.leaves behind.leaves;
}

-- in a subset
pub outside_less : (kept more : ℕ → Bool) → ((b : ℕ) → kept b ≡ true → more b ≡ true) → (old new : DiskState) → WritesOutside more old new → WritesOutside kept old new
outside_less kept more from old new run = record {
  seen = keeps_less kept more from old.now.seen new.now.seen run.seen;
  marks = record { same = λ b i is lt. run.marks.same b i (from b is) lt };
  leaves = same_weaker (Keeps kept) (Keeps more) (keeps_less kept more from) run.leaves;
}

-- a run that leaves the disk as it is
pub outside_rests : {A : Type 0} (kept : ℕ → Bool) (old new : DiskState) → RunsReading A old new → WritesOutside kept old new
outside_rests kept old new rests = record {
  seen = subst (λ (m : Medium). Keeps kept old.now.seen m.seen) (sym rests.now) (keeps_same kept old.now.seen);
  marks = subst (λ (m : Medium). KeepsMarks kept old.now.unsettled m.unsettled) (sym rests.now) (record { same = λ b i is lt. refl });
  leaves = weaker old new (λ _. IsImage old.now) (λ _. KeptFrom kept old.now) (λ m image left. (image, left, keeps_same kept image)) rests.leaves;
}

-- the marks that one write sets
marks_held : (kept : ℕ → Bool) (e : Extent) (at n : ℕ) (old new : Medium) → IsBeside kept e → at + n ≤ block_size * e.blocks → block_size * e.first + at + n ≤ length old.unsettled
    → IsHeld (block_size * e.first + at) n old new → KeepsMarks kept old.unsettled new.unsettled
marks_held kept e at n old new beside fits room (inl (any, long, is)) =
    subst (λ (m : Medium). KeepsMarks kept old.unsettled m.unsettled) (sym is) (keeps_marked kept e at (length any) beside (omega (arith, fits, long)) old.unsettled (omega (arith, room, long)))
marks_held kept e at n old new beside fits room (inr is) = subst (λ (m : Medium). KeepsMarks kept old.unsettled m.unsettled) (sym is) (record { same = λ b i is lt. refl })

-- one write in an extent, whether it succeeded or not
pub outside_write : {A : Type 0} (kept : ℕ → Bool) (e : Extent) (at n : ℕ) (old new : DiskState) → IsBeside kept e → at + n ≤ block_size * e.blocks → block_size * e.first + at + n ≤ length old.now.unsettled
    → WritesWithin (block_size * e.first + at) n A old new → IsHeld (block_size * e.first + at) n old.now new.now → WritesOutside kept old new
outside_write kept e at n old new beside fits room run held = record {
  seen = keeps_torn kept e at n beside fits old.now.seen new.now.seen run.torn;
  marks = marks_held kept e at n old.now new.now beside fits room held;
  leaves = same_weaker (Keeps kept) (Torn (block_size * e.first + at) n) (keeps_torn kept e at n beside fits) run.leaves;
}

-- A write at a place of an extent keeps the bytes before the place, and the written bytes follow them.
pub piece_follows : (e : Extent) (at : ℕ) (old bytes : List ℕ) → block_size * e.first + at ≤ length old → part e (at + length bytes) (over old (block_size * e.first + at) bytes) ≡ part e at old ++ bytes
piece_follows e at old bytes le =
    let from : ℕ = block_size * e.first + at in
    let rest : List ℕ = drop (from + length bytes) old in
    let front : length (take from old) ≡ from = length-take-le from old le in
    let long : length (part e at old ++ bytes) ≡ at + length bytes =
    omega (arith, length-append (part e at old) bytes, length-take at (drop (block_size * e.first) old), length-drop (block_size * e.first) old) in
    let here : drop (block_size * e.first) (over old from bytes) ≡ part e at old ++ bytes ++ rest =
    drop-append-le (block_size * e.first) (take from old) (bytes ++ rest) (omega (arith, front))
    ∙ ap (λ (l : List ℕ). l ++ (bytes ++ rest)) (drop-take (block_size * e.first) at old) ∙ sym (append_assoc (part e at old) bytes rest) in
    ap (λ (l : List ℕ). take (at + length bytes) l) here ∙ take_at (part e at old ++ bytes) rest (at + length bytes) long

-- The first bytes of an extent in the set stay.
pub part_kept : (kept : ℕ → Bool) (e : Extent) (n : ℕ) → n ≤ block_size * e.blocks → ((b : ℕ) → within e b ≡ true → kept b ≡ true) → (old new : List ℕ) → Keeps kept old new → part e n new ≡ part e n old
part_kept kept e n fits all old new keeps = ext_get_or 0 (part e n new) (part e n old)
    (omega (arith, length-take n (drop (block_size * e.first) new), length-take n (drop (block_size * e.first) old), length-drop (block_size * e.first) new, length-drop (block_size * e.first) old, keeps.size))
    (λ j lt. let below : j < n = omega (arith, lt, length-take n (drop (block_size * e.first) new)) in here j below)
  where
    here : (j : ℕ) → j < n → get_or (part e n new) j 0 ≡ get_or (part e n old) j 0
    here j lt =
        let place : block_size * (e.first + j / block_size) + j % block_size ≡ block_size * e.first + j = omega arith in
        let one = keeps.same (e.first + j / block_size) (j % block_size) (all (e.first + j / block_size) (within_true e (e.first + j / block_size) (omega arith) (omega arith))) (omega arith) in
        let there : get_or new (block_size * e.first + j) 0 ≡ get_or old (block_size * e.first + j) 0 = subst (λ (k : ℕ). get_or new k 0 ≡ get_or old k 0) place one in
        get_or-take n (drop (block_size * e.first) new) j 0 lt ∙ get_or-drop (block_size * e.first) new j 0 ∙ there ∙ sym (get_or-drop (block_size * e.first) old j 0) ∙ sym (get_or-take n (drop (block_size * e.first) old) j 0 lt)

-- So they do in every image of a crash within a run that writes outside the set.
pub image_part_kept : (kept : ℕ → Bool) (e : Extent) (n : ℕ) → n ≤ block_size * e.blocks → ((b : ℕ) → within e b ≡ true → kept b ≡ true) → (old new : DiskState) → WritesOutside kept old new
    → (m : ℕ) (image : List ℕ) → old.calls ≤ m → m ≤ new.calls → IsImageAt new m image → (entry : List ℕ) × IsImage old.now entry × (part e n image ≡ part e n entry)
image_part_kept kept e n fits all old new run m image ge le left =
    let was = run.leaves.each m image ge le left in
    (was.0, was.1, part_kept kept e n fits all was.0 image was.2)
