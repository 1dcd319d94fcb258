-- The laws that follow from the disk model alone.
use Rattle.std.specs.Prelude.{◌≡◌, ◌↔◌, ◌⊎◌, ℕ, ◌+◌, ◌<◌, ◌≤◌, ◌^◌, Bool, true, List, [], ◌∷◌, length, replicate, get_or, Result, IsErr, OnOk, OnErr}
use Rattle.rs_disk.specs.declared.disk.Fault.{Fault}
use Rattle.rs_disk.specs.Medium.{Medium, DiskState, IsImage, IsImageAt, IsMedium, widened, partly_written, written, resting, image_of}
use Rattle.rs_disk.specs.Calls.{CountsCall, Passes, Stays, Writes, Tears, Settles}
use Rattle.rs_disk.specs.Leaves.{Leaves, TornFrom}
use Rattle.rs_disk.specs.Runs.{GoesNoFurther, Runs, RunsReading, RunsWriting, StopsAtFault, WritesNothing}

-- Where all places are settled, the bytes that a read returns are the one image.
abbrev pub SettledImage : Type 0
SettledImage = (bytes image : List ℕ) → IsImage (resting bytes) image ↔ (image ≡ bytes)

-- Within a write the images are those from before it, with any bytes in its range.
abbrev pub ImagesWithinWrite : Type 0
ImagesWithinWrite = (m : Medium) (size at n : ℕ) → IsMedium size m → at + n ≤ size → (image : List ℕ) → IsImage (widened m at n) image ↔ TornFrom m at n image

-- After a write, or a part of one, the images are those within it.
abbrev pub ImagesAfterWrite : Type 0
ImagesAfterWrite = (m : Medium) (at n : ℕ) (bytes image : List ℕ) → IsImage (partly_written m at n bytes) image ↔ IsImage (widened m at n) image

-- All numbers of a list are bytes.
abbrev pub AreBytes : List ℕ → Type 0
AreBytes bytes = (i : ℕ) → get_or bytes i 0 < 256

-- The image of every choice is an image.
abbrev pub ChoicesAreImages : Type 0
ChoicesAreImages = (m : Medium) (size : ℕ) → IsMedium size m → (choice : List ℕ) → IsImage m (image_of choice m)

-- Every image of bytes is the image of a choice of bytes.
abbrev pub ImagesHaveChoices : Type 0
ImagesHaveChoices = (m : Medium) (size : ℕ) → IsMedium size m → (image : List ℕ) → IsImage m image → AreBytes image → (choice : List ℕ) × AreBytes choice × (image_of choice m ≡ image)

-- A call leaves the images of crashes before it as they were.
abbrev pub PastImagesStay : Type 0
PastImagesStay = (old new : DiskState) (held : Medium) → Passes old new held → old.calls ≤ new.calls → (m : ℕ) (image : List ℕ) → m < old.calls → IsImageAt old m image ↔ IsImageAt new m image

-- For every answer of a write, the images from entry to exit are images of its entry with any bytes in its range.
abbrev pub WriteLeaves : Type 0
WriteLeaves = (old new : DiskState) (at : ℕ) (bytes : List ℕ) (result : Result (Unit {0}) Fault) → CountsCall old new result → IsMedium old.size old.now → at + length bytes ≤ old.size
    → OnOk result (Writes at bytes old new) → OnErr result (Tears at (length bytes) old new) → Leaves old new (λ _. TornFrom old.now at (length bytes))

-- For every answer of a sync, the images from entry to exit are images of its entry.
abbrev pub SyncLeaves : Type 0
SyncLeaves = (old new : DiskState) (result : Result (Unit {0}) Fault) → CountsCall old new result → IsMedium old.size old.now
    → OnOk result (Settles old new) → OnErr result (Stays old new) → Leaves old new (λ _. IsImage old.now)

-- A run of no call leaves P where all images of the disk's content have P.
abbrev pub NoCallLeaves : (ℕ → List ℕ → Type 0) → Type 0
NoCallLeaves P = (disk : DiskState) → ((image : List ℕ) → IsImage disk.now image → P disk.calls image) → Leaves disk disk P

-- One call leaves P where all images within it and all images after it have P.
abbrev pub OneCallLeaves : (ℕ → List ℕ → Type 0) → Type 0
OneCallLeaves P = (old new : DiskState) (held : Medium) → Passes old new held → old.calls ≤ new.calls → new.calls ≤ old.calls + 1
    → ((image : List ℕ) → IsImage held image → P old.calls image) → ((image : List ℕ) → IsImage new.now image → P new.calls image) → Leaves old new P

-- Two runs in turn that both leave P leave it as one run.
abbrev pub RunsGoOn : (ℕ → List ℕ → Type 0) → Type 0
RunsGoOn P = (old mid new : DiskState) → Leaves old mid P → Leaves mid new P → Leaves old new P

-- If a run leaves P, all images of the disk's content at its exit have P.
abbrev pub ExitHas : (ℕ → List ℕ → Type 0) → Type 0
ExitHas P = (old new : DiskState) → Leaves old new P → (image : List ℕ) → IsImage new.now image → P new.calls image

-- A run that leaves P leaves every Q that follows from P.
abbrev pub WeakerIsLeft : (ℕ → List ℕ → Type 0) → (ℕ → List ℕ → Type 0) → Type 0
WeakerIsLeft P Q = (old new : DiskState) → ((m : ℕ) (image : List ℕ) → P m image → Q m image) → Leaves old new P → Leaves old new Q

-- One call is a run: a write or a sync is a run that writes, and a read is a run that changes only the counts.
abbrev pub OneCallRuns : Type 0 → Type 0 → Type 0
OneCallRuns T E = (old new : DiskState) (result : Result T E) → CountsCall old new result → Runs (IsErr result) old new

abbrev pub OneCallWrites : Type 0 → Type 0 → Type 0
OneCallWrites T E = (old new : DiskState) (result : Result T E) → CountsCall old new result → new.honest ≡ old.honest → RunsWriting (IsErr result) old new

abbrev pub OneCallReads : Type 0 → Type 0 → Type 0
OneCallReads T E = (old new : DiskState) (result : Result T E) → CountsCall old new result → Stays old new → RunsReading (IsErr result) old new

-- A sync writes no bytes.
abbrev pub SyncWritesNothing : Type 0 → Type 0
SyncWritesNothing E = (old new : DiskState) (result : Result (Unit {0}) E) → CountsCall old new result → IsMedium old.size old.now
    → OnOk result (Settles old new) → OnErr result (Stays old new) → WritesNothing (IsErr result) old new

-- Two runs in turn are one run, whose answer reports the device where one of theirs does. Runs that stop at a fault
-- join where the second makes no call after a failed one of the first.
abbrev pub RunsJoin : Type 0 → Type 0 → Type 0 → Type 0
RunsJoin A B C = (old mid new : DiskState) → (A → C) → (B → C) → (C → A ⊎ B) → Runs A old mid → Runs B mid new → Runs C old new

abbrev pub WritingJoins : Type 0 → Type 0 → Type 0 → Type 0
WritingJoins A B C = (old mid new : DiskState) → (A → C) → (B → C) → (C → A ⊎ B) → GoesNoFurther old mid new → RunsWriting A old mid → RunsWriting B mid new → RunsWriting C old new

abbrev pub ReadingJoins : Type 0 → Type 0 → Type 0 → Type 0
ReadingJoins A B C = (old mid new : DiskState) → (A → C) → (B → C) → (C → A ⊎ B) → GoesNoFurther old mid new → RunsReading A old mid → RunsReading B mid new → RunsReading C old new

abbrev pub NothingJoins : Type 0 → Type 0 → Type 0 → Type 0
NothingJoins A B C = (old mid new : DiskState) → (A → C) → (B → C) → (C → A ⊎ B) → GoesNoFurther old mid new → WritesNothing A old mid → WritesNothing B mid new → WritesNothing C old new

-- A run that makes a counted call after a failed one does not stop at the fault, for every answer of that call.
abbrev pub GoingOnIsNoStop : Type 0 → Type 0 → Type 0
GoingOnIsNoStop T E = (old mid new : DiskState) (result : Result T E) → old.faults < mid.faults → mid.calls + 1 < 2 ^ 64 → CountsCall mid new result → ¬ StopsAtFault old new

-- eight zero bytes, settled
abbrev pub zeros : Medium
zeros = resting (replicate 8 0)

-- and after a write of 1, 2 and 3 at offset 2
abbrev pub three_written : Medium
three_written = written zeros 2 (1 ∷ 2 ∷ 3 ∷ [])

-- a disk of eight zero bytes after these calls and faults, the last of which failed or did not
abbrev pub called : ℕ → ℕ → Bool → DiskState
called calls faults failed = record { size = 8; calls = calls; faults = faults; last_failed = failed; honest = true; now = zeros; within = λ _. zeros }
