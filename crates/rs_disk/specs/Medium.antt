-- The content of a disk, and the images that a crash may leave of it.
use Rattle.std.specs.Prelude.{◌≡◌, ℕ, ◌+◌, ◌%◌, ◌<◌, ◌≤◌, Bool, true, false, List, [], ◌∷◌, ◌++◌, length, take, drop, replicate, get_or}

-- The content of a disk: the bytes that a read returns, the settled bytes, and for every place whether it is unsettled.
pub record Medium : Type 0 where
  pub seen : List ℕ
  pub settled : List ℕ
  pub unsettled : List Bool

-- An image that a crash may leave: any list of the disk's size that equals the settled bytes at every place that is not
-- unsettled.
pub record IsImage (m : Medium) (image : List ℕ) : Type 0 where
  pub size : length image ≡ length m.settled
  pub same : (i : ℕ) → i < length m.settled → get_or m.unsettled i false ≡ false → get_or image i 0 ≡ get_or m.settled i 0

-- The parts have one size, and the bytes that a read returns are an image.
pub record IsMedium (size : ℕ) (m : Medium) : Type 0 where
  pub settled : length m.settled ≡ size
  pub unsettled : length m.unsettled ≡ size
  pub image : IsImage m m.seen

-- the list with these bytes at this offset in place of its own
abbrev pub over : List ℕ → ℕ → List ℕ → List ℕ
over old at bytes = take at old ++ (bytes ++ drop (at + length bytes) old)

-- the set of places with n more, from this offset on
abbrev pub marked : List Bool → ℕ → ℕ → List Bool
marked set at n = take at set ++ (replicate n true ++ drop (at + n) set)

-- within a write of n places: its range is unsettled, and it has put no byte yet
abbrev pub widened : Medium → ℕ → ℕ → Medium
widened m at n = record { seen = m.seen; settled = m.settled; unsettled = marked m.unsettled at n }

-- after a write of n places that put these bytes at their front: its range is unsettled
abbrev pub partly_written : Medium → ℕ → ℕ → List ℕ → Medium
partly_written m at n bytes = record { seen = over m.seen at bytes; settled = m.settled; unsettled = marked m.unsettled at n }

-- after a write of these bytes: a read returns them, and their range is unsettled
abbrev pub written : Medium → ℕ → List ℕ → Medium
written m at bytes = partly_written m at (length bytes) bytes

-- these bytes, all settled
abbrev pub resting : List ℕ → Medium
resting bytes = record { seen = bytes; settled = bytes; unsettled = replicate (length bytes) false }

-- A disk: its size in bytes, the number of counted calls, the number of those that failed, whether the last one failed
-- (false before any), whether the disk has followed the model so far, its content now, and its content within the call
-- after m counted ones, for every m below the calls.
pub record DiskState : Type 0 where
  pub size : ℕ
  pub calls : ℕ
  pub faults : ℕ
  pub last_failed : Bool
  pub honest : Bool
  pub now : Medium
  pub within : ℕ → Medium

-- An image of a crash after m counted calls and before the next has ended: an image of the content within that next
-- call, or where no next call has begun, of the content now.
pub record IsImageAt (disk : DiskState) (m : ℕ) (image : List ℕ) : Type 0 where
  pub past : m < disk.calls → IsImage (disk.within m) image
  pub now : disk.calls ≤ m → IsImage disk.now image

-- the settled bytes, where the unsettled places hold the choice's bytes in turn, from its byte k on and round again at
-- its end
abbrev pub filled : List ℕ → ℕ → List ℕ → List Bool → List ℕ
filled choice k (byte ∷ bytes) (true ∷ set) = get_or choice (k % length choice) 0 ∷ filled choice (k + 1) bytes set
filled choice k (byte ∷ bytes) (false ∷ set) = byte ∷ filled choice k bytes set
filled choice k bytes set = []

-- the image of a choice; with an empty choice, the bytes that a read returns
abbrev pub image_of : List ℕ → Medium → List ℕ
image_of [] m = m.seen
image_of (c ∷ choice) m = filled (c ∷ choice) 0 m.settled m.unsettled
