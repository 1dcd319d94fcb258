-- Consequences of the definitions of the slots alone.
use Rattle.std.specs.Prelude.{◌≡◌, ℕ, ◌<◌, false, List, ◌∷◌, ◌++◌, take, get_or, Some, None}
use Rattle.rs_disk.specs.Medium.{Medium, IsImage, IsMedium}
use Rattle.rs_commit.specs.declared.root.Root.{Root}
use Rattle.rs_commit.specs.Slots.{Standing, current, OpensTo, root_in, payload_of, IsLawfulRoot}
use Rattle.rs_commit.specs.Commit.{IsReady}
use Rattle.rs_commit.specs.Format.{formatted, fresh, AreShut}

-- An image opens to at most one root.
abbrev pub OpensOnce : Type 0
OpensOnce = (image : List ℕ) (a b : Root) → OpensTo a image → OpensTo b image → a ≡ b

-- The state of the slots depends on the first 1,024 bytes alone.
abbrev pub CurrentStays : Type 0
CurrentStays = (one two : List ℕ) → take 1024 one ≡ take 1024 two → current one ≡ current two

abbrev pub OpensStays : Type 0
OpensStays = (one two : List ℕ) (root : Root) → take 1024 one ≡ take 1024 two → OpensTo root one → OpensTo root two

-- Ready slots stay ready where blocks 0 and 1 keep the bytes that a read gives, and keep which of them are settled.
abbrev pub ReadyStays : Type 0
ReadyStays = (slots : Standing) (old new : Medium) → take 1024 new.seen ≡ take 1024 old.seen
    → ((i : ℕ) → i < 1024 → get_or new.unsettled i false ≡ get_or old.unsettled i false) → IsReady slots old → IsReady slots new

-- Where slots are ready, they have the same state in every image, which therefore opens to their root.
abbrev pub ReadyStands : Type 0
ReadyStands = (slots : Standing) (m : Medium) (size : ℕ) → IsMedium size m → IsReady slots m → (image : List ℕ) → IsImage m image → current image ≡ Some slots

abbrev pub ReadyOpens : Type 0
ReadyOpens = (slots : Standing) (m : Medium) (size : ℕ) → IsMedium size m → IsReady slots m → (image : List ℕ) → IsImage m image → OpensTo slots.root image

-- The bytes written for a root read as this root, including its version.
abbrev pub PayloadsRead : Type 0
PayloadsRead = (root : Root) (gate : ℕ) (rest : List ℕ) → IsLawfulRoot root → root_in (gate ∷ (payload_of root ++ rest)) ≡ root

-- Slots that were made have the state as made, for any bytes after them.
abbrev pub FormattedStands : Type 0
FormattedStands = (root : Root) (rest : List ℕ) → IsLawfulRoot root → current (formatted root ++ rest) ≡ Some (fresh root)

-- Where both slots are closed, every image opens to no root.
abbrev pub ShutTellsNone : Type 0
ShutTellsNone = (m : Medium) (size : ℕ) → IsMedium size m → AreShut m → (image : List ℕ) → IsImage m image → current image ≡ None

-- They stay so where blocks 0 and 1 keep the bytes that a read gives, and keep which of them are settled.
abbrev pub ShutStays : Type 0
ShutStays = (old new : Medium) → take 1024 new.seen ≡ take 1024 old.seen → ((i : ℕ) → i < 1024 → get_or new.unsettled i false ≡ get_or old.unsettled i false)
    → AreShut old → AreShut new
