-- Regular states, and the other invariant of every run of commands.
use Rattle.std.specs.Prelude.{ℕ, ◌≡◌, ◌<◌, ◌≤◌, ◌-◌, Bool, true, ◌&&◌, nat_lt, IsTrue, List, [], ◌∷◌}
use Rattle.std.specs.List.{AllByRecursion}
use Rattle.rs_record.specs.declared.change.Change.{Change}
use Rattle.rs_model.specs.declared.value.Entry.{Entry}
use Rattle.rs_model.specs.declared.value.Held.{Held}
use Rattle.rs_model.specs.State.{Source, facts_of, entries}
use Rattle.rs_model.specs.Step.{mirror_of}

-- the entry has the facts of the bytes
abbrev pub IsSound : List ℕ × Held → Type 0
IsSound held = held.1.entry.facts ≡ facts_of held.1.entry.facts.kind held.1.bytes

-- a change, and an entry, of no moment above this one
abbrev pub IsChangeUpTo : ℕ → Change → Type 0
IsChangeUpTo last c = c.moment ≤ last

abbrev pub IsUpTo : ℕ → List ℕ × Entry → Type 0
IsUpTo last e = e.1.moment ≤ last

-- the moments rise strictly, the first of them from above this one
abbrev pub rises_from : ℕ → List Change → Bool
rises_from low [] = true
rises_from low (c ∷ cs) = nat_lt low c.moment && rises_from c.moment cs

-- the moments rise strictly
abbrev pub is_rising : List Change → Bool
is_rising [] = true
is_rising (c ∷ cs) = rises_from c.moment cs

-- No moment of the state is above this one.
pub record AreUpTo (last : ℕ) (s : Source) : Type 0 where
  pub held : AllByRecursion (IsUpTo last) (entries s.held)
  pub changes : AllByRecursion (IsChangeUpTo last) s.changes
  pub listed : AllByRecursion (IsUpTo last) s.listed

-- a change above this moment
abbrev pub IsAfter : ℕ → Change → Type 0
IsAfter moment c = moment < c.moment

-- A regular state. The held resources have the facts of their bytes. The changes rise strictly. The publication is
-- between formatting and the last command, and no moment is above that command's. The kept history begins between
-- formatting and the publication, and all its changes are after its begin. At most as many parts were dropped as there
-- are moments from formatting to the begin. The published list, followed by the changes after it, gives the held
-- resources.
pub record IsRegular (s : Source) : Type 0 where
  pub sound : AllByRecursion IsSound s.held
  pub rising : IsTrue (is_rising s.changes)
  pub start : s.start ≤ s.at
  pub last : s.at ≤ s.last
  pub latest : AreUpTo s.last s
  pub begun : s.start ≤ s.begin
  pub kept : s.begin ≤ s.at
  pub first : s.first ≤ s.begin - s.start
  pub after : AllByRecursion (IsAfter s.begin) s.changes
  pub mirrored : mirror_of s.listed s.at s.changes ≡ entries s.held

-- The other invariant of every run: no listed resource is later than its publication.
pub record IsTimely (s : Source) : Type 0 where
  pub listed : AllByRecursion (IsUpTo s.at) s.listed
