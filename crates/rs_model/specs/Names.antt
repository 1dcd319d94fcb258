-- Maps from names to values: lists of pairs in the ascending order of the names, which are compared byte by byte.
use Rattle.std.specs.Prelude.{◌≡◌, ℕ, ◌<◌, ◌≤◌, Bool, true, ◌&&◌, List, [], ◌∷◌, map, length, Option, Some, None, Result, Ok, Err, slice_get, slice_set, insert, remove}
use Rattle.std.specs.Ordering.{nat_cmp, is_lt}
use Rattle.std.specs.Cmp.Lexicographic.{slice_cmp}
use Rattle.std.specs.declared.cmp.Ordering.{Ordering}
use Rattle.std.specs.declared.cmp.Ordering.TheVariants.{Less, Equal, Greater}

-- how two names compare: by their first bytes that differ, and else the shorter one is less
abbrev pub by_bytes : List ℕ → List ℕ → Ordering
by_bytes = slice_cmp nat_cmp

-- a map: names with their values
abbrev pub Names : Type 0 → Type 0
Names V = List (List ℕ × V)

-- of three values the one for less, for equal or for greater
abbrev pub by_order : {A : Type 0} → Ordering → A → A → A → A
by_order Less a b c = a
by_order Equal a b c = b
by_order Greater a b c = c

-- the value of a name, if it is bound
abbrev pub value_of : {V : Type 0} → List ℕ → Names V → Option V
value_of name [] = None
value_of name (e ∷ m) = by_order (by_bytes name e.0) None (Some e.1) (value_of name m)

-- with the name bound to the value, in its place
abbrev pub bind : {V : Type 0} → List ℕ → V → Names V → Names V
bind name v [] = (name, v) ∷ []
bind name v (e ∷ m) = by_order (by_bytes name e.0) ((name, v) ∷ e ∷ m) ((name, v) ∷ m) (e ∷ bind name v m)

-- without the name, if it is bound
abbrev pub unbind : {V : Type 0} → List ℕ → Names V → Names V
unbind name [] = []
unbind name (e ∷ m) = by_order (by_bytes name e.0) (e ∷ m) m (e ∷ unbind name m)

-- all values changed
abbrev pub map_values : {V W : Type 0} → (V → W) → Names V → Names W
map_values f m = map (λ e. (e.0, f e.1)) m

-- the names strictly rise, from above this one
abbrev pub is_above : {V : Type 0} → List ℕ → Names V → Bool
is_above name [] = true
is_above name (e ∷ m) = is_lt (by_bytes name e.0) && is_above e.0 m

-- the names strictly rise
abbrev pub is_ordered : {V : Type 0} → Names V → Bool
is_ordered [] = true
is_ordered (e ∷ m) = is_above e.0 m

-- the name is bound at place i: there its value is, is replaced and is taken away
pub record IsFoundAt {V : Type 0} (m : Names V) (name : List ℕ) (i : ℕ) : Type 0 where
  pub within : i < length m
  pub value : (e : List ℕ × V) × (slice_get m i ≡ Some e) × (value_of name m ≡ Some e.1)
  pub bound : (v : V) → bind name v m ≡ slice_set m i (name, v)
  pub unbound : unbind name m ≡ remove m i

-- the name is not bound, and place i is where binding it inserts it
pub record IsMissingAt {V : Type 0} (m : Names V) (name : List ℕ) (i : ℕ) : Type 0 where
  pub within : i ≤ length m
  pub value : value_of name m ≡ None
  pub bound : (v : V) → bind name v m ≡ insert m i (name, v)
  pub unbound : unbind name m ≡ m

-- the place of a name, or else the place that it would get
abbrev pub IsPlaceOf : {V : Type 0} → Names V → List ℕ → Result ℕ ℕ → Type 0
IsPlaceOf m name (Ok i) = IsFoundAt m name i
IsPlaceOf m name (Err i) = IsMissingAt m name i
