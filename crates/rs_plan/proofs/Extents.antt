-- Taking the lowest run takes one extent, which was free.
use Rattle.std.proofs.Common.{◌≡◌, ℕ, Bool, true, false, List, [], ◌∷◌, ◌++◌, Result, Ok, Err, is_ok, IsOk, if◌then◌else◌, refl, sym, ◌∙◌, ap, subst, arith}
use Rattle.rs_extent.specs.declared.Extent.{Extent}
use Rattle.rs_extent.specs.Blocks.{is_used, IsFree, IsFreeRun, Sets}
use Rattle.rs_extent.specs.Extents.{in_some, CanTake, AreTaken, AreGiven, CanGive}
use Rattle.std.proofs.lemmas.List.{ext_get_or}
use Rattle.rs_plan.proofs.FromBelow.{not_true, within_true, within_is, some_first, in_one, taken_none, taken_free, taken_both, taken_is_given_back}
use Rattle.rs_plan.specs.Room.{Takes, TakesEach, HasNoRun, IsFoundRun}

pub taken_lowest : (old new : List Bool) (n : ℕ) (e : Extent) → Takes old n e new → AreTaken old new (e ∷ [])
taken_lowest old new n e takes =
    taken_free old new e (λ b from until. (takes.lowest (omega (arith, from, until, takes.blocks))).is_free b from until) takes.sets

-- a found run is free
pub found_free : (used : List Bool) (n : ℕ) (e : Extent) → IsFoundRun used n e → IsFree used e
found_free used n e found = λ b from until. (found.lowest (omega (arith, from, until, found.blocks))).is_free b from until

-- so that the set has a run
pub found_somewhere : (used : List Bool) (n : ℕ) (e : Extent) → IsFoundRun used n e → HasNoRun used n → ⊥
found_somewhere used n e found none = none.1 e.first (subst (λ (k : ℕ). IsFreeRun used e.first k) found.blocks (found_free used n e found))

-- and is the lowest run once it is taken
pub takes_found : (used used' : List Bool) (n : ℕ) (e : Extent) → IsFoundRun used n e → Sets used used' e true → Takes used n e used'
takes_found used used' n e found sets = record { blocks = found.blocks; nowhere = found.nowhere; lowest = found.lowest; sets = sets }

-- One extent that is free can be taken.
pub one_can : (used : List Bool) (e : Extent) → IsFree used e → CanTake used (e ∷ [])
one_can used e free = record { apart = (λ b is. refl, tt); is_free = λ b is. let at = within_is e b (in_one e b is) in free b at.0 at.1 }

-- Where it was taken it was set.
pub sets_taken : (old new : List Bool) (e : Extent) → AreTaken old new (e ∷ []) → Sets old new e true
sets_taken old new e taken = record {
  size = taken.size;
  within = λ b from until. taken.after b (some_first e [] b (within_true e b from until));
  before = λ b low. taken.others b (not_true (in_some (e ∷ []) b) (λ is. let at = within_is e b (in_one e b is) in absurd (omega (arith, at.0))));
  after = λ b high. taken.others b (not_true (in_some (e ∷ []) b) (λ is. let at = within_is e b (in_one e b is) in absurd (omega (arith, at.1))));
}

-- Extents that were taken could be taken.
pub could_take : (old new : List Bool) (extents : List Extent) → AreTaken old new extents → CanTake old extents
could_take old new extents taken = record { apart = taken.apart; is_free = taken.before }

-- The set after it is one set.
pub same_taken : (old one other : List Bool) (extents : List Extent) → AreTaken old one extents → AreTaken old other extents → one ≡ other
same_taken old one other extents a b =
    ext_get_or true one other (a.size ∙ sym b.size) (λ i lt. same i (in_some extents i) refl)
  where
    same : (i : ℕ) (t : Bool) → in_some extents i ≡ t → is_used one i ≡ is_used other i
    same i true is = a.after i is ∙ sym (b.after i is)
    same i false is = a.others i is ∙ sym (b.others i is)

-- Bodies that take the lowest runs in turn are taken.
pub taken_each : (used after : List Bool) (ns : List ℕ) (bodies : List Extent) → TakesEach used ns bodies after → AreTaken used after bodies
taken_each used after [] [] takes = taken_none used after takes
taken_each used after [] (e ∷ bodies) takes = absurd takes
taken_each used after (n ∷ ns) [] takes = absurd takes
taken_each used after (n ∷ ns) (e ∷ bodies) takes =
    taken_both used takes.0 after (e ∷ []) bodies (taken_lowest used takes.0 n e takes.1) (taken_each takes.0 after ns bodies takes.2)

-- so does one body that was found
pub takes_one : (used after : List Bool) (n : ℕ) (e : Extent) → IsFoundRun used n e → AreTaken used after (e ∷ []) → TakesEach used (n ∷ []) (e ∷ []) after
takes_one used after n e found taken = (after, takes_found used after n e found (sets_taken used after e taken), refl)

-- and so does an empty list of bodies
pub takes_none : (used after : List Bool) → AreTaken used after [] → TakesEach used [] [] after
takes_none used after taken = same_taken used after used [] taken (taken_none used used refl)

-- Bodies and then some extents are taken, ..
pub taken_all : (old mid after : List Bool) (bodies extents first all : List Extent) → AreTaken old mid bodies → AreTaken mid after extents → first ≡ bodies → all ≡ first ++ extents
    → AreTaken old after all
taken_all old mid after bodies extents first all front behind same is =
    subst (AreTaken old after) (sym (is ∙ ap (λ (l : List Extent). l ++ extents) same)) (taken_both old mid after bodies extents front behind)

-- .. so they can be given back, ..
pub can_give : (old after : List Bool) (all : List Extent) → AreTaken old after all → CanGive after all
can_give old after all taken = record { apart = taken.apart; on_disk = λ b is. omega (arith, taken.inside b is, taken.size); are_used = taken.after }

-- .. which leaves the set as it was.
pub given_back : (old mid after new : List Bool) (bodies extents first all : List Extent) → AreTaken old mid bodies → AreTaken mid after extents → first ≡ bodies → all ≡ first ++ extents
    → AreGiven after new all → new ≡ old
given_back old mid after new bodies extents first all front behind same is given =
    taken_is_given_back old after new all (taken_all old mid after bodies extents first all front behind same is) given

-- the list after a push, where it has room
pub pushed : {A B : Type 0} (r : Result A B) (xs ys zs : List Extent) → IsOk r → zs ≡ (if is_ok r then xs else ys) → zs ≡ xs
pushed (Ok x) xs ys zs ok is = is
pushed (Err e) xs ys zs ok is = cc
