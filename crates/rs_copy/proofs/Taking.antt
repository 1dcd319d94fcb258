-- Runs that are taken one after the other.
use Rattle.std.proofs.Common.{◌≡◌, inl, inr, ℕ, Bool, List, [], ◌∷◌, ◌++◌, refl, ap, subst, arith}
use Rattle.std.specs.Prelude.{All}
use Rattle.std.specs.List.{AllZip}
use Rattle.std.proofs.lemmas.List.Elements.{All-nil, All-cons}
use Rattle.rs_extent.specs.declared.Extent.{Extent}
use Rattle.rs_extent.specs.Extents.{AreTaken}
use Rattle.rs_copy.proofs.FromBelow.{taken_none, taken_both, taken_lowest}
use Rattle.rs_body.specs.Blocks.{blocks_of, IsSized}
use Rattle.rs_record.specs.declared.record.Record.{Record}
use Rattle.rs_image.specs.Reach.{bodies_of}
use Rattle.rs_plan.specs.Room.{HasNoRun, HasNoRoom, Takes, TakesEach}
use Rattle.rs_copy.specs.Laying.{with_extents, IsMoved, records_needed}
use Rattle.rs_copy.proofs.Records.{IsSizedRecord}

-- One more is taken.
pub takes_more : (old mid new : List Bool) (ns : List ℕ) (es : List Extent) (n : ℕ) (e : Extent) → TakesEach old ns es mid → Takes mid n e new → TakesEach old (ns ++ n ∷ []) (es ++ e ∷ []) new
takes_more old mid new [] [] n e taken one = (new, subst (λ (u : List Bool). Takes u n e new) taken one, refl)
takes_more old mid new [] (x ∷ es) n e taken one = absurd taken
takes_more old mid new (k ∷ ns) [] n e taken one = absurd taken
takes_more old mid new (k ∷ ns) (x ∷ es) n e taken one = (taken.0, taken.1, takes_more taken.0 mid new ns es n e taken.2 one)

-- The next one has no run.
pub takes_no_more : (old mid : List Bool) (ns : List ℕ) (es : List Extent) (n : ℕ) (rest : List ℕ) → TakesEach old ns es mid → HasNoRun mid n → HasNoRoom old (ns ++ n ∷ rest)
takes_no_more old mid [] [] n rest taken none = inl (subst (λ (u : List Bool). HasNoRun u n) taken none)
takes_no_more old mid [] (x ∷ es) n rest taken none = absurd taken
takes_no_more old mid (k ∷ ns) [] n rest taken none = absurd taken
takes_no_more old mid (k ∷ ns) (x ∷ es) n rest taken none = inr (taken.0, x, taken.1, takes_no_more taken.0 mid ns es n rest taken.2 none)

-- All of them are taken.
pub all_taken : (old new : List Bool) (ns : List ℕ) (es : List Extent) → TakesEach old ns es new → AreTaken old new es
all_taken old new [] [] taken = taken_none old new taken
all_taken old new [] (e ∷ es) taken = absurd taken
all_taken old new (n ∷ ns) [] taken = absurd taken
all_taken old new (n ∷ ns) (e ∷ es) taken = taken_both old taken.0 new (e ∷ []) es (taken_lowest old taken.0 n e taken.1) (all_taken taken.0 new ns es taken.2)

pub taken_sized : (old new : List Bool) (n : ℕ) (e : Extent) → Takes old (blocks_of n) e new → IsSized e n
taken_sized old new n e taken = (taken.blocks, λ none. taken.nowhere (omega (arith, none)))

-- The bodies of records that took blocks: the records are the same except for their extents, which are of their sizes.
pub given : (old new : List Bool) (rs : List Record) (es : List Extent) → TakesEach old (records_needed rs) es new
    → (bodies_of (with_extents rs es) ≡ es) × AllZip IsMoved rs (with_extents rs es) × All IsSizedRecord (with_extents rs es)
given old new [] [] taken = (refl, tt, All-nil IsSizedRecord)
given old new [] (e ∷ es) taken = absurd taken
given old new (r ∷ rs) [] taken = absurd taken
given old new (r ∷ rs) (e ∷ es) taken =
    let rest = given taken.0 new rs es taken.2 in (
      ap (λ (l : List Extent). e ∷ l) rest.0,
      (refl, rest.1),
      All-cons IsSizedRecord (record r { extent = e }) (with_extents rs es) (taken_sized old taken.0 r.length e taken.1) rest.2,
    )
