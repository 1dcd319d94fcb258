-- Extents that are taken one after the other.
use Rattle.std.proofs.Common.{true≢false, ◌≡◌, inl, inr, ℕ, Bool, true, List, [], ◌∷◌, ◌++◌, length, refl, sym, ◌∙◌, ap, arith}
use Rattle.rs_extent.specs.declared.Extent.{Extent}
use Rattle.rs_extent.specs.Blocks.{is_used, IsFree, Sets}
use Rattle.rs_extent.specs.Extents.{within, in_some, AreDisjoint, AreTaken, CanTake}
use Rattle.rs_extent.proofs.Blocks.{free_on_disk}
use Rattle.rs_extent.proofs.Sets.{not_true, not_both, turned, within_is, outside, some_first, in_one, some_front, some_behind, some_of_both, none_front, none_behind, apart_both, apart_front, apart_behind, apart_between}

-- no extent is taken
pub taken_none : (old new : List Bool) → new ≡ old → AreTaken old new []
taken_none old new same = record {
  size = ap length same;
  inside = λ b is. absurd (true≢false (sym is));
  before = λ b is. absurd (true≢false (sym is));
  after = λ b is. absurd (true≢false (sym is));
  others = λ b none. ap (λ used. is_used used b) same;
  apart = tt;
}

-- one extent that was free
pub taken_free : (old new : List Bool) (e : Extent) → IsFree old e → Sets old new e true → AreTaken old new (e ∷ [])
taken_free old new e free sets = record {
  size = sets.size;
  inside = λ b is. let at = within_is e b (in_one e b is) in free_on_disk old b (free b at.0 at.1);
  before = λ b is. let at = within_is e b (in_one e b is) in free b at.0 at.1;
  after = λ b is. let at = within_is e b (in_one e b is) in sets.within b at.0 at.1;
  others = λ b none. elim (outside e b (not_true (within e b) (λ is. not_both (in_some (e ∷ []) b) (some_first e [] b is) none))) [
    | inl low ↦ sets.before b low
    | inr high ↦ sets.after b high
  ];
  apart = (λ b is. refl, tt);
}

-- the later ones after the earlier ones
pub taken_both : (old mid new : List Bool) (xs ys : List Extent) → AreTaken old mid xs → AreTaken mid new ys → AreTaken old new (xs ++ ys)
taken_both old mid new xs ys front behind = record {
  size = behind.size ∙ front.size;
  inside = λ b is. elim (some_of_both xs ys b is) [ inl one ↦ front.inside b one | inr other ↦ omega (arith, behind.inside b other, front.size) ];
  before = λ b is. elim (some_of_both xs ys b is) [ inl one ↦ front.before b one | inr other ↦ sym (front.others b (beside b other)) ∙ behind.before b other ];
  after = λ b is. elim (some_of_both xs ys b is) [ inl one ↦ stays b one | inr other ↦ behind.after b other ];
  others = λ b none. behind.others b (none_behind xs ys b none) ∙ front.others b (none_front xs ys b none);
  apart = apart_both xs ys front.apart behind.apart (turned (in_some ys) (in_some xs) beside);
}
  where
    beside : AreDisjoint (in_some ys) (in_some xs)
    beside b other = not_true (in_some xs b) (λ one. true≢false (sym (front.after b one) ∙ behind.before b other))

    stays : (b : ℕ) → in_some xs b ≡ true → is_used new b ≡ true
    stays b one = behind.others b (turned (in_some ys) (in_some xs) beside b one) ∙ front.after b one

-- the later ones in front of the earlier ones
pub taken_before : (old mid new : List Bool) (xs ys : List Extent) → AreTaken old mid ys → AreTaken mid new xs → AreTaken old new (xs ++ ys)
taken_before old mid new xs ys behind front =
    let all = taken_both old mid new ys xs behind front in
    record {
      size = all.size;
      inside = λ b is. all.inside b (there b is);
      before = λ b is. all.before b (there b is);
      after = λ b is. all.after b (there b is);
      others = λ b none. all.others b (not_true (in_some (ys ++ xs) b) (λ is. not_both (in_some (xs ++ ys) b) (back b is) none));
      apart = apart_both xs ys (apart_behind ys xs all.apart) (apart_front ys xs all.apart) (turned (in_some ys) (in_some xs) (apart_between ys xs all.apart));
    }
  where
    there : (b : ℕ) → in_some (xs ++ ys) b ≡ true → in_some (ys ++ xs) b ≡ true
    there b is = elim (some_of_both xs ys b is) [ inl one ↦ some_behind ys xs b one | inr other ↦ some_front ys xs b other ]

    back : (b : ℕ) → in_some (ys ++ xs) b ≡ true → in_some (xs ++ ys) b ≡ true
    back b is = elim (some_of_both ys xs b is) [ inl one ↦ some_behind xs ys b one | inr other ↦ some_front xs ys b other ]

-- If extents can be taken, the last ones can ..
pub can_behind : (used : List Bool) (xs ys : List Extent) → CanTake used (xs ++ ys) → CanTake used ys
can_behind used xs ys can = record { apart = apart_behind xs ys can.apart; is_free = λ b is. can.is_free b (some_behind xs ys b is) }

-- .. and then the first ones.
pub can_front : (old mid : List Bool) (xs ys : List Extent) → AreTaken old mid ys → CanTake old (xs ++ ys) → CanTake mid xs
can_front old mid xs ys taken can = record {
  apart = apart_front xs ys can.apart;
  is_free = λ b is. taken.others b (apart_between xs ys can.apart b is) ∙ can.is_free b (some_front xs ys b is);
}
