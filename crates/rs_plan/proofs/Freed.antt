-- The blocks that a root reaches after parts of the old ones were freed and others were written.
use Rattle.std.proofs.Common.{true≢false, ◌≡◌, ◌⊎◌, inl, inr, ℕ, ◌≤◌, Bool, true, false, ◌&&◌, ◌||◌, not, nat_lt, List, [], ◌∷◌, ◌++◌, refl, sym, ap, arith}
use Rattle.std.specs.Cmp.{first_so, second_so}
use Rattle.std.proofs.lemmas.Bool.{and_from, or_left, or_right}
use Rattle.std.proofs.lemmas.Bool.Decides.{nat_tests}
use Rattle.rs_extent.specs.declared.Extent.{Extent}
use Rattle.rs_extent.specs.Extents.{in_some, AreApart, IsSubset}
use Rattle.rs_plan.proofs.FromBelow.{not_true, not_both, narrowed, some_of_both}
use Rattle.rs_plan.proofs.Separate.{joined, AreSeparate, all_new, apart_again, five_of, a_in, b_in, c_in, d_in, e_in, body_new, pa_new, pb_new, d_new}

-- tests that hold where the other does are the same
same_tests : (s t : Bool) → (s ≡ true → t ≡ true) → (t ≡ true → s ≡ true) → s ≡ t
same_tests true t to from = sym (to refl)
same_tests false true to from = from refl
same_tests false false to from = refl

or_split : (a b : Bool) → (a || b) ≡ true → (a ≡ true) ⊎ (b ≡ true)
or_split true b is = inl refl
or_split false b is = inr is

-- A part after a command: some of its blocks are removed, the others stay, and new blocks are written.
pub record PartTurns (old gone new made : List Extent) : Type 0 where
  pub reached : IsSubset (in_some gone) (in_some old)
  pub apart : AreApart gone
  pub comes : (k : ℕ) → in_some new k ≡ true → ((in_some old k ≡ true) × (in_some gone k ≡ false)) ⊎ (in_some made k ≡ true)
  pub stays : (k : ℕ) → in_some old k ≡ true → (in_some gone k ≡ true) ⊎ (in_some new k ≡ true)
  pub written : IsSubset (in_some made) (in_some new)

-- The pages of the catalogue and those that are only published, after a command: every page that stays is one or the
-- other.
pub record PagesTurn (a c ga gc a' c' pa : List Extent) : Type 0 where
  pub reached_a : IsSubset (in_some ga) (in_some a)
  pub reached_c : IsSubset (in_some gc) (in_some c)
  pub apart_a : AreApart ga
  pub apart_c : AreApart gc
  pub comes_a : (k : ℕ) → in_some a' k ≡ true → ((in_some a k ≡ true) × (in_some ga k ≡ false)) ⊎ (in_some pa k ≡ true)
  pub comes_c : (k : ℕ) → in_some c' k ≡ true
      → ((in_some a k ≡ true) × (in_some ga k ≡ false)) ⊎ ((in_some c k ≡ true) × (in_some gc k ≡ false))
  pub stays_a : (k : ℕ) → in_some a k ≡ true → (in_some ga k ≡ true) ⊎ ((in_some a' k ≡ true) ⊎ (in_some c' k ≡ true))
  pub stays_c : (k : ℕ) → in_some c k ≡ true → (in_some gc k ≡ true) ⊎ ((in_some a' k ≡ true) ⊎ (in_some c' k ≡ true))
  pub written : IsSubset (in_some pa) (in_some a')

-- The blocks of the next root are those of the old one, less the freed ones, and the new ones.
assembled : (low old freed next new : Bool) → (freed ≡ true → low ≡ false) → (next ≡ true → ((old ≡ true) × (freed ≡ false)) ⊎ (new ≡ true))
    → (old ≡ true → freed ≡ false → next ≡ true) → (new ≡ true → next ≡ true) → (low || next) ≡ (((low || old) && not freed) || new)
assembled true old true next new inside to stays made = absurd (true≢false (inside refl))
assembled true old false next new inside to stays made = refl
assembled false old freed next new inside to stays made =
    same_tests next ((old && not freed) || new)
    (λ is. elim (to is) [
      | inl kept ↦ or_left (old && not freed) new (and_from old (not freed) kept.0 (ap not kept.1))
      | inr is_new ↦ or_right (old && not freed) new is_new
    ])
    (λ is. elim (or_split (old && not freed) new is) [
      | inl kept ↦ stays (first_so old (not freed) kept) (still freed (second_so old (not freed) kept))
      | inr is_new ↦ made is_new
    ])
  where
    still : (t : Bool) → not t ≡ true → t ≡ false
    still true h = sym h
    still false h = refl

module _ (d d' : Extent) (made_bodies a b c e ga gb gc ge a' b' c' e' pa pb : List Extent) (was : AreSeparate d a b c e)
    (pages : PagesTurn a c ga gc a' c' pa) (changes : PartTurns b gb b' pb) (bodies : PartTurns e ge e' made_bodies) where
  -- two parts that are freed are apart
  pub freed_apart : AreApart (joined d ga gb gc ge)
  freed_apart =
      apart_again d ga gb gc ge (record {
        in_a = pages.apart_a;
        in_b = changes.apart;
        in_c = pages.apart_c;
        in_e = bodies.apart;
        da = narrowed (in_some (d ∷ [])) (in_some (d ∷ [])) (in_some ga) (in_some a) (λ k is. is) pages.reached_a was.da;
        db = narrowed (in_some (d ∷ [])) (in_some (d ∷ [])) (in_some gb) (in_some b) (λ k is. is) changes.reached was.db;
        dc = narrowed (in_some (d ∷ [])) (in_some (d ∷ [])) (in_some gc) (in_some c) (λ k is. is) pages.reached_c was.dc;
        de = narrowed (in_some (d ∷ [])) (in_some (d ∷ [])) (in_some ge) (in_some e) (λ k is. is) bodies.reached was.de;
        ab = narrowed (in_some ga) (in_some a) (in_some gb) (in_some b) pages.reached_a changes.reached was.ab;
        ac = narrowed (in_some ga) (in_some a) (in_some gc) (in_some c) pages.reached_a pages.reached_c was.ac;
        ae = narrowed (in_some ga) (in_some a) (in_some ge) (in_some e) pages.reached_a bodies.reached was.ae;
        bc = narrowed (in_some gb) (in_some b) (in_some gc) (in_some c) changes.reached pages.reached_c was.bc;
        be = narrowed (in_some gb) (in_some b) (in_some ge) (in_some e) changes.reached bodies.reached was.be;
        ce = narrowed (in_some gc) (in_some c) (in_some ge) (in_some e) pages.reached_c bodies.reached was.ce;
      })

  -- the freed blocks were reached
  pub freed_reached : IsSubset (in_some (joined d ga gb gc ge)) (in_some (joined d a b c e))
  freed_reached k is =
      five_of d ga gb gc ge (in_some (joined d a b c e) k ≡ true) k is (d_in d a b c e k) (λ h. a_in d a b c e k (pages.reached_a k h))
      (λ h. b_in d a b c e k (changes.reached k h)) (λ h. c_in d a b c e k (pages.reached_c k h)) (λ h. e_in d a b c e k (bodies.reached k h))

  -- A block of a part is freed only where it is removed from that part.
  left_a : (k : ℕ) → in_some a k ≡ true → in_some ga k ≡ false → in_some (joined d ga gb gc ge) k ≡ false
  left_a k here none = not_true (in_some (joined d ga gb gc ge) k) (λ is. five_of d ga gb gc ge ⊥ k is
      (λ h. not_both (in_some a k) here (was.da k h)) (λ h. not_both (in_some ga k) h none) (λ h. not_both (in_some b k) (changes.reached k h) (was.ab k here))
      (λ h. not_both (in_some c k) (pages.reached_c k h) (was.ac k here)) (λ h. not_both (in_some e k) (bodies.reached k h) (was.ae k here)))

  left_b : (k : ℕ) → in_some b k ≡ true → in_some gb k ≡ false → in_some (joined d ga gb gc ge) k ≡ false
  left_b k here none = not_true (in_some (joined d ga gb gc ge) k) (λ is. five_of d ga gb gc ge ⊥ k is
      (λ h. not_both (in_some b k) here (was.db k h)) (λ h. not_both (in_some b k) here (was.ab k (pages.reached_a k h))) (λ h. not_both (in_some gb k) h none)
      (λ h. not_both (in_some c k) (pages.reached_c k h) (was.bc k here)) (λ h. not_both (in_some e k) (bodies.reached k h) (was.be k here)))

  left_c : (k : ℕ) → in_some c k ≡ true → in_some gc k ≡ false → in_some (joined d ga gb gc ge) k ≡ false
  left_c k here none = not_true (in_some (joined d ga gb gc ge) k) (λ is. five_of d ga gb gc ge ⊥ k is
      (λ h. not_both (in_some c k) here (was.dc k h)) (λ h. not_both (in_some c k) here (was.ac k (pages.reached_a k h)))
      (λ h. not_both (in_some c k) here (was.bc k (changes.reached k h))) (λ h. not_both (in_some gc k) h none)
      (λ h. not_both (in_some e k) (bodies.reached k h) (was.ce k here)))

  left_e : (k : ℕ) → in_some e k ≡ true → in_some ge k ≡ false → in_some (joined d ga gb gc ge) k ≡ false
  left_e k here none = not_true (in_some (joined d ga gb gc ge) k) (λ is. five_of d ga gb gc ge ⊥ k is
      (λ h. not_both (in_some e k) here (was.de k h)) (λ h. not_both (in_some e k) here (was.ae k (pages.reached_a k h)))
      (λ h. not_both (in_some e k) here (was.be k (changes.reached k h))) (λ h. not_both (in_some e k) here (was.ce k (pages.reached_c k h)))
      (λ h. not_both (in_some ge k) h none))

  abbrev new : List Extent
  new = all_new made_bodies pa pb d'

  abbrev IsLeftOrNew : ℕ → Type 0
  IsLeftOrNew k = ((in_some (joined d a b c e) k ≡ true) × (in_some (joined d ga gb gc ge) k ≡ false)) ⊎ (in_some new k ≡ true)

  -- the blocks that the next root reaches are left or new
  to : (k : ℕ) → in_some (joined d' a' b' c' e') k ≡ true → IsLeftOrNew k
  to k is =
      five_of d' a' b' c' e' (IsLeftOrNew k) k is (λ h. inr (d_new made_bodies pa pb d' k h))
      (λ h. elim (pages.comes_a k h) [ inl old ↦ inl (a_in d a b c e k old.0, left_a k old.0 old.1) | inr made ↦ inr (pa_new made_bodies pa pb d' k made) ])
      (λ h. elim (changes.comes k h) [ inl old ↦ inl (b_in d a b c e k old.0, left_b k old.0 old.1) | inr made ↦ inr (pb_new made_bodies pa pb d' k made) ])
      (λ h. elim (pages.comes_c k h) [
        | inl old ↦ inl (a_in d a b c e k old.0, left_a k old.0 old.1)
        | inr old ↦ inl (c_in d a b c e k old.0, left_c k old.0 old.1)
      ])
      (λ h. elim (bodies.comes k h) [ inl old ↦ inl (e_in d a b c e k old.0, left_e k old.0 old.1) | inr made ↦ inr (body_new made_bodies pa pb d' k made) ])

  -- a block that is freed is not left
  not_left : (k : ℕ) → in_some (joined d ga gb gc ge) k ≡ false → in_some (joined d ga gb gc ge) k ≡ true → in_some (joined d' a' b' c' e') k ≡ true
  not_left k none is = absurd (not_both (in_some (joined d ga gb gc ge) k) is none)

  shown : (k : ℕ) → (in_some a' k ≡ true) ⊎ (in_some c' k ≡ true) → in_some (joined d' a' b' c' e') k ≡ true
  shown k is = elim is [ inl here ↦ a_in d' a' b' c' e' k here | inr there ↦ c_in d' a' b' c' e' k there ]

  -- the blocks that are left are reached
  stays : (k : ℕ) → in_some (joined d a b c e) k ≡ true → in_some (joined d ga gb gc ge) k ≡ false → in_some (joined d' a' b' c' e') k ≡ true
  stays k is none =
      five_of d a b c e (in_some (joined d' a' b' c' e') k ≡ true) k is (λ h. not_left k none (d_in d ga gb gc ge k h))
      (λ h. elim (pages.stays_a k h) [ inl gone ↦ not_left k none (a_in d ga gb gc ge k gone) | inr left ↦ shown k left ])
      (λ h. elim (changes.stays k h) [ inl gone ↦ not_left k none (b_in d ga gb gc ge k gone) | inr left ↦ b_in d' a' b' c' e' k left ])
      (λ h. elim (pages.stays_c k h) [ inl gone ↦ not_left k none (c_in d ga gb gc ge k gone) | inr left ↦ shown k left ])
      (λ h. elim (bodies.stays k h) [ inl gone ↦ not_left k none (e_in d ga gb gc ge k gone) | inr left ↦ e_in d' a' b' c' e' k left ])

  -- and so are the new blocks
  made : (k : ℕ) → in_some new k ≡ true → in_some (joined d' a' b' c' e') k ≡ true
  made k is = elim (some_of_both (made_bodies ++ pa ++ pb) (d' ∷ []) k is) [
    | inr last ↦ d_in d' a' b' c' e' k last
    | inl three ↦ elim (some_of_both (made_bodies ++ pa) pb k three) [
      | inr third ↦ b_in d' a' b' c' e' k (changes.written k third)
      | inl two ↦ elim (some_of_both made_bodies pa k two) [
        | inr second ↦ a_in d' a' b' c' e' k (pages.written k second)
        | inl first ↦ e_in d' a' b' c' e' k (bodies.written k first)
      ]
    ]
  ]

  not_low : (k : ℕ) → 2 ≤ k → nat_lt k 2 ≡ false
  not_low k high = grind (arith, nat_tests)

  -- The next root reaches the blocks that the old one reached, less the freed ones, and the new blocks.
  pub next_reaches : ((k : ℕ) → in_some (joined d a b c e) k ≡ true → 2 ≤ k) → (k : ℕ)
      → (nat_lt k 2 || in_some (joined d' a' b' c' e') k)
      ≡ (((nat_lt k 2 || in_some (joined d a b c e) k) && not (in_some (joined d ga gb gc ge) k)) || in_some new k)
  next_reaches high k =
      assembled (nat_lt k 2) (in_some (joined d a b c e) k) (in_some (joined d ga gb gc ge) k) (in_some (joined d' a' b' c' e') k) (in_some new k)
      (λ is. not_low k (high k (freed_reached k is))) (to k) (stays k) (made k)
