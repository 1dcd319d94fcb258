-- The parts of the blocks that a root reaches, apart from one another: before a command and after it.
use Rattle.std.proofs.Common.{true≢false, ◌≡◌, ◌⊎◌, inl, inr, ℕ, Bool, true, false, List, [], ◌∷◌, ◌++◌, refl, sym}
use Rattle.rs_extent.specs.declared.Extent.{Extent}
use Rattle.rs_extent.specs.Extents.{in_some, AreApart, AreDisjoint, IsSubset}
use Rattle.rs_plan.proofs.FromBelow.{some_first, not_true, not_both, turned, narrowed, some_front, some_behind, some_of_both, apart_both, apart_front, apart_behind, apart_between}

-- the directory, the catalogue pages, the change pages, the published pages and the bodies
abbrev pub joined : Extent → List Extent → List Extent → List Extent → List Extent → List Extent
joined d a b c e = d ∷ a ++ b ++ c ++ e

-- the extents of every part but the directory are apart, and any two parts are disjoint
pub record AreSeparate (d : Extent) (a b c e : List Extent) : Type 0 where
  pub in_a : AreApart a
  pub in_b : AreApart b
  pub in_c : AreApart c
  pub in_e : AreApart e
  pub da : AreDisjoint (in_some (d ∷ [])) (in_some a)
  pub db : AreDisjoint (in_some (d ∷ [])) (in_some b)
  pub dc : AreDisjoint (in_some (d ∷ [])) (in_some c)
  pub de : AreDisjoint (in_some (d ∷ [])) (in_some e)
  pub ab : AreDisjoint (in_some a) (in_some b)
  pub ac : AreDisjoint (in_some a) (in_some c)
  pub ae : AreDisjoint (in_some a) (in_some e)
  pub bc : AreDisjoint (in_some b) (in_some c)
  pub be : AreDisjoint (in_some b) (in_some e)
  pub ce : AreDisjoint (in_some c) (in_some e)

-- a set that is disjoint from two lists is disjoint from the joined list
both : (xs ys : List Extent) (other : ℕ → Bool) → AreDisjoint (in_some xs) other → AreDisjoint (in_some ys) other → AreDisjoint (in_some (xs ++ ys)) other
both xs ys other one two b is = elim (some_of_both xs ys b is) [ inl front ↦ one b front | inr behind ↦ two b behind ]

front : (xs ys : List Extent) (other : ℕ → Bool) → AreDisjoint (in_some (xs ++ ys)) other → AreDisjoint (in_some xs) other
front xs ys other h b is = h b (some_front xs ys b is)

behind : (xs ys : List Extent) (other : ℕ → Bool) → AreDisjoint (in_some (xs ++ ys)) other → AreDisjoint (in_some ys) other
behind xs ys other h b is = h b (some_behind xs ys b is)

pub separated : (d : Extent) (a b c e : List Extent) → AreApart (joined d a b c e) → AreSeparate d a b c e
separated d a b c e apart =
    let three = apart_front (d ∷ a ++ b ++ c) e apart in
    let two = apart_front (d ∷ a ++ b) c three in
    let one = apart_front (d ∷ a) b two in
    let last = apart_between (d ∷ a ++ b ++ c) e apart in
    let third = apart_between (d ∷ a ++ b) c three in
    let second = apart_between (d ∷ a) b two in
    let last_two = front (d ∷ a ++ b) c (in_some e) last in
    let last_one = front (d ∷ a) b (in_some e) last_two in
    let third_one = front (d ∷ a) b (in_some c) third in
    record {
      in_a = one.1;
      in_b = apart_behind (d ∷ a) b two;
      in_c = apart_behind (d ∷ a ++ b) c three;
      in_e = apart_behind (d ∷ a ++ b ++ c) e apart;
      da = apart_between (d ∷ []) a one;
      db = front (d ∷ []) a (in_some b) second;
      dc = front (d ∷ []) a (in_some c) third_one;
      de = front (d ∷ []) a (in_some e) last_one;
      ab = behind (d ∷ []) a (in_some b) second;
      ac = behind (d ∷ []) a (in_some c) third_one;
      ae = behind (d ∷ []) a (in_some e) last_one;
      bc = behind (d ∷ a) b (in_some c) third;
      be = behind (d ∷ a) b (in_some e) last_two;
      ce = behind (d ∷ a ++ b) c (in_some e) last;
    }

pub apart_again : (d : Extent) (a b c e : List Extent) → AreSeparate d a b c e → AreApart (joined d a b c e)
apart_again d a b c e h =
    let one : AreApart (d ∷ a) = ((λ k here. h.da k (some_first d [] k here)), h.in_a) in
    let two = apart_both (d ∷ a) b one h.in_b (both (d ∷ []) a (in_some b) h.db h.ab) in
    let three = apart_both (d ∷ a ++ b) c two h.in_c (both (d ∷ a) b (in_some c) (both (d ∷ []) a (in_some c) h.dc h.ac) h.bc) in
    apart_both (d ∷ a ++ b ++ c) e three h.in_e
    (both (d ∷ a ++ b) c (in_some e) (both (d ∷ a) b (in_some e) (both (d ∷ []) a (in_some e) h.de h.ae) h.be) h.ce)

-- every block of the joined parts is in one of the parts
pub five_of : (d : Extent) (a b c e : List Extent) (P : Type 0) (k : ℕ) → in_some (joined d a b c e) k ≡ true → (in_some (d ∷ []) k ≡ true → P) → (in_some a k ≡ true → P)
    → (in_some b k ≡ true → P) → (in_some c k ≡ true → P) → (in_some e k ≡ true → P) → P
five_of d a b c e P k is of_d of_a of_b of_c of_e = elim (some_of_both (d ∷ a ++ b ++ c) e k is) [
  | inr last ↦ of_e last
  | inl three ↦ elim (some_of_both (d ∷ a ++ b) c k three) [
    | inr third ↦ of_c third
    | inl two ↦ elim (some_of_both (d ∷ a) b k two) [
      | inr second ↦ of_b second
      | inl one ↦ elim (some_of_both (d ∷ []) a k one) [ inl here ↦ of_d here | inr there ↦ of_a there ]
    ]
  ]
]

-- and every part is in the whole
pub d_in : (d : Extent) (a b c e : List Extent) → IsSubset (in_some (d ∷ [])) (in_some (joined d a b c e))
d_in d a b c e k is = some_front (d ∷ a ++ b ++ c) e k (some_front (d ∷ a ++ b) c k (some_front (d ∷ a) b k (some_front (d ∷ []) a k is)))

pub a_in : (d : Extent) (a b c e : List Extent) → IsSubset (in_some a) (in_some (joined d a b c e))
a_in d a b c e k is = some_front (d ∷ a ++ b ++ c) e k (some_front (d ∷ a ++ b) c k (some_front (d ∷ a) b k (some_behind (d ∷ []) a k is)))

pub b_in : (d : Extent) (a b c e : List Extent) → IsSubset (in_some b) (in_some (joined d a b c e))
b_in d a b c e k is = some_front (d ∷ a ++ b ++ c) e k (some_front (d ∷ a ++ b) c k (some_behind (d ∷ a) b k is))

pub c_in : (d : Extent) (a b c e : List Extent) → IsSubset (in_some c) (in_some (joined d a b c e))
c_in d a b c e k is = some_front (d ∷ a ++ b ++ c) e k (some_behind (d ∷ a ++ b) c k is)

pub e_in : (d : Extent) (a b c e : List Extent) → IsSubset (in_some e) (in_some (joined d a b c e))
e_in d a b c e k is = some_behind (d ∷ a ++ b ++ c) e k is

-- A list of extents whose blocks are old ones, which are kept, or new ones, which are not.
pub record IsMixed (kept : ℕ → Bool) (xs : List Extent) (old new : ℕ → Bool) : Type 0 where
  pub comes : (b : ℕ) → in_some xs b ≡ true → (old b ≡ true) ⊎ (new b ≡ true)
  pub olds : IsSubset old kept
  pub news : (b : ℕ) → new b ≡ true → kept b ≡ false

-- no block at all
abbrev pub none : ℕ → Bool
none b = false

pub none_left : (other : ℕ → Bool) → AreDisjoint none other
none_left other b is = absurd (true≢false (sym is))

pub none_right : (other : ℕ → Bool) → AreDisjoint other none
none_right other b is = refl

pub mixed_apart : (kept : ℕ → Bool) (xs ys : List Extent) (old new old' new' : ℕ → Bool) → IsMixed kept xs old new → IsMixed kept ys old' new'
    → AreDisjoint old old' → AreDisjoint new new' → AreDisjoint (in_some xs) (in_some ys)
mixed_apart kept xs ys old new old' new' one other olds news b is = not_true (in_some ys b) (λ is'. elim (one.comes b is) [
  | inl o ↦ elim (other.comes b is') [ inl o' ↦ not_both (old' b) o' (olds b o) | inr n' ↦ not_both (kept b) (one.olds b o) (other.news b n') ]
  | inr n ↦ elim (other.comes b is') [ inl o' ↦ not_both (kept b) (other.olds b o') (one.news b n) | inr n' ↦ not_both (new' b) n' (news b n) ]
])

-- The written blocks: bodies, catalogue pages, change pages and a directory. Every part is in the whole.
module _ (bodies pa pb : List Extent) (d : Extent) where
  abbrev pub all_new : List Extent
  all_new = bodies ++ pa ++ pb ++ d ∷ []

  pub body_new : IsSubset (in_some bodies) (in_some all_new)
  body_new k is = some_front (bodies ++ pa ++ pb) (d ∷ []) k (some_front (bodies ++ pa) pb k (some_front bodies pa k is))

  pub pa_new : IsSubset (in_some pa) (in_some all_new)
  pa_new k is = some_front (bodies ++ pa ++ pb) (d ∷ []) k (some_front (bodies ++ pa) pb k (some_behind bodies pa k is))

  pub pb_new : IsSubset (in_some pb) (in_some all_new)
  pb_new k is = some_front (bodies ++ pa ++ pb) (d ∷ []) k (some_behind (bodies ++ pa) pb k is)

  pub d_new : IsSubset (in_some (d ∷ [])) (in_some all_new)
  d_new k is = some_behind (bodies ++ pa ++ pb) (d ∷ []) k is

-- It is in free blocks, and its parts are apart from one another.
pub record AreNew (kept : ℕ → Bool) (bodies pa pb : List Extent) (d : Extent) : Type 0 where
  pub apart : AreApart (all_new bodies pa pb d)
  pub beside : (b : ℕ) → in_some (all_new bodies pa pb d) b ≡ true → kept b ≡ false

-- The parts after a command, which are left of the old parts or written, are separate.
pub separate_next : (kept : ℕ → Bool) (d d' : Extent) (bodies a b c e a' b' c' e' pa pb : List Extent) (ka kb : List Extent)
    → AreSeparate d a b c e → IsSubset (in_some (joined d a b c e)) kept → AreNew kept bodies pa pb d'
    → IsSubset (in_some ka) (in_some a) → IsSubset (in_some kb) (in_some b)
    → ((k : ℕ) → in_some a' k ≡ true → (in_some ka k ≡ true) ⊎ (in_some pa k ≡ true))
    → ((k : ℕ) → in_some b' k ≡ true → (in_some kb k ≡ true) ⊎ (in_some pb k ≡ true))
    → ((k : ℕ) → in_some c' k ≡ true → (in_some a k ≡ true) ⊎ (in_some c k ≡ true))
    → ((k : ℕ) → in_some e' k ≡ true → (in_some e k ≡ true) ⊎ (in_some bodies k ≡ true))
    → AreDisjoint (in_some ka) (in_some c')
    → AreApart a' → AreApart b' → AreApart c' → AreApart e' → AreSeparate d' a' b' c' e'
separate_next kept d d' bodies a b c e a' b' c' e' pa pb ka kb was reached new in_a in_b of_a of_b of_c of_e beside apart_a apart_b apart_c apart_e =
    let all = new.apart in
    let three = apart_front (bodies ++ pa ++ pb) (d' ∷ []) all in
    let two = apart_front (bodies ++ pa) pb three in
    let last = apart_between (bodies ++ pa ++ pb) (d' ∷ []) all in
    let last_two = front (bodies ++ pa) pb (in_some (d' ∷ [])) last in
    let second = apart_between (bodies ++ pa) pb three in
    let pa_pb = behind bodies pa (in_some pb) second in
    let body_pa = apart_between bodies pa two in
    let body_pb = front bodies pa (in_some pb) second in
    let body_d = front bodies pa (in_some (d' ∷ [])) last_two in
    let pa_d = behind bodies pa (in_some (d' ∷ [])) last_two in
    let pb_d = behind (bodies ++ pa) pb (in_some (d' ∷ [])) last in
    let free_body : (k : ℕ) → in_some bodies k ≡ true → kept k ≡ false = λ k is. new.beside k (body_new bodies pa pb d' k is) in
    let free_pa : (k : ℕ) → in_some pa k ≡ true → kept k ≡ false = λ k is. new.beside k (pa_new bodies pa pb d' k is) in
    let free_pb : (k : ℕ) → in_some pb k ≡ true → kept k ≡ false = λ k is. new.beside k (pb_new bodies pa pb d' k is) in
    let free_d : (k : ℕ) → in_some (d' ∷ []) k ≡ true → kept k ≡ false = λ k is. new.beside k (d_new bodies pa pb d' k is) in
    let c_a_c : (other : ℕ → Bool) → AreDisjoint (in_some a) other → AreDisjoint (in_some c) other → AreDisjoint (in_some c') other =
    λ other one two k is. elim (of_c k is) [ inl here ↦ one k here | inr there ↦ two k there ] in
    let mixed_d : IsMixed kept (d' ∷ []) none (in_some (d' ∷ [])) = record { comes = λ k is. inr is; olds = λ k is. absurd (true≢false (sym is)); news = free_d } in
    let mixed_a : IsMixed kept a' (in_some ka) (in_some pa) = record { comes = of_a; olds = λ k is. reached k (a_in d a b c e k (in_a k is)); news = free_pa } in
    let mixed_b : IsMixed kept b' (in_some kb) (in_some pb) = record { comes = of_b; olds = λ k is. reached k (b_in d a b c e k (in_b k is)); news = free_pb } in
    let mixed_c : IsMixed kept c' (in_some c') none = record {
      comes = λ k is. inl is;
      olds = λ k is. reached k (elim (of_c k is) [ inl here ↦ a_in d a b c e k here | inr there ↦ c_in d a b c e k there ]);
      news = λ k is. absurd (true≢false (sym is));
    } in
    let mixed_e : IsMixed kept e' (in_some e) (in_some bodies) = record { comes = of_e; olds = λ k is. reached k (e_in d a b c e k is); news = free_body } in
    record {
      in_a = apart_a;
      in_b = apart_b;
      in_c = apart_c;
      in_e = apart_e;
      da = mixed_apart kept (d' ∷ []) a' none (in_some (d' ∷ [])) (in_some ka) (in_some pa) mixed_d mixed_a (none_left (in_some ka)) (turned (in_some pa) (in_some (d' ∷ [])) pa_d);
      db = mixed_apart kept (d' ∷ []) b' none (in_some (d' ∷ [])) (in_some kb) (in_some pb) mixed_d mixed_b (none_left (in_some kb)) (turned (in_some pb) (in_some (d' ∷ [])) pb_d);
      dc = mixed_apart kept (d' ∷ []) c' none (in_some (d' ∷ [])) (in_some c') none mixed_d mixed_c (none_left (in_some c')) (none_right (in_some (d' ∷ [])));
      de = mixed_apart kept (d' ∷ []) e' none (in_some (d' ∷ [])) (in_some e) (in_some bodies) mixed_d mixed_e (none_left (in_some e)) (turned (in_some bodies) (in_some (d' ∷ [])) body_d);
      ab = mixed_apart kept a' b' (in_some ka) (in_some pa) (in_some kb) (in_some pb) mixed_a mixed_b (narrowed (in_some ka) (in_some a) (in_some kb) (in_some b) in_a in_b was.ab) pa_pb;
      ac = mixed_apart kept a' c' (in_some ka) (in_some pa) (in_some c') none mixed_a mixed_c beside (none_right (in_some pa));
      ae = mixed_apart kept a' e' (in_some ka) (in_some pa) (in_some e) (in_some bodies) mixed_a mixed_e (λ k is. was.ae k (in_a k is)) (turned (in_some bodies) (in_some pa) body_pa);
      bc = mixed_apart kept b' c' (in_some kb) (in_some pb) (in_some c') none mixed_b mixed_c
          (turned (in_some c') (in_some kb) (c_a_c (in_some kb) (λ k is. not_true (in_some kb k) (λ here. not_both (in_some b k) (in_b k here) (was.ab k is)))
          (λ k is. not_true (in_some kb k) (λ here. not_both (in_some c k) is (was.bc k (in_b k here)))))) (none_right (in_some pb));
      be = mixed_apart kept b' e' (in_some kb) (in_some pb) (in_some e) (in_some bodies) mixed_b mixed_e (λ k is. was.be k (in_b k is)) (turned (in_some bodies) (in_some pb) body_pb);
      ce = mixed_apart kept c' e' (in_some c') none (in_some e) (in_some bodies) mixed_c mixed_e (c_a_c (in_some e) was.ae was.ce) (none_left (in_some bodies));
    }
