-- A value that is read was written, and a value that was written is read: pieces, numbers, texts and moments.
use Rattle.std.proofs.Common.{◌≡◌, ℕ, suc, ◌+◌, ◌^◌, ◌<◌, ◌≤◌, Bool, true, false, cond, leb, List, [], ◌∷◌, ◌++◌, length, get_or, take, drop, Option, Some, None, refl, sym, ap, subst, ◌∙◌, append_assoc, ◌⊎◌, arith, inl, inr}
use Rattle.std.specs.Prelude.{IsTrue}
use Rattle.std.specs.List.{concat}
use Rattle.std.specs.Int.{Width, w16, w32, w64, byte_len, from_be_bytes, to_be_bytes}
use Rattle.std.proofs.lemmas.Bool.{cases_lt}
use Rattle.std.proofs.lemmas.Bool.Decides.{nat_tests}
use Rattle.std.proofs.lemmas.List.{take_at, drop_at, take-append-drop, length-append, length-take, get_or-drop, get_or-take, get_or_past}
use Rattle.std.proofs.lemmas.Nat.{be_bytes_2, be_bytes_4, be_bytes_8, from_be_bytes-to_be_bytes_2, from_be_bytes-to_be_bytes_4, from_be_bytes-to_be_bytes_8}
use Rattle.rs_time.specs.Moment.{IsMoment, moment_of}
use Rattle.rs_record.specs.Format.{counted_text}
use Rattle.rs_record.specs.Reading.{◌>>=◌, piece_at, number_in, counted_at, text_at, moment_in}

-- all elements are bytes
abbrev pub AreBytes : List ℕ → Type 0
AreBytes xs = (i : ℕ) → get_or xs i 0 < 256

-- n bytes
pub record IsBytes (n : ℕ) (xs : List ℕ) : Type 0 where
  pub length : length xs ≡ n
  pub bytes : AreBytes xs

-- ---- reading and writing

-- a reader took a lawful value off the front
pub record Takes {A : Type 0} (write : A → List ℕ) (IsLawful : A → Type 0) (bytes : List ℕ) (x : A × List ℕ) : Type 0 where
  pub parts : bytes ≡ write x.0 ++ x.1
  pub rest : AreBytes x.1
  pub lawful : IsLawful x.0

-- A reader takes only formats of lawful values, and reads the format of every lawful value.
pub record IsFormat {A : Type 0} (read : List ℕ → Option (A × List ℕ)) (write : A → List ℕ) (IsLawful : A → Type 0) : Type 0 where
  pub takes : (bytes : List ℕ) (x : A × List ℕ) → AreBytes bytes → read bytes ≡ Some x → Takes write IsLawful bytes x
  pub again : (x : A) (rest : List ℕ) → IsLawful x → read (write x ++ rest) ≡ Some (x, rest)

-- the value of a step that gave one
pub bind_some : {A B : Type 0} (o : Option A) (f : A → Option B) (y : B) → (o >>= f) ≡ Some y → (x : A) × (o ≡ Some x) × (f x ≡ Some y)
bind_some None f y e = absurd cc
bind_some (Some x) f y e = (x, refl, e)

-- a test that gave a value
pub guard_some : {A : Type 0} (b : Bool) (x y : A) → cond b (Some x) None ≡ Some y → (b ≡ true) × (x ≡ y)
guard_some true x y e = (refl, cc)
guard_some false x y e = absurd cc

pub some_is : {A : Type 0} (x y : A) → Some x ≡ Some y → x ≡ y
some_is x y e = cc

-- the value was taken also under its other name
pub takes_as : {A : Type 0} {write : A → List ℕ} {IsLawful : A → Type 0} {bytes : List ℕ} (x y : A × List ℕ) → Some x ≡ Some y → Takes write IsLawful bytes x → Takes write IsLawful bytes y
takes_as {A} {write} {IsLawful} {bytes} x y e t = subst (Takes write IsLawful bytes) (some_is x y e) t

-- lists in order, and another after them
abbrev pub onto : List (List ℕ) → List ℕ → List ℕ
onto [] rest = rest
onto (xs ∷ xss) rest = xs ++ onto xss rest

pub concat-onto : (xss : List (List ℕ)) (rest : List ℕ) → concat xss ++ rest ≡ onto xss rest
concat-onto [] rest = refl
concat-onto (xs ∷ xss) rest = append_assoc xs (concat xss) rest ∙ ap (λ ys. xs ++ ys) (concat-onto xss rest)

onto-append : (front : List (List ℕ)) (xs after : List ℕ) → onto (front ++ xs ∷ []) after ≡ onto front (xs ++ after)
onto-append [] xs after = refl
onto-append (ys ∷ front) xs after = ap (λ zs. ys ++ zs) (onto-append front xs after)

-- one more part of the bytes
pub one_more : (front : List (List ℕ)) (bytes xs rest after : List ℕ) → bytes ≡ concat front ++ rest → rest ≡ xs ++ after → bytes ≡ concat (front ++ xs ∷ []) ++ after
one_more front bytes xs rest after e f =
    e ∙ ap (λ ys. concat front ++ ys) f ∙ concat-onto front (xs ++ after) ∙ sym (onto-append front xs after) ∙ sym (concat-onto (front ++ xs ∷ []) after)

-- ---- bytes

bytes-drop : (n : ℕ) (bytes : List ℕ) → AreBytes bytes → AreBytes (drop n bytes)
bytes-drop n bytes h i = rw get_or-drop (h (n + i))

bytes-take : (n : ℕ) (bytes : List ℕ) → AreBytes bytes → AreBytes (take n bytes)
bytes-take n bytes h i =
    elim (cases_lt i n) [
      | inl lt ↦ rw (get_or-take n bytes i 0 lt) (h i)
      | inr le ↦ rw (get_or_past (take n bytes) i 0 (omega (arith, length-take n bytes))) (omega arith)
    ]

pub bytes-rest : (b : ℕ) (bytes : List ℕ) → AreBytes (b ∷ bytes) → AreBytes bytes
bytes-rest b bytes h i = h (suc i)

-- ---- pieces

piece_takes : (n : ℕ) (bytes : List ℕ) (x : List ℕ × List ℕ) → AreBytes bytes → piece_at n bytes ≡ Some x → Takes (λ xs. xs) (IsBytes n) bytes x
piece_takes n bytes x fits e =
    let g = guard_some (leb n (length bytes)) (take n bytes, drop n bytes) x e in
    let long : n ≤ length bytes = grind (arith, nat_tests, g.0) in
    subst (Takes (λ xs. xs) (IsBytes n) bytes) g.1
    (record {
      parts = sym (take-append-drop n bytes);
      rest = bytes-drop n bytes fits;
      lawful = record { length = omega (arith, length-take n bytes); bytes = bytes-take n bytes fits };
    })

pub piece_read : (n : ℕ) (xs rest : List ℕ) → length xs ≡ n → piece_at n (xs ++ rest) ≡ Some (xs, rest)
piece_read n xs rest h =
    let long : leb n (length (xs ++ rest)) ≡ true = grind (arith, nat_tests, length-append xs rest) in
    rw (long, take_at xs rest n h, drop_at xs rest n h) refl

pub piece : (n : ℕ) → IsFormat (piece_at n) (λ xs. xs) (IsBytes n)
piece n = record { takes = piece_takes n; again = λ xs rest h. piece_read n xs rest h.length }

-- ---- numbers

-- the numbers of a width, below their limit
record IsWide (w : Width) (limit : ℕ) : Type 0 where
  len : (n : ℕ) → length (to_be_bytes w n) ≡ byte_len w
  back : (xs : List ℕ) → IsBytes (byte_len w) xs → to_be_bytes w (from_be_bytes w xs) ≡ xs
  again : (n : ℕ) → n < limit → from_be_bytes w (to_be_bytes w n) ≡ n
  below : (xs : List ℕ) → AreBytes xs → from_be_bytes w xs < limit

number_takes : (w : Width) (limit : ℕ) → IsWide w limit → (bytes : List ℕ) (x : ℕ × List ℕ) → AreBytes bytes → number_in w bytes ≡ Some x → Takes (to_be_bytes w) (λ n. n < limit) bytes x
number_takes w limit wide bytes x fits e =
    let b = bind_some (piece_at (byte_len w) bytes) (λ front. Some (from_be_bytes w front.0, front.1)) x e in
    let t = (piece (byte_len w)).takes bytes b.0 fits b.1 in
    subst (Takes (to_be_bytes w) (λ n. n < limit) bytes) (some_is _ x b.2)
    (record {
      parts = t.parts ∙ ap (λ xs. xs ++ b.0.1) (sym (wide.back b.0.0 t.lawful));
      rest = t.rest;
      lawful = wide.below b.0.0 t.lawful.bytes;
    })

number_again : (w : Width) (limit : ℕ) → IsWide w limit → (n : ℕ) (rest : List ℕ) → n < limit → number_in w (to_be_bytes w n ++ rest) ≡ Some (n, rest)
number_again w limit wide n rest lt =
    rw (piece_read (byte_len w) (to_be_bytes w n) rest (wide.len n), wide.again n lt) refl

number : (w : Width) (limit : ℕ) → IsWide w limit → IsFormat (number_in w) (to_be_bytes w) (λ n. n < limit)
number w limit wide = record { takes = number_takes w limit wide; again = number_again w limit wide }

wide_2 : IsWide w16 (2 ^ 16)
wide_2 = record {
  len = λ n. refl;
  back = λ xs h. be_bytes_2 xs _ h.length h.bytes refl;
  again = λ n lt. from_be_bytes-to_be_bytes_2 n lt;
  below = λ xs fits. omega (arith, fits 0, fits 1);
}

wide_4 : IsWide w32 (2 ^ 32)
wide_4 = record {
  len = λ n. refl;
  back = λ xs h. be_bytes_4 xs _ h.length h.bytes refl;
  again = λ n lt. from_be_bytes-to_be_bytes_4 n lt;
  below = λ xs fits. omega (arith, fits 0, fits 1, fits 2, fits 3);
}

wide_8 : IsWide w64 (2 ^ 64)
wide_8 = record {
  len = λ n. refl;
  back = λ xs h. be_bytes_8 xs _ h.length h.bytes refl;
  again = λ n lt. from_be_bytes-to_be_bytes_8 n lt;
  below = λ xs fits. omega (arith, fits 0, fits 1, fits 2, fits 3, fits 4, fits 5, fits 6, fits 7);
}

pub number_2 : IsFormat (number_in w16) (to_be_bytes w16) (λ n. n < 2 ^ 16)
number_2 = number w16 (2 ^ 16) wide_2

pub number_4 : IsFormat (number_in w32) (to_be_bytes w32) (λ n. n < 2 ^ 32)
number_4 = number w32 (2 ^ 32) wide_4

pub number_8 : IsFormat (number_in w64) (to_be_bytes w64) (λ n. n < 2 ^ 64)
number_8 = number w64 (2 ^ 64) wide_8

-- ---- texts

counted_takes : (bytes : List ℕ) (x : List ℕ × List ℕ) → AreBytes bytes → counted_at bytes ≡ Some x → Takes counted_text (λ xs. Unit {0}) bytes x
unfolding counted_at
counted_takes [] x fits e = absurd cc
counted_takes (n ∷ bytes) x fits e =
    let t = (piece n).takes bytes x (bytes-rest n bytes fits) e in
    record { parts = ap (λ xs. n ∷ xs) t.parts ∙ ap (λ k. k ∷ (x.0 ++ x.1)) (sym t.lawful.length); rest = t.rest; lawful = tt }

counted_again : (text rest : List ℕ) → Unit {0} → counted_at (counted_text text ++ rest) ≡ Some (text, rest)
unfolding counted_at
counted_again text rest h = piece_read (length text) text rest refl

pub counted : IsFormat counted_at counted_text (λ text. Unit {0})
counted = record { takes = counted_takes; again = counted_again }

text_takes : (is_lawful : List ℕ → Bool) (bytes : List ℕ) (x : List ℕ × List ℕ) → AreBytes bytes → text_at is_lawful bytes ≡ Some x → Takes counted_text (λ text. IsTrue (is_lawful text)) bytes x
unfolding text_at
text_takes is_lawful bytes x fits e =
    let b = bind_some (counted_at bytes) (λ text. cond (is_lawful text.0) (Some text) None) x e in
    let g = guard_some (is_lawful b.0.0) b.0 x b.2 in
    let t = counted_takes bytes b.0 fits b.1 in
    subst (Takes counted_text (λ text. IsTrue (is_lawful text)) bytes) g.1 (record { parts = t.parts; rest = t.rest; lawful = g.0 })

text_again : (is_lawful : List ℕ → Bool) (text rest : List ℕ) → IsTrue (is_lawful text) → text_at is_lawful (counted_text text ++ rest) ≡ Some (text, rest)
unfolding text_at counted_at
text_again is_lawful text rest h =
    let long : leb (length text) (length (text ++ rest)) ≡ true = grind (arith, nat_tests, length-append text rest) in
    rw (long, take_at text rest (length text) refl, drop_at text rest (length text) refl, h) refl

pub text : (is_lawful : List ℕ → Bool) → IsFormat (text_at is_lawful) counted_text (λ text. IsTrue (is_lawful text))
text is_lawful = record { takes = text_takes is_lawful; again = text_again is_lawful }

-- ---- moments

moment_is : (ms m : ℕ) → moment_of ms ≡ Some m → (ms ≡ m) × IsMoment m
moment_is ms m e =
    let g = guard_some (leb ms 253402300799999) ms m e in
    let low : ms ≤ 253402300799999 = grind (arith, nat_tests, g.0) in
    (g.1, subst IsMoment g.1 low)

moment_takes : (bytes : List ℕ) (x : ℕ × List ℕ) → AreBytes bytes → moment_in bytes ≡ Some x → Takes (to_be_bytes w64) IsMoment bytes x
unfolding moment_in
moment_takes bytes x fits e =
    let a = bind_some (number_in w64 bytes) (λ ms. moment_of ms.0 >>= λ moment. Some (moment, ms.1)) x e in
    let b = bind_some (moment_of a.0.0) (λ moment. Some (moment, a.0.1)) x a.2 in
    let t = number_8.takes bytes a.0 fits a.1 in
    let is = moment_is a.0.0 b.0 b.1 in
    subst (Takes (to_be_bytes w64) IsMoment bytes) (some_is (b.0, a.0.1) x b.2)
    (record { parts = t.parts ∙ ap (λ m. to_be_bytes w64 m ++ a.0.1) is.0; rest = t.rest; lawful = is.1 })

moment_again : (m : ℕ) (rest : List ℕ) → IsMoment m → moment_in (to_be_bytes w64 m ++ rest) ≡ Some (m, rest)
unfolding moment_in
moment_again m rest h =
    let is : leb m 253402300799999 ≡ true = grind (arith, nat_tests) in
    rw (number_8.again m rest (omega arith), is) refl

pub moment : IsFormat moment_in (to_be_bytes w64) IsMoment
moment = record { takes = moment_takes; again = moment_again }

-- ---- too few bytes

piece_none : (n : ℕ) (bytes : List ℕ) → piece_at n bytes ≡ None → length bytes < n
piece_none n bytes e = guard_none (leb n (length bytes)) refl e
  where
    guard_none : (b : Bool) → leb n (length bytes) ≡ b → cond {A = Option (List ℕ × List ℕ)} b (Some (take n bytes, drop n bytes)) None ≡ None
        → length bytes < n
    guard_none true is e = absurd cc
    guard_none false is e = grind (arith, nat_tests, is)

-- a step that gave no value
bind_none : {A B : Type 0} (o : Option A) (f : A → Option B) → (o >>= f) ≡ None → (o ≡ None) ⊎ ((x : A) × (o ≡ Some x) × (f x ≡ None))
bind_none None f e = inl refl
bind_none (Some x) f e = inr (x, refl, e)

some_is_none : {A : Type 0} (x : A) → Some x ≡ None → ⊥
some_is_none x e = absurd cc

-- if four bytes and k more are not there
pub number_none : {B : Type 0} (k : ℕ) (bytes : List ℕ) (f : ℕ × List ℕ → Option B) → AreBytes bytes → (number_in w32 bytes >>= f) ≡ None
    → ((x : ℕ × List ℕ) → AreBytes x.1 → f x ≡ None → length x.1 < k) → length bytes < 4 + k
number_none k bytes f fits e more = elim (bind_none (number_in w32 bytes) f e) [
  | inl none ↦ elim (bind_none (piece_at 4 bytes) (λ front. Some (from_be_bytes w32 front.0, front.1)) none) [
    | inl short ↦ omega (arith, piece_none 4 bytes short)
    | inr w ↦ absurd (some_is_none _ w.2)
  ]
  | inr w ↦
      let b = bind_some (piece_at 4 bytes) (λ front. Some (from_be_bytes w32 front.0, front.1)) w.0 w.1 in
      let t = (piece 4).takes bytes b.0 fits b.1 in
      let same : b.0.1 ≡ w.0.1 = ap (λ x. x.1) (some_is _ w.0 b.2) in
      let rest : length w.0.1 < k = more w.0 (subst AreBytes same t.rest) w.2 in
      omega (arith, rest, ap length same, t.lawful.length, ap length t.parts, length-append b.0.0 b.0.1)
]

pub piece_none_of : {B : Type 0} (n : ℕ) (bytes : List ℕ) (f : List ℕ × List ℕ → B) → (piece_at n bytes >>= λ x. Some (f x)) ≡ None → length bytes < n
piece_none_of n bytes f e = elim (bind_none (piece_at n bytes) (λ x. Some (f x)) e) [
  | inl none ↦ piece_none n bytes none
  | inr w ↦ absurd (some_is_none _ w.2)
]
