-- The fields that version 2 adds to a header: fields that are read were written, and fields that were written are read.
use Rattle.std.proofs.Common.{◌≡◌, ℕ, ◌^◌, ◌<◌, Bool, true, false, true≢false, eqb, List, [], ◌∷◌, ◌++◌, Option, Some, refl, sym, ◌∙◌, ap, eq-eqb, arith}
use Rattle.std.specs.Prelude.{if◌then◌else◌}
use Rattle.std.specs.List.{concat}
use Rattle.std.specs.Int.{w64, to_be_bytes}
use Rattle.std.proofs.lemmas.Bool.{eqb-true}
use Rattle.rs_time.specs.Moment.{IsMoment}
use Rattle.rs_record.specs.Reading.{◌>>=◌, number_in, moment_in}
use Rattle.rs_directory.proofs.FromBelow.{AreBytes, Takes, IsFormat, bind_some, takes_as, one_more, concat-onto, number_8, moment}
use Rattle.rs_directory.specs.Reading.{history_at}

-- the first kept part and the begin of the history, if the header has them
abbrev pub told_if : Bool → ℕ × ℕ → List ℕ
told_if untold x = if untold then [] else concat (to_be_bytes w64 x.0 ∷ to_be_bytes w64 x.1 ∷ [])

-- as a version writes them
abbrev pub told : ℕ → ℕ × ℕ → List ℕ
told version x = told_if (eqb version 1) x

-- the law of both fields
pub record IsHistory (version start : ℕ) (x : ℕ × ℕ) : Type 0 where
  pub first : x.0 < 2 ^ 64
  pub begin : IsMoment x.1
  pub untold : version ≡ 1 → (x.0 ≡ 0) × (x.1 ≡ start)

module _ (version start : ℕ) (is_moment : IsMoment start) where
  abbrev read_if : Bool → List ℕ → Option ((ℕ × ℕ) × List ℕ)
  read_if untold bytes =
      if untold then Some ((0, start), bytes)
      else (number_in w64 bytes >>= λ first. moment_in first.1 >>= λ begin. Some ((first.0, begin.0), begin.1))

  takes_if : (untold : Bool) → eqb version 1 ≡ untold → (bytes : List ℕ) (x : (ℕ × ℕ) × List ℕ) → AreBytes bytes → read_if untold bytes ≡ Some x
      → Takes (told_if untold) (IsHistory version start) bytes x
  takes_if true is bytes x fits e =
      takes_as ((0, start), bytes) x e
      (record { parts = refl; rest = fits; lawful = record { first = omega arith; begin = is_moment; untold = λ _. (refl, refl) } })
  takes_if false is bytes x fits e =
      let a = bind_some (number_in w64 bytes) (λ first. moment_in first.1 >>= λ begin. Some ((first.0, begin.0), begin.1)) x e in
      let b = bind_some (moment_in a.0.1) (λ begin. Some ((a.0.0, begin.0), begin.1)) x a.2 in
      let ta = number_8.takes bytes a.0 fits a.1 in
      let tb = moment.takes a.0.1 b.0 ta.rest b.1 in
      let F = to_be_bytes w64 a.0.0 in
      let one = one_more [] bytes F bytes a.0.1 refl ta.parts in
      let two = one_more (F ∷ []) bytes (to_be_bytes w64 b.0.0) a.0.1 b.0.1 one tb.parts in
      takes_as ((a.0.0, b.0.0), b.0.1) x b.2
      (record {
        parts = two;
        rest = tb.rest;
        lawful = record { first = ta.lawful; begin = tb.lawful; untold = λ one. absurd (true≢false (sym (eq-eqb version 1 one) ∙ is)) };
      })

  again_if : (untold : Bool) → eqb version 1 ≡ untold → (x : ℕ × ℕ) (rest : List ℕ) → IsHistory version start x → read_if untold (told_if untold x ++ rest) ≡ Some (x, rest)
  again_if true is x rest lawful =
      let same = lawful.untold (eqb-true version 1 is) in
      λ i. Some ((sym same.0 i, sym same.1 i), rest)
  again_if false is x rest lawful =
      let begin = to_be_bytes w64 x.1 ++ rest in
      ap (read_if false) (concat-onto (to_be_bytes w64 x.0 ∷ to_be_bytes w64 x.1 ∷ []) rest)
      ∙ rw (number_8.again x.0 begin lawful.first, moment.again x.1 rest lawful.begin) refl

  history_takes : (bytes : List ℕ) (x : (ℕ × ℕ) × List ℕ) → AreBytes bytes → history_at version start bytes ≡ Some x → Takes (told version) (IsHistory version start) bytes x
  unfolding history_at
  history_takes bytes x fits e = takes_if (eqb version 1) refl bytes x fits e

  history_again : (x : ℕ × ℕ) (rest : List ℕ) → IsHistory version start x → history_at version start (told version x ++ rest) ≡ Some (x, rest)
  unfolding history_at
  history_again x rest lawful = again_if (eqb version 1) refl x rest lawful

  pub history : IsFormat (history_at version start) (told version) (IsHistory version start)
  history = record { takes = history_takes; again = history_again }
