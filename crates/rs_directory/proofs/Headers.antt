-- A header that is read was written, and a header that was written is read.
use Rattle.std.proofs.Common.{◌≡◌, ℕ, ◌^◌, ◌<◌, List, [], ◌∷◌, ◌++◌, Option, Some, refl, ap, ◌∙◌}
use Rattle.std.specs.List.{concat}
use Rattle.std.specs.Int.{w16, w64, to_be_bytes}
use Rattle.rs_time.specs.Moment.{IsMoment}
use Rattle.rs_record.specs.Format.{counted_text}
use Rattle.rs_record.specs.Reading.{◌>>=◌, number_in, counted_at, moment_in}
use Rattle.rs_directory.proofs.FromBelow.{AreBytes, Takes, IsFormat, bind_some, takes_as, one_more, concat-onto, number_8, counted, moment}
use Rattle.rs_directory.specs.declared.header.Header.{Header}
use Rattle.rs_directory.specs.Limit.{IsLimit}
use Rattle.rs_directory.specs.Directory.{history_bytes, header_bytes, HasAllHistory}
use Rattle.rs_directory.specs.Reading.{limit_at, history_at, header_at}
use Rattle.rs_directory.proofs.Limits.{limit}
use Rattle.rs_directory.proofs.History.{IsHistory, told, history}

-- the law of all fields of a header of a version but its base
pub record HasLawfulNumbers (version : ℕ) (h : Header) : Type 0 where
  pub limit : IsLimit h.limit
  pub start : IsMoment h.start
  pub last : IsMoment h.last
  pub number : h.number < 2 ^ 64
  pub at : IsMoment h.at
  pub first : h.first < 2 ^ 64
  pub begin : IsMoment h.begin
  pub untold : version ≡ 1 → HasAllHistory h

-- the fields that every version has
abbrev front_bytes : ℕ → List ℕ → ℕ → ℕ → ℕ → ℕ → List (List ℕ)
front_bytes items base start last number at =
    to_be_bytes w16 items ∷ counted_text base ∷ to_be_bytes w64 start ∷ to_be_bytes w64 last ∷ to_be_bytes w64 number ∷ to_be_bytes w64 at ∷ []

-- and the header with the bytes after it
abbrev whole : ℕ → ℕ → List ℕ → ℕ → ℕ → ℕ → ℕ → List ℕ → Option (Header × List ℕ)
whole version items base start last number at rest =
    history_at version start rest >>= λ history. Some (
      record { base = base; limit = items; start = start; last = last; number = number; at = at; first = history.0.0; begin = history.0.1 },
      history.1,
    )

-- These front fields were read in a header.
record HasFront (version : ℕ) (bytes : List ℕ) (x : Header × List ℕ) : Type 0 where
  items : ℕ
  base : List ℕ
  start : ℕ
  last : ℕ
  number : ℕ
  at : ℕ
  rest : List ℕ
  parts : bytes ≡ concat (front_bytes items base start last number at) ++ rest
  fits : AreBytes rest
  lawful_items : IsLimit items
  lawful_start : IsMoment start
  lawful_last : IsMoment last
  lawful_number : number < 2 ^ 64
  lawful_at : IsMoment at
  more : whole version items base start last number at rest ≡ Some x

front_takes : (version : ℕ) (bytes : List ℕ) (x : Header × List ℕ) → AreBytes bytes → header_at version bytes ≡ Some x → HasFront version bytes x
unfolding header_at
front_takes version bytes x fits e =
    let w = whole version in
    let a = bind_some (limit_at bytes) (λ items. counted_at items.1 >>= λ base. moment_in base.1 >>= λ start. moment_in start.1
    >>= λ last. number_in w64 last.1 >>= λ number. moment_in number.1 >>= λ at. w items.0 base.0 start.0 last.0 number.0 at.0 at.1) x e in
    let b = bind_some (counted_at a.0.1) (λ base. moment_in base.1 >>= λ start. moment_in start.1 >>= λ last. number_in w64 last.1
    >>= λ number. moment_in number.1 >>= λ at. w a.0.0 base.0 start.0 last.0 number.0 at.0 at.1) x a.2 in
    let d = bind_some (moment_in b.0.1) (λ start. moment_in start.1 >>= λ last. number_in w64 last.1 >>= λ number. moment_in number.1
    >>= λ at. w a.0.0 b.0.0 start.0 last.0 number.0 at.0 at.1) x b.2 in
    let f = bind_some (moment_in d.0.1) (λ last. number_in w64 last.1 >>= λ number. moment_in number.1
    >>= λ at. w a.0.0 b.0.0 d.0.0 last.0 number.0 at.0 at.1) x d.2 in
    let g = bind_some (number_in w64 f.0.1) (λ number. moment_in number.1 >>= λ at. w a.0.0 b.0.0 d.0.0 f.0.0 number.0 at.0 at.1) x f.2 in
    let h = bind_some (moment_in g.0.1) (λ at. w a.0.0 b.0.0 d.0.0 f.0.0 g.0.0 at.0 at.1) x g.2 in
    let ta = limit.takes bytes a.0 fits a.1 in
    let tb = counted.takes a.0.1 b.0 ta.rest b.1 in
    let td = moment.takes b.0.1 d.0 tb.rest d.1 in
    let tf = moment.takes d.0.1 f.0 td.rest f.1 in
    let tg = number_8.takes f.0.1 g.0 tf.rest g.1 in
    let th = moment.takes g.0.1 h.0 tg.rest h.1 in
    let L = to_be_bytes w16 a.0.0 in
    let B = counted_text b.0.0 in
    let S = to_be_bytes w64 d.0.0 in
    let T = to_be_bytes w64 f.0.0 in
    let N = to_be_bytes w64 g.0.0 in
    let one = one_more [] bytes L bytes a.0.1 refl ta.parts in
    let two = one_more (L ∷ []) bytes B a.0.1 b.0.1 one tb.parts in
    let three = one_more (L ∷ B ∷ []) bytes S b.0.1 d.0.1 two td.parts in
    let four = one_more (L ∷ B ∷ S ∷ []) bytes T d.0.1 f.0.1 three tf.parts in
    let five = one_more (L ∷ B ∷ S ∷ T ∷ []) bytes N f.0.1 g.0.1 four tg.parts in
    let six = one_more (L ∷ B ∷ S ∷ T ∷ N ∷ []) bytes (to_be_bytes w64 h.0.0) g.0.1 h.0.1 five th.parts in
    record {
      items = a.0.0;
      base = b.0.0;
      start = d.0.0;
      last = f.0.0;
      number = g.0.0;
      at = h.0.0;
      rest = h.0.1;
      parts = six;
      fits = th.rest;
      lawful_items = ta.lawful;
      lawful_start = td.lawful;
      lawful_last = tf.lawful;
      lawful_number = tg.lawful;
      lawful_at = th.lawful;
      more = h.2;
    }

whole_takes : (version : ℕ) (bytes : List ℕ) (x : Header × List ℕ) → HasFront version bytes x → Takes (header_bytes version) (HasLawfulNumbers version) bytes x
whole_takes version bytes x f =
    let made : ℕ × ℕ → Header =
    λ history. record {
      base = f.base;
      limit = f.items;
      start = f.start;
      last = f.last;
      number = f.number;
      at = f.at;
      first = history.0;
      begin = history.1;
    } in
    let k = bind_some (history_at version f.start f.rest) (λ history. Some (made history.0, history.1)) x f.more in
    let t = (history version f.start f.lawful_start).takes f.rest k.0 f.fits k.1 in
    takes_as (made k.0.0, k.0.1) x k.2
    (record {
      parts = one_more (front_bytes f.items f.base f.start f.last f.number f.at) bytes (told version k.0.0) f.rest k.0.1 f.parts t.parts;
      rest = t.rest;
      lawful = record {
        limit = f.lawful_items;
        start = f.lawful_start;
        last = f.lawful_last;
        number = f.lawful_number;
        at = f.lawful_at;
        first = t.lawful.first;
        begin = t.lawful.begin;
        untold = λ one. let all = t.lawful.untold one in record { first = all.0; begin = all.1 };
      };
    })

header_again : (version : ℕ) (h : Header) (rest : List ℕ) → HasLawfulNumbers version h → header_at version (header_bytes version h ++ rest) ≡ Some (h, rest)
unfolding header_at
header_again version h rest lawful =
    let kept : IsHistory version h.start (h.first, h.begin) =
    record { first = lawful.first; begin = lawful.begin; untold = λ one. let all = lawful.untold one in (all.first, all.begin) } in
    let more = told version (h.first, h.begin) ++ rest in
    let at = to_be_bytes w64 h.at ++ more in
    let number = to_be_bytes w64 h.number ++ at in
    let last = to_be_bytes w64 h.last ++ number in
    let start = to_be_bytes w64 h.start ++ last in
    ap (header_at version) (concat-onto (to_be_bytes w16 h.limit ∷ counted_text h.base ∷ to_be_bytes w64 h.start ∷ to_be_bytes w64 h.last ∷
    to_be_bytes w64 h.number ∷ to_be_bytes w64 h.at ∷ history_bytes version h ∷ []) rest)
    ∙ rw (
      limit.again h.limit (counted_text h.base ++ start) lawful.limit,
      counted.again h.base start tt,
      moment.again h.start last lawful.start,
      moment.again h.last number lawful.last,
      number_8.again h.number at lawful.number,
      moment.again h.at more lawful.at,
      (history version h.start lawful.start).again (h.first, h.begin) rest kept,
    ) refl

pub header : (version : ℕ) → IsFormat (header_at version) (header_bytes version) (HasLawfulNumbers version)
header version = record { takes = λ bytes x fits e. whole_takes version bytes x (front_takes version bytes x fits e); again = header_again version }
