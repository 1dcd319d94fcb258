-- The text of a moment reads as the moment, and has only digits and five signs.
use Rattle.std.proofs.Common.{◌≡◌, ℕ, ◌+◌, ◌*◌, ◌/◌, ◌%◌, ◌<◌, ◌≤◌, List, ◌∷◌, ◌++◌, refl, sym, ap, ◌∙◌, arith, Some, None, Bool, true, false, cond, pos, nat_le, nat_lt}
use Rattle.std.specs.Prelude.{◌&&◌, not, codes}
use Rattle.std.specs.List.{list_all, Contains}
use Rattle.std.specs.Str.{IsUtf8}
use Rattle.std.specs.Cmp.Lexicographic.{bytes_decides}
use Rattle.std.proofs.lemmas.Str.{IsUtf8-from_ascii}
use Rattle.std.proofs.lemmas.Str.Ascii.{IsAscii-from_all}
use Rattle.std.proofs.lemmas.Bool.Decides.{nat_tests}
use Rattle.std.proofs.lemmas.List.Elements.{All-contains}
use Rattle.std.proofs.lemmas.List.Sums.{AllPass-from_list_all}
use Rattle.std.proofs.lemmas.List.Folds.{list_all-append}
use Rattle.jiff_core.proofs.CalendarLemmas.{days_in_month_bounds}
use Rattle.rs_time.specs.Calendar.{days_before, date_of, IsDateOf}
use Rattle.rs_time.specs.declared.calendar.CivilDate.{CivilDate}
use Rattle.rs_time.specs.Moment.{greatest, IsMoment, last_digit, two_digits, three_digits, four_digits, date_text, time_text, moment_text, is_moment_byte}
use Rattle.rs_time.specs.ReadMoment.{number_after, same_bytes, moment_digits, read_moment}
use Rattle.rs_time.proofs.Counting.{date_is}

-- digits read as the number that they write
two_digits-read : (n : ℕ) → n < 100 → number_after 0 (two_digits n) ≡ n
two_digits-read n h = omega arith

three_digits-read : (n : ℕ) → n < 1000 → number_after 0 (three_digits n) ≡ n
three_digits-read n h = omega arith

four_digits-read : (n : ℕ) → n < 10000 → number_after 0 (four_digits n) ≡ n
four_digits-read n h = omega arith

-- the milliseconds of a date and a time
abbrev in_all : ℕ → ℕ → ℕ → ℕ → ℕ → ℕ → ℕ → ℕ
in_all year month day hour minute second fraction =
    days_before (record { year = year; month = month; day = day }) * 86400000
    + hour * 3600000 + minute * 60000 + second * 1000 + fraction

same_in_all : (y m d h i s f y' m' d' h' i' s' f' : ℕ) → y ≡ y' → m ≡ m' → d ≡ d' → h ≡ h' → i ≡ i' → s ≡ s'
    → f ≡ f' → in_all y m d h i s f ≡ in_all y' m' d' h' i' s' f'
same_in_all y m d h i s f y' m' d' h' i' s' f' year month day hour minute second fraction = cc

-- hours, minutes, seconds and the fraction make up the milliseconds of a day
clock : (ms : ℕ) → ms < 86400000
    → ms / 3600000 * 3600000 + ms / 60000 % 60 * 60000 + ms / 1000 % 60 * 1000 + ms % 1000 ≡ ms
clock ms h = omega arith

text_digits : (n ms : ℕ) (d : CivilDate) → IsDateOf n d → ms < 86400000
    → moment_digits (date_text d ++ codes "T" ++ time_text ms ++ codes "Z") ≡ n * 86400000 + ms
unfolding moment_digits
text_digits n ms d is h =
    let year : d.year < 10000 = omega (arith, is.year_to) in
    let month : d.month < 100 = omega (arith, is.month_to) in
    let day : d.day < 100 = omega (arith, is.day_to, days_in_month_bounds (pos d.year) d.month) in
    let hour : ms / 3600000 < 100 = omega arith in
    let minute : ms / 60000 % 60 < 100 = omega arith in
    let second : ms / 1000 % 60 < 100 = omega arith in
    let fraction : ms % 1000 < 1000 = omega arith in
    same_in_all _ _ _ _ _ _ _ d.year d.month d.day (ms / 3600000) (ms / 60000 % 60) (ms / 1000 % 60) (ms % 1000)
    (four_digits-read d.year year) (two_digits-read d.month month) (two_digits-read d.day day)
    (two_digits-read (ms / 3600000) hour) (two_digits-read (ms / 60000 % 60) minute)
    (two_digits-read (ms / 1000 % 60) second) (three_digits-read (ms % 1000) fraction)
    ∙ omega (arith, is.before, clock ms h)

moment_digits-text : (t : ℕ) → IsMoment t → moment_digits (moment_text t) ≡ t
unfolding moment_text
moment_digits-text t h =
    let n : ℕ = t / 86400000 in
    text_digits n (t % 86400000) (date_of n) (date_is n (omega arith)) (omega arith) ∙ omega arith

within : (t : ℕ) → IsMoment t → nat_le t greatest ≡ true
within t h = grind (arith, nat_tests)

-- the text of a moment reads as the moment
pub read_moment-text : (t : ℕ) → IsMoment t → read_moment (moment_text t) ≡ Some t
unfolding read_moment
read_moment-text t h =
    let text : List ℕ = moment_text t in
    ap (λ n. cond (nat_le n greatest && same_bytes (moment_text n) text) (Some n) None) (moment_digits-text t h)
    ∙ (λ i. cond (within t h i && (bytes_decides text text).1 refl i) (Some t) None)

exact_by : (b c : Bool) (m t : ℕ) (text : List ℕ) → nat_le m greatest ≡ b → same_bytes (moment_text m) text ≡ c
    → cond (b && c) (Some m) None ≡ Some t → IsMoment t × (text ≡ moment_text t)
exact_by true true m t text low same e =
    let is : m ≡ t = cc in
    let bound : m ≤ greatest = grind (arith, nat_tests) in
    (omega arith, sym ((bytes_decides (moment_text m) text).0 same) ∙ ap moment_text is)
exact_by true false m t text low same e = cc
exact_by false c m t text low same e = cc

-- and no other text does
pub read_moment-exact : (text : List ℕ) (t : ℕ) → read_moment text ≡ Some t
    → IsMoment t × (text ≡ moment_text t)
unfolding read_moment
read_moment-exact text t e = exact_by _ _ (moment_digits text) t text refl refl e

-- its bytes
digit_in : (n : ℕ) → is_moment_byte (last_digit n) ≡ true
digit_in n = below (n % 10) (omega arith)
  where
    below : (d : ℕ) → d < 10 → is_moment_byte (48 + d) ≡ true
    below d h = grind (arith, nat_tests)

two_in : (n : ℕ) → list_all is_moment_byte (two_digits n) ≡ true
two_in n = λ i. digit_in (n / 10) i && (digit_in n i && true)

three_in : (n : ℕ) → list_all is_moment_byte (three_digits n) ≡ true
three_in n = λ i. digit_in (n / 100) i && two_in n i

four_in : (n : ℕ) → list_all is_moment_byte (four_digits n) ≡ true
four_in n = λ i. digit_in (n / 1000) i && three_in n i

both_in : (a b : List ℕ) → list_all is_moment_byte a ≡ true → list_all is_moment_byte b ≡ true
    → list_all is_moment_byte (a ++ b) ≡ true
both_in a b h k = list_all-append is_moment_byte a b ∙ (λ i. h i && k i)

date_in : (d : CivilDate) → list_all is_moment_byte (date_text d) ≡ true
date_in d =
    let month : List ℕ = codes "-" ++ two_digits d.month in
    both_in (four_digits d.year ++ month) (codes "-" ++ two_digits d.day)
    (both_in (four_digits d.year) month (four_in d.year) (two_in d.month)) (two_in d.day)

time_in : (ms : ℕ) → list_all is_moment_byte (time_text ms) ≡ true
time_in ms =
    let hour : List ℕ = two_digits (ms / 3600000) in
    let minute : List ℕ = codes ":" ++ two_digits (ms / 60000 % 60) in
    let second : List ℕ = codes ":" ++ two_digits (ms / 1000 % 60) in
    let front = both_in hour minute (two_in (ms / 3600000)) (two_in (ms / 60000 % 60)) in
    both_in (hour ++ minute ++ second) (codes "." ++ three_digits (ms % 1000))
    (both_in (hour ++ minute) second front (two_in (ms / 1000 % 60))) (three_in (ms % 1000))

pub moment_text-bytes : (t : ℕ) → list_all is_moment_byte (moment_text t) ≡ true
unfolding moment_text
moment_text-bytes t =
    let date : List ℕ = date_text (date_of (t / 86400000)) in
    let time : List ℕ = codes "T" ++ time_text (t % 86400000) in
    both_in (date ++ time) (codes "Z")
    (both_in date time (date_in (date_of (t / 86400000))) (time_in (t % 86400000))) refl

-- a byte of a text whose bytes all pass a test passes it
passes : (p : ℕ → Bool) (text : List ℕ) (c : ℕ) → list_all p text ≡ true → Contains text c → p c ≡ true
passes p text c h among = All-contains (λ b. p b ≡ true) text c (AllPass-from_list_all p text h) among

-- so it has no line feed, and no character of the five that XML has references for
pub moment_text-unescaped : (t c : ℕ) → Contains (10 ∷ codes "\"&'<>") c → ¬ Contains (moment_text t) c
moment_text-unescaped t c mark among =
    let other = passes (λ b. not (is_moment_byte b)) (10 ∷ codes "\"&'<>") c refl mark in
    let here = passes is_moment_byte (moment_text t) c (moment_text-bytes t) among in
    cc (ap not here ∙ refl, other)

ascii_by : (b : Bool) (c : ℕ) → nat_lt c 128 ≡ b → is_moment_byte c ≡ true → c < 128
ascii_by true c e h = grind (arith, nat_tests)
ascii_by false c e h = let past : 128 ≤ c = grind (arith, nat_tests) in grind (arith, nat_tests)

-- it is UTF-8
pub moment_text-utf8 : (t : ℕ) → IsUtf8 (moment_text t)
moment_text-utf8 t =
    let bytes = AllPass-from_list_all is_moment_byte (moment_text t) (moment_text-bytes t) in
    IsUtf8-from_ascii (moment_text t) (IsAscii-from_all (moment_text t) (λ i d low. ascii_by _ _ refl (bytes i d low)))
