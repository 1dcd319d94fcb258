-- A line that does not begin as one with fields, and is longer than any without, is no request.
use Rattle.std.proofs.Common.{◌≡◌, ◌∷◌, [], ◌++◌, ◌+◌, ◌-◌, ◌≤◌, ◌<◌, ℕ, length, take, drop, get_or, List, Option, Some, None, Bool, true, false, nat_eq, refl, arith, ap, ◌∙◌, codes, bytes_eq, Err, length-append, length-take, length-drop, nat_le, if◌then◌else◌, ◌||◌, ◌==◌, slice_index}
use Rattle.std.specs.List.{position, starts_with}
use Rattle.std.proofs.lemmas.List.{take_more, take-take}
use Rattle.std.proofs.lemmas.List.Sums.{passes_at_first}
use Rattle.std.proofs.lemmas.Slice.Eq.{bytes_eq-Decides}
use Rattle.std.proofs.lemmas.Bool.Decides.{nat_tests}
use Rattle.rs_record.specs.Decimal.{number_in}
use Rattle.rs_items.specs.declared.item.ItemFault.TheVariants as fault
use Rattle.rs_items.specs.Fields.{fields, is_space, after_space, first_field, after_field}
use Rattle.rs_items.specs.Items.{item_of_fields, item_of_line}
use Rattle.rs_script.proofs.FromBelow.{position-some, fields-cut, fields-last, no_item}
use Rattle.rs_script.specs.declared.refusal.Refusal.TheVariants as refusals
use Rattle.rs_script.specs.Lines.{line_of}
use Rattle.rs_script.specs.PartialLine.{AsksNothing}
use Rattle.rs_script.specs.Requests.{of_fields, request_of, begins_request}
use Rattle.rs_script.specs.Statements.{size_in, group_size}

is_false : (b : Bool) → (b ≡ true → ⊥) → b ≡ false
is_false true h = absurd (h refl)
is_false false h = refl

-- bytes of other lengths are other bytes
other_length : (xs ys : List ℕ) → (length xs ≡ length ys → ⊥) → bytes_eq xs ys ≡ false
other_length xs ys h = is_false (bytes_eq xs ys) (λ e. h (ap length ((bytes_eq-Decides xs ys).0 e)))

-- a line that does not begin with a word and a space has another first field
other_word : (line word : List ℕ) (i : ℕ) → position is_space line ≡ Some i
    → starts_with nat_eq line (word ++ 32 ∷ []) ≡ false → bytes_eq (take i line) word ≡ false
other_word line word i found h =
    is_false (bytes_eq (take i line) word) (λ e.
    let at = position-some is_space line i found in
    let lt : i < length line = at.1 in
    let same : take i line ≡ word = (bytes_eq-Decides (take i line) word).0 e in
    let here : i ≡ length word = omega (arith, ap length same, length-take i line) in
    let passes : is_space (get_or line i 0) ≡ true = rw at.0 at (passes_at_first is_space line 0 (omega (arith, at.0))) in
    let space : get_or line i 0 ≡ 32 = grind (arith, nat_tests) in
    let more : take (i + 1) line ≡ take i line ++ get_or line i 0 ∷ [] = take_more line i 0 lt in
    let size : length (word ++ 32 ∷ []) ≡ i + 1 = simp length-append (omega (arith, here)) in
    let whole : word ++ 32 ∷ [] ≡ take (length (word ++ 32 ∷ [])) line = rw (size, more, same, space) refl in
    let yes : starts_with nat_eq line (word ++ 32 ∷ []) ≡ true = (bytes_eq-Decides (word ++ 32 ∷ []) (take (length (word ++ 32 ∷ [])) line)).1 whole in
    (cc))

-- a line that is no item, and whose word is not that of a line of two fields, is no request
other_request : (line word rest : List ℕ) → bytes_eq word (codes "at") ≡ false → bytes_eq word (codes "show") ≡ false
    → bytes_eq word (codes "group") ≡ false → item_of_line line ≡ Err fault.BadLine → of_fields line (word ∷ fields 1 rest) ≡ Err (refusals.Line fault.BadLine)
unfolding fields
other_request line word rest a s g none = two_fields (first_field rest) (after_field rest)
  where
    two_fields : (field after : List ℕ) → of_fields line (word ∷ field ∷ after_space (fields 0) after) ≡ Err (refusals.Line fault.BadLine)
    two_fields field [] = rw (a, s, g, none) refl
    two_fields field (space ∷ bytes) = rw none refl

pub either_false : (a b : Bool) → (a || b) ≡ false → (a ≡ false) × (b ≡ false)
either_false true b e = absurd (cc)
either_false false b e = (refl, e)

-- it does not begin with a word before fields
record BeginsNone (line : List ℕ) : Type 0 where
  no_at : starts_with nat_eq line (codes "at ") ≡ false
  no_put : starts_with nat_eq line (codes "put ") ≡ false
  no_delete : starts_with nat_eq line (codes "delete ") ≡ false
  no_show : starts_with nat_eq line (codes "show ") ≡ false
  no_group : starts_with nat_eq line (codes "group ") ≡ false

begins_none : (line : List ℕ) → begins_request line ≡ false → BeginsNone line
begins_none line h =
    let a = either_false (starts_with nat_eq line (codes "at ")) _ h in
    let p = either_false (starts_with nat_eq line (codes "put ")) _ a.1 in
    let d = either_false (starts_with nat_eq line (codes "delete ")) _ p.1 in
    let s = either_false (starts_with nat_eq line (codes "show ")) _ d.1 in
    let g = either_false (starts_with nat_eq line (codes "group ")) false s.1 in
    record { no_at = a.0; no_put = p.0; no_delete = d.0; no_show = s.0; no_group = g.0 }

-- a line that does not begin as an item is no item
pub is_no_item : (line : List ℕ) → starts_with nat_eq line (codes "put ") ≡ false → starts_with nat_eq line (codes "delete ") ≡ false → item_of_line line ≡ Err fault.BadLine
unfolding item_of_line
is_no_item line no_put no_delete = by_space (position is_space line) refl
  where
    by_space : (found : Option ℕ) → position is_space line ≡ found → item_of_fields (fields 3 line) ≡ Err fault.BadLine
    by_space None e = rw (fields-last line 2 e) refl
    by_space (Some i) e =
        rw (fields-cut line i 2 e)
        (no_item (take i line) (drop (i + 1) line) (other_word line (codes "put") i e no_put) (other_word line (codes "delete") i e no_delete))

-- a line that is longer than any of one field, and does not begin as one with more, is no request
asks_alone : (line : List ℕ) → 8 ≤ length line → BeginsNone line → request_of line ≡ Err (refusals.Line fault.BadLine)
unfolding request_of
asks_alone line long b = by_space (position is_space line) refl
  where
    by_space : (found : Option ℕ) → position is_space line ≡ found → of_fields line (fields 2 line) ≡ Err (refusals.Line fault.BadLine)
    by_space None e =
        let not_publish = other_length line (codes "publish") (λ same. absurd (omega (arith, same))) in
        let not_status = other_length line (codes "status") (λ same. absurd (omega (arith, same))) in
        let not_verify = other_length line (codes "verify") (λ same. absurd (omega (arith, same))) in
        rw (fields-last line 1 e, not_publish, not_status, not_verify) refl
    by_space (Some i) e =
        rw (fields-cut line i 1 e)
        (other_request line (take i line) (drop (i + 1) line) (other_word line (codes "at") i e b.no_at) (other_word line (codes "show") i e b.no_show)
        (other_word line (codes "group") i e b.no_group) (is_no_item line b.no_put b.no_delete))

begins_no_group : (line : List ℕ) → starts_with nat_eq line (codes "group ") ≡ false → group_size line ≡ None
unfolding group_size
begins_no_group line e = rw e refl

asks_nothing : (line : List ℕ) → 8 ≤ length line → begins_request line ≡ false → AsksNothing line
asks_nothing line long h =
    let b = begins_none line h in
    record { alone = asks_alone line long b; within = is_no_item line b.no_put b.no_delete; no_group = begins_no_group line b.no_group }

-- a line that is longer than any that begins a group begins no group
long_number : (text : List ℕ) → 2 < length text → number_in 2 text ≡ None
unfolding number_in
long_number text long =
    let no : nat_le (length text) 2 ≡ false = grind (arith, nat_tests) in
    let few : nat_le 1 (length text) ≡ true = grind (arith, nat_tests) in
    rw (few, no) refl

either_none : (b : Bool) (found : Option ℕ) → found ≡ None → (if b then size_in found else None) ≡ None
either_none true found e = rw e refl
either_none false found e = refl

pub long_begins_none : (line : List ℕ) → 8 < length line → group_size line ≡ None
unfolding group_size
long_begins_none line long =
    either_none (starts_with nat_eq line (codes "group ")) (number_in 2 (drop 6 line))
    (long_number (drop 6 line) (omega (arith, length-drop 6 line)))

-- the first bytes of a line determine how it begins
begins_same : (raw : List ℕ) (n : ℕ) → 7 ≤ n → begins_request (take n raw) ≡ begins_request raw
begins_same raw n le =
    rw (take-take 3 n raw (omega arith), take-take 4 n raw (omega arith), take-take 7 n raw le, take-take 5 n raw (omega arith), take-take 6 n raw (omega arith)) refl

pub foreign : (raw : List ℕ) (has_break : Bool) → 9 ≤ length raw → begins_request raw ≡ false → AsksNothing (line_of has_break raw)
foreign raw false long h = asks_nothing raw (omega arith) h
foreign raw true long h = by_last (slice_index raw (length raw - 1) == 13)
  where
    by_last : (ends : Bool) → AsksNothing (if ends then take (length raw - 1) raw else raw)
    by_last true = asks_nothing (take (length raw - 1) raw) (omega (arith, length-take (length raw - 1) raw)) (begins_same raw (length raw - 1) (omega arith) ∙ h)
    by_last false = asks_nothing raw (omega arith) h

-- a line of more than nine bytes, even without its carriage return
pub refused_long : (raw : List ℕ) (has_break : Bool) → 9 < length raw → 9 ≤ length (line_of has_break raw)
refused_long raw false long = omega (arith, long)
refused_long raw true long = by_last (slice_index raw (length raw - 1) == 13)
  where
    by_last : (ends : Bool) → 9 ≤ length (if ends then take (length raw - 1) raw else raw)
    by_last true = omega (arith, length-take (length raw - 1) raw)
    by_last false = omega (arith, long)
