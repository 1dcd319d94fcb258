-- The lines of a body one by one, and their items.
use Rattle.std.proofs.Common.{◌≡◌, ℕ, zero, suc, ◌+◌, ◌<◌, ◌≤◌, List, [], ◌∷◌, ◌++◌, length, take, drop, refl, ap, sym, ◌∙◌, arith, append_assoc, Some, None, Result, Ok, Err, Bool, false, subst}
use Rattle.std.specs.List.{All, position, position_or_len, slice_split}
use Rattle.std.proofs.lemmas.Bool.Decides.{nat_tests}
use Rattle.std.proofs.lemmas.Grind.{common_steps}
use Rattle.std.proofs.lemmas.List.Splits.{slice_split_first, slice_split_none, length-slice_split}
use Rattle.std.proofs.lemmas.List.Sums.{fails_before_first}
use Rattle.rs_model.specs.declared.command.Item.{Item}
use Rattle.rs_items.specs.Items.{item_of_line}
use Rattle.rs_items.specs.declared.item.ItemFault.{ItemFault}
use Rattle.rs_http.specs.Groups.{is_break, lines_between, lines_of, item_before, items_of_lines, items_in}
use Rattle.rs_items.specs.Lines.{cut_return, last_line}

found_at : (p : ℕ → Bool) (xs : List ℕ) (i : ℕ) → position p xs ≡ Some i → (position_or_len p xs ≡ i) × (i < length xs)
found_at p xs i e = grind (arith, nat_tests)

not_found : (p : ℕ → Bool) (xs : List ℕ) → position p xs ≡ None → length xs ≤ position_or_len p xs
not_found p xs e = grind (arith, nat_tests)

cut_before : (raw : List ℕ) (raws : List (List ℕ)) → 0 < length raws → lines_between (raw ∷ raws) ≡ cut_return raw ∷ lines_between raws
cut_before raw [] l = absurd (omega arith)
cut_before raw (next ∷ raws) l = refl

-- the first line, if a line feed ends it
pub first_line : (bytes : List ℕ) (i : ℕ) → position is_break bytes ≡ Some i → lines_of bytes ≡ cut_return (take i bytes) ∷ lines_of (drop (i + 1) bytes)
first_line bytes i e =
    let found = found_at is_break bytes i e in
    let at : position_or_len is_break bytes ≡ i = found.0 in
    let within : i < length bytes = found.1 in
    let small : position_or_len is_break bytes < length bytes = omega arith in
    let parts = slice_split_first is_break bytes 0 small in
    let cut : slice_split is_break bytes ≡ take i bytes ∷ slice_split is_break (drop (i + 1) bytes) =
    subst (λ (k : ℕ). slice_split is_break bytes ≡ take k bytes ∷ slice_split is_break (drop (k + 1) bytes)) at parts in
    let more : 0 < length (slice_split is_break (drop (i + 1) bytes)) = omega (arith, length-slice_split is_break (drop (i + 1) bytes)) in
    ap lines_between cut ∙ cut_before (take i bytes) (slice_split is_break (drop (i + 1) bytes)) more

-- the line that no line feed ends
pub only_line : (bytes : List ℕ) → position is_break bytes ≡ None → lines_of bytes ≡ last_line bytes
only_line bytes e =
    let le = not_found is_break bytes e in
    let none : All (λ b. is_break b ≡ false) bytes = λ k b l. let fails = fails_before_first is_break bytes k b (omega arith) in grind (arith, common_steps) in
    ap lines_between (slice_split_none is_break bytes none)

-- items after others, or a fault
pub behind : List Item → Result (List Item) ItemFault → Result (List Item) ItemFault
behind done (Ok items) = Ok (done ++ items)
behind done (Err fault) = Err fault

pub behind_none : (others : Result (List Item) ItemFault) → others ≡ behind [] others
unfolding behind
behind_none (Ok items) = refl
behind_none (Err fault) = refl

next_item : (done : List Item) (item : Item) (others : Result (List Item) ItemFault) → behind done (item_before (Ok item) others) ≡ behind (done ++ item ∷ []) others
unfolding behind
next_item done item (Ok items) = ap Ok (sym (append_assoc done (item ∷ []) items))
next_item done item (Err fault) = refl

module _ (body rest : List ℕ) (done : List Item) (so_far : items_in body ≡ behind done (items_in rest)) where
  module _ (line after : List ℕ) (cut : lines_of rest ≡ line ∷ lines_of after) where
    -- a line more
    pub takes_line : (item : Item) → item_of_line line ≡ Ok item → items_in body ≡ behind (done ++ item ∷ []) (items_in after)
    takes_line item is =
        so_far ∙ ap (λ (lines : List (List ℕ)). behind done (items_of_lines lines)) cut
        ∙ ap (λ (first : Result Item ItemFault). behind done (item_before first (items_in after))) is ∙ next_item done item (items_in after)

    -- a line with a fault
    pub meets_fault : (fault : ItemFault) → item_of_line line ≡ Err fault → items_in body ≡ Err fault
    unfolding behind
    meets_fault fault is =
        so_far ∙ ap (λ (lines : List (List ℕ)). behind done (items_of_lines lines)) cut
        ∙ ap (λ (first : Result Item ItemFault). behind done (item_before first (items_in after))) is

  module _ (end : lines_of rest ≡ last_line rest) where
    -- the last line, which no line feed ends
    pub takes_last : (last : List Item) → items_of_lines (last_line rest) ≡ Ok last → items_in body ≡ Ok (done ++ last)
    unfolding behind
    takes_last last is = so_far ∙ ap (λ (lines : List (List ℕ)). behind done (items_of_lines lines)) end ∙ ap (behind done) is

    pub last_fault : (fault : ItemFault) → items_of_lines (last_line rest) ≡ Err fault → items_in body ≡ Err fault
    unfolding behind
    last_fault fault is = so_far ∙ ap (λ (lines : List (List ℕ)). behind done (items_of_lines lines)) end ∙ ap (behind done) is

-- an item of the only line
pub only_item : (line : List ℕ) (item : Item) → item_of_line line ≡ Ok item → 0 < length line → items_of_lines (last_line line) ≡ Ok (item ∷ [])
only_item [] item is some = absurd (omega arith)
only_item (b ∷ bytes) item is some = ap (λ (first : Result Item ItemFault). item_before first (Ok [])) is

pub only_fault : (line : List ℕ) (fault : ItemFault) → item_of_line line ≡ Err fault → 0 < length line → items_of_lines (last_line line) ≡ Err fault
only_fault [] fault is some = absurd (omega arith)
only_fault (b ∷ bytes) fault is some = ap (λ (first : Result Item ItemFault). item_before first (Ok [])) is

pub no_item : (line : List ℕ) → length line ≡ 0 → items_of_lines (last_line line) ≡ Ok []
no_item [] none = refl
no_item (b ∷ bytes) none = absurd (omega arith)

-- the first n elements of xs ++ ys need only the first n of xs
pub take_then : {T : Type 0} (n : ℕ) (xs ys : List T) → take n (take n xs ++ ys) ≡ take n (xs ++ ys)
take_then zero xs ys = refl
take_then (suc n) [] ys = refl
take_then (suc n) (x ∷ xs) ys = ap (λ zs. x ∷ zs) (take_then n xs ys)
