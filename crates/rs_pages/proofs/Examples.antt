-- The pages that the page rule gives for 130 names and changes, and for these without the first of them.
use Rattle.std.specs.Prelude.{◌≡◌, ℕ, zero, suc, ◌+◌, ◌/◌, ◌%◌, List, [], ◌∷◌, length, map, take, drop, refl}
use Rattle.rs_page.specs.Pages.{Page}
use Rattle.rs_pages.specs.Rule.{touched, bound_in, appended_to}
use Rattle.rs_pages.specs.Dropped.{dropped_front}

-- `n000`, `n001`, ..
abbrev name_at : ℕ → List ℕ
name_at i = 110 ∷ (48 + i / 100) ∷ (48 + i / 10 % 10) ∷ (48 + i % 10) ∷ []

-- the first n names, put in their order
abbrev put_up_to : ℕ → List (Page (List ℕ))
put_up_to zero = []
put_up_to (suc n) = bound_in (λ t. t) (name_at n) (put_up_to n)

abbrev appended_up_to : ℕ → List (Page ℕ)
appended_up_to zero = []
appended_up_to (suc n) = appended_to n (appended_up_to n)

abbrev lengths : {T : Type 0} → List (Page T) → List ℕ
lengths pages = map (λ page. length page.items) pages

record_pages : lengths (put_up_to 130) ≡ 32 ∷ 32 ∷ 32 ∷ 34 ∷ []
record_pages = refl

change_pages : lengths (appended_up_to 130) ≡ 64 ∷ 64 ∷ 2 ∷ []
change_pages = refl

-- a further put of `n129` leaves the first three pages, one of `n000` the last three, and a further change goes into
-- the last one
last_again : take 3 (bound_in (λ t. t) (name_at 129) (put_up_to 130)) ≡ take 3 (put_up_to 130)
last_again = refl

first_again : drop 1 (bound_in (λ t. t) (name_at 0) (put_up_to 130)) ≡ drop 1 (put_up_to 130)
first_again = refl

one_more : lengths (appended_up_to 131) ≡ 64 ∷ 64 ∷ 3 ∷ []
one_more = refl

-- the names of a page of an older disk, which stays until it is touched
abbrev names_up_to : ℕ → ℕ → List (List ℕ)
names_up_to from zero = []
names_up_to from (suc n) = name_at from ∷ names_up_to (from + 1) n

older_page : lengths (bound_in (λ t. t) (name_at 129) (touched (names_up_to 0 129) ∷ [])) ≡ 32 ∷ 32 ∷ 32 ∷ 34 ∷ []
older_page = refl

-- pages of 64, 64 and 2 items without the first 70 of these: the rest of the second one is a page, and the last one
-- stays
abbrev three_pages : List (Page (List ℕ))
three_pages = touched (names_up_to 0 64) ∷ touched (names_up_to 64 64) ∷ touched (names_up_to 128 2) ∷ []

part_dropped : dropped_front 70 three_pages ≡ touched (names_up_to 70 58) ∷ touched (names_up_to 128 2) ∷ []
part_dropped = refl

-- without the first one, all and none
page_dropped : dropped_front 64 three_pages ≡ touched (names_up_to 64 64) ∷ touched (names_up_to 128 2) ∷ []
page_dropped = refl

all_dropped : dropped_front 130 three_pages ≡ []
all_dropped = refl

none_dropped : dropped_front 0 three_pages ≡ three_pages
none_dropped = refl

-- the changes of pages of 64, 64 and 2, and a page of 200 items without the first 3 of these
changes_dropped : lengths (dropped_front 70 (appended_up_to 130)) ≡ 58 ∷ 2 ∷ []
changes_dropped = refl

older_dropped : lengths (dropped_front 3 (touched (names_up_to 0 200) ∷ [])) ≡ 64 ∷ 64 ∷ 64 ∷ 5 ∷ []
older_dropped = refl
