-- Searches of a byte, and the fields of a line by its first space.
use Rattle.std.proofs.Common.{◌≡◌, ◌∷◌, [], ◌+◌, ◌≤◌, ◌<◌, ℕ, suc, length, take, drop, drop-cons, add-one, List, Some, None, Bool, refl, arith}
use Rattle.std.specs.List.{position, position_or_len}
use Rattle.std.proofs.lemmas.Grind.{common_steps}
use Rattle.std.proofs.lemmas.Bool.Decides.{nat_tests}
use Rattle.rs_items.specs.Fields.{fields, is_space}

pub position-some : (p : ℕ → Bool) (xs : List ℕ) (i : ℕ) → position p xs ≡ Some i → (position_or_len p xs ≡ i) × (i < length xs)
position-some p xs i e = grind (arith, nat_tests)

pub position-none : (p : ℕ → Bool) (xs : List ℕ) → position p xs ≡ None → length xs ≤ position_or_len p xs
position-none p xs e = grind (arith, nat_tests)

pub fields-cut : (bytes : List ℕ) (i spaces : ℕ) → position is_space bytes ≡ Some i
    → fields (suc spaces) bytes ≡ take i bytes ∷ fields spaces (drop (i + 1) bytes)
unfolding fields
fields-cut bytes i spaces e =
    let found = position-some is_space bytes i e in
    let at : position_or_len is_space bytes ≡ i = found.0 in
    let lt : i < length bytes = found.1 in
    rw (at, add-one, drop-cons bytes i 0) refl

pub fields-last : (bytes : List ℕ) (spaces : ℕ) → position is_space bytes ≡ None → fields (suc spaces) bytes ≡ bytes ∷ []
unfolding fields
fields-last bytes spaces e =
    let le = position-none is_space bytes e in
    let all : take (position_or_len is_space bytes) bytes ≡ bytes = grind (arith, common_steps) in
    let none : drop (position_or_len is_space bytes) bytes ≡ [] = grind (arith, common_steps) in
    rw (all, none) refl

pub fields-zero : (bytes : List ℕ) → fields 0 bytes ≡ bytes ∷ []
unfolding fields
fields-zero bytes = refl
