-- The lines that take memory.
use Rattle.std.proofs.Common.{◌≡◌, ◌⊎◌, inl, inr, ℕ, ◌≤◌, List, [], ◌∷◌, length, ap, arith, length-drop}
use Rattle.std.specs.List.{position_or_len}
use Rattle.rs_items.specs.Fields.{fields, first_field, after_field, after_space, is_space}

-- the text after the first space of a line is no longer than the line
shorter : (first word argument after : List ℕ) (n : ℕ) → length after ≤ n → first ∷ after_space (fields 0) after ≡ word ∷ argument ∷ [] → length argument ≤ n
unfolding fields
shorter first word argument [] n le e = absurd cc
shorter first word argument (space ∷ bytes) n le e =
    let both : first ∷ bytes ∷ [] ≡ word ∷ argument ∷ [] = e in
    let same : bytes ≡ argument = cc in
    omega (arith, ap length same, le)

pub argument_length : (line word argument : List ℕ) → fields 1 line ≡ word ∷ argument ∷ [] → length argument ≤ length line
unfolding fields
argument_length line word argument e =
    shorter (first_field line) word argument (after_field line) (length line) (omega (arith, length-drop (position_or_len is_space line) line)) e

-- a line with an argument of 9 bytes has as many
pub longer : {A B I : Type 0} (argument line : List ℕ) → length argument ≤ length line → A ⊎ (B × ((9 ≤ length argument) ⊎ I)) → A ⊎ (B × ((9 ≤ length line) ⊎ I))
longer argument line le (inl a) = inl a
longer argument line le (inr (b, inl long)) = inr (b, inl (omega (arith, long, le)))
longer argument line le (inr (b, inr i)) = inr (b, inr i)

-- a line that begins as an item may have fewer
pub or_longer : {A B L I : Type 0} → A ⊎ (B × I) → A ⊎ (B × (L ⊎ I))
or_longer (inl a) = inl a
or_longer (inr (b, i)) = inr (b, inr i)
