-- Lines that are no items.
use Rattle.std.proofs.Common.{◌≡◌, ◌∷◌, [], ℕ, List, false, refl, codes, bytes_eq, Err}
use Rattle.rs_items.specs.declared.item.ItemFault.TheVariants.{BadLine}
use Rattle.rs_items.specs.Items.{item_of_fields}
use Rattle.rs_items.specs.Fields.{fields, after_space, first_field, after_field}
use Rattle.rs_items.proofs.FieldLemmas.{fields-zero}

-- where the word is not `put`, one more field is too many
more_fields : (word argument field after : List ℕ) → bytes_eq word (codes "put") ≡ false
    → item_of_fields (word ∷ argument ∷ field ∷ after_space (fields 0) after) ≡ Err BadLine
more_fields word argument field [] e = refl
more_fields word argument field (space ∷ rest) e = rw (fields-zero rest, e) refl

pub too_many : (word argument bytes : List ℕ) → bytes_eq word (codes "put") ≡ false
    → item_of_fields (word ∷ argument ∷ fields 1 bytes) ≡ Err BadLine
unfolding fields
too_many word argument bytes e = more_fields word argument (first_field bytes) (after_field bytes) e

-- a line of another word than `put` and `delete` is no item
pub other_word : (word rest : List ℕ) → bytes_eq word (codes "put") ≡ false → bytes_eq word (codes "delete") ≡ false
    → item_of_fields (word ∷ fields 2 rest) ≡ Err BadLine
unfolding fields
other_word word rest p d = with_field (first_field rest) (after_field rest)
  where
    with_field : (field after : List ℕ) → item_of_fields (word ∷ field ∷ after_space (fields 1) after) ≡ Err BadLine
    with_field field [] = rw d refl
    with_field field (space ∷ bytes) = too_many word field bytes p
