-- A name is held where a record has it.
use Rattle.std.proofs.Common.{◌≡◌, ℕ, Bool, ◌&&◌, List, [], ◌∷◌, map, refl, ◌∙◌, ap, Option, Some, None}
use Rattle.std.specs.Prelude.{is_some, is_none, not, option_map}
use Rattle.std.specs.Ordering.{is_lt}
use Rattle.rs_record.specs.declared.record.Record.{Record}
use Rattle.rs_model.specs.declared.value.Held.{Held}
use Rattle.rs_model.specs.Names.{Names, by_bytes, value_of, map_values, is_above, is_ordered}
use Rattle.rs_catalogue.specs.Named.{named}
use Rattle.rs_store.proofs.FromBelow.{value-map_values}
use Rattle.rs_image.specs.StateOfImage.{held_in}

shown : (image : List ℕ) (records : List Record) → map (held_in image) records ≡ map_values (λ r. (held_in image r).1) (named records)
shown image [] = refl
shown image (r ∷ records) = ap (λ (l : Names Held). held_in image r ∷ l) (shown image records)

mapped : {A B : Type 0} (f : A → B) (o : Option A) → is_some (option_map f o) ≡ is_some o
mapped f None = refl
mapped f (Some x) = refl

pub lacking : {A : Type 0} (o : Option A) → is_none o ≡ not (is_some o)
lacking None = refl
lacking (Some x) = refl

pub held_found : (image name : List ℕ) (records : List Record) → is_some (value_of name (map (held_in image) records)) ≡ is_some (value_of name (named records))
held_found image name records =
    ap (λ (m : Names Held). is_some (value_of name m)) (shown image records)
    ∙ ap is_some (value-map_values (λ (r : Record). (held_in image r).1) name (named records))
    ∙ mapped (λ (r : Record). (held_in image r).1) (value_of name (named records))

-- the names are in order where those of the records are
above_held : (image name : List ℕ) (records : List Record) → is_above name (map (held_in image) records) ≡ is_above name (named records)
above_held image name [] = refl
above_held image name (r ∷ records) = ap (λ (b : Bool). is_lt (by_bytes name r.name) && b) (above_held image r.name records)

pub held_ordered : (image : List ℕ) (records : List Record) → is_ordered (map (held_in image) records) ≡ is_ordered (named records)
held_ordered image [] = refl
held_ordered image (r ∷ records) = above_held image r.name records
