-- The values shown for records form a map as the records do.
use Rattle.std.proofs.Common.{◌≡◌, ℕ, List, [], ◌∷◌, refl, ap, Some, None}
use Rattle.std.specs.Prelude.{option_map}
use Rattle.std.specs.declared.cmp.Ordering.{Ordering}
use Rattle.std.specs.declared.cmp.Ordering.TheVariants.{Less, Equal, Greater}
use Rattle.rs_model.specs.Names.{Names, by_bytes, by_order, value_of, bind, unbind, map_values}

bound_by : {V W : Type 0} (shown : V → W) (name : List ℕ) (v : V) (e : List ℕ × V) (m : Names V) (r : Ordering) → map_values shown (bind name v m) ≡ bind name (shown v) (map_values shown m)
    → map_values shown (by_order r ((name, v) ∷ e ∷ m) ((name, v) ∷ m) (e ∷ bind name v m))
    ≡ by_order r ((name, shown v) ∷ (e.0, shown e.1) ∷ map_values shown m) ((name, shown v) ∷ map_values shown m) ((e.0, shown e.1) ∷ bind name (shown v) (map_values shown m))
bound_by shown name v e m Less next = refl
bound_by shown name v e m Equal next = refl
bound_by shown name v e m Greater next = ap (λ rest. (e.0, shown e.1) ∷ rest) next

pub map_values-bind : {V W : Type 0} (shown : V → W) (name : List ℕ) (v : V) (m : Names V) → map_values shown (bind name v m) ≡ bind name (shown v) (map_values shown m)
map_values-bind shown name v [] = refl
map_values-bind shown name v (e ∷ m) = bound_by shown name v e m (by_bytes name e.0) (map_values-bind shown name v m)

unbound_by : {V W : Type 0} (shown : V → W) (name : List ℕ) (e : List ℕ × V) (m : Names V) (r : Ordering) → map_values shown (unbind name m) ≡ unbind name (map_values shown m)
    → map_values shown (by_order r (e ∷ m) m (e ∷ unbind name m)) ≡ by_order r ((e.0, shown e.1) ∷ map_values shown m) (map_values shown m) ((e.0, shown e.1) ∷ unbind name (map_values shown m))
unbound_by shown name e m Less next = refl
unbound_by shown name e m Equal next = refl
unbound_by shown name e m Greater next = ap (λ rest. (e.0, shown e.1) ∷ rest) next

pub map_values-unbind : {V W : Type 0} (shown : V → W) (name : List ℕ) (m : Names V) → map_values shown (unbind name m) ≡ unbind name (map_values shown m)
map_values-unbind shown name [] = refl
map_values-unbind shown name (e ∷ m) = unbound_by shown name e m (by_bytes name e.0) (map_values-unbind shown name m)

found_by : {V W : Type 0} (shown : V → W) (name : List ℕ) (e : List ℕ × V) (m : Names V) (r : Ordering) → value_of name (map_values shown m) ≡ option_map shown (value_of name m)
    → by_order r None (Some (shown e.1)) (value_of name (map_values shown m)) ≡ option_map shown (by_order r None (Some e.1) (value_of name m))
found_by shown name e m Less next = refl
found_by shown name e m Equal next = refl
found_by shown name e m Greater next = next

pub value-map_values : {V W : Type 0} (shown : V → W) (name : List ℕ) (m : Names V) → value_of name (map_values shown m) ≡ option_map shown (value_of name m)
value-map_values shown name [] = refl
value-map_values shown name (e ∷ m) = found_by shown name e m (by_bytes name e.0) (value-map_values shown name m)
