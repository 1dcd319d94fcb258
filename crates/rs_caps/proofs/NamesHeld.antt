-- A lawful state holds no name that is not lawful.
use Rattle.std.proofs.Common.{◌≡◌, List, ℕ, [], ◌∷◌, refl, sym, ap, ◌∙◌, Option, Some, None, true, false}
use Rattle.std.specs.Prelude.{IsTrue, option_map}
use Rattle.std.specs.List.{AllByRecursion}
use Rattle.std.specs.declared.cmp.Ordering.{Ordering}
use Rattle.std.specs.declared.cmp.Ordering.TheVariants.{Less, Equal, Greater}
use Rattle.rs_record.specs.Name.{is_name}
use Rattle.rs_model.specs.declared.value.Held.{Held}
use Rattle.rs_model.specs.Lawful.{IsHeld, IsLawful}
use Rattle.rs_model.specs.Names.{Names, by_bytes, by_order, value_of}
use Rattle.rs_model.specs.State.{Source, body_of}
use Rattle.rs_caps.proofs.FromBelow.{same_name}

other_name : (r : Ordering) (name : List ℕ) (e : List ℕ × Held) (m : Names Held) → by_bytes name e.0 ≡ r → IsTrue (is_name e.0)
    → is_name name ≡ false → value_of name m ≡ None → by_order r None (Some e.1) (value_of name m) ≡ None
other_name Less name e m is l n h = refl
other_name Equal name e m is l n h =
    let clash : true ≡ false = sym l ∙ ap is_name (sym (same_name name e.0 is)) ∙ n in
    cc
other_name Greater name e m is l n h = h

none_held : (name : List ℕ) (m : Names Held) → AllByRecursion IsHeld m → is_name name ≡ false → value_of name m ≡ None
none_held name [] h n = refl
none_held name (e ∷ m) h n = other_name (by_bytes name e.0) name e m refl h.0.name n (none_held name m h.1 n)

pub no_body : (name : List ℕ) (s : Source) → IsLawful s → is_name name ≡ false → body_of name s ≡ None
no_body name s l n = ap (λ (o : Option Held). option_map (λ h. h.bytes) o) (none_held name s.held l.held n)
