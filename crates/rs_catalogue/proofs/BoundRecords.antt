-- Held records stay held when one record changes.
use Rattle.std.proofs.Common.{◌≡◌, ℕ, ◌+◌, ◌<◌, ◌≤◌, List, length, cond, refl, sym, ap, ◌∙◌, arith, Option, Some, None}
use Rattle.std.specs.Prelude.{IsNone, is_none}
use Rattle.std.proofs.lemmas.List.{length-map}
use Rattle.rs_record.specs.declared.record.Record.{Record}
use Rattle.rs_model.specs.Names.{value_of, bind, unbind}
use Rattle.rs_catalogue.proofs.FromBelow.{ordered-bind, ordered-unbind, length-bind, length-unbind}
use Rattle.rs_catalogue.specs.Named.{named}
use Rattle.rs_catalogue.specs.Catalogue.{AreHeld}

room_left : (o : Option Record) (n : ℕ) → (IsNone o → n < 50000) → n ≤ 50000 → cond (is_none o) (n + 1) n ≤ 50000
room_left None n room h = let fewer : n < 50000 = room refl in omega (arith, fewer)
room_left (Some r) n room h = h

-- a record with its name
abbrev entry : Record → List ℕ × Record
entry r = (r.name, r)

-- the records with one record bound
pub held-bind : (name : List ℕ) (r : Record) (old new : List Record) → AreHeld old → (IsNone (value_of name (named old)) → length old < 50000) → named new ≡ bind name r (named old) → AreHeld new
held-bind name r old new h room is =
    let sizes : length new ≡ cond (is_none (value_of name (named old))) (length old + 1) (length old) =
    sym (length-map new entry) ∙ (ap length is ∙ (length-bind name r (named old) ∙ ap (λ n. cond (is_none (value_of name (named old))) (n + 1) n) (length-map old entry))) in
    record {
      ordered = rw is (ordered-bind name r (named old) h.ordered);
      room = rw sizes (room_left (value_of name (named old)) (length old) room h.room);
    }

-- the records without one record
pub held-unbind : (name : List ℕ) (old new : List Record) → AreHeld old → named new ≡ unbind name (named old) → AreHeld new
held-unbind name old new h is =
    let fewer = length-unbind name (named old) in
    let first = length-map new entry in
    let second = length-map old entry in
    let same = ap length is in
    record {
      ordered = rw is (ordered-unbind name (named old) h.ordered);
      room = omega (arith, fewer, first, second, same, h.room);
    }
