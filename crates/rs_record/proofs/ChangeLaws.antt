-- A value that is read was written, and a value that was written is read: changes.
use Rattle.std.proofs.Common.{◌≡◌, ℕ, Bool, true, false, cond, List, [], ◌∷◌, ◌++◌, Option, Some, None, refl, ap, ◌∙◌}
use Rattle.std.specs.Prelude.{IsTrue, IfSome, ◌||◌, ◌==◌}
use Rattle.std.specs.List.{concat}
use Rattle.std.specs.Int.{w64, to_be_bytes}
use Rattle.std.proofs.lemmas.Bool.{eqb-true}
use Rattle.rs_time.specs.Moment.{IsMoment}
use Rattle.rs_record.specs.Name.{is_name}
use Rattle.rs_record.specs.ChangeKind.{agree}
use Rattle.rs_record.specs.Changes.{bound, deleted, binding}
use Rattle.rs_record.specs.Format.{counted_text, facts_bytes, what_byte, known_bytes, change_bytes}
use Rattle.rs_record.specs.Lawful.{IsLawfulFacts, IsLawfulChange}
use Rattle.rs_record.specs.Reading.{◌>>=◌, text_at, moment_in, facts_at, bound_at, change_after, change_at}
use Rattle.rs_record.specs.declared.facts.Facts.{Facts}
use Rattle.rs_record.specs.declared.change.What.{What}
use Rattle.rs_record.specs.declared.change.What.TheVariants.{Created, Updated, Deleted}
use Rattle.rs_record.specs.declared.change.Change.{Change}
use Rattle.rs_record.proofs.Changes.{change_of, same_change}
use Rattle.rs_record.proofs.FieldLaws.{AreBytes, Takes, IsFormat, bind_some, takes_as, concat-onto, one_more, text, moment, bytes-rest}
use Rattle.rs_record.proofs.FormatLaws.{facts}

-- 1 and 2 are the bytes of the two bindings
binding_byte : (what : ℕ) (one two : Bool) → (what == 1) ≡ one → (what == 2) ≡ two → IsTrue (one || two) → what ≡ what_byte (binding two)
binding_byte what one true e f h = eqb-true what 2 f
binding_byte what true false e f h = eqb-true what 1 e
binding_byte what false false e f h = absurd cc

-- the fields at the front of a change
abbrev head : ℕ → List ℕ → ℕ → List (List ℕ)
head what name m = (what ∷ []) ∷ counted_text name ∷ to_be_bytes w64 m ∷ []

-- the rest of a change by which a name was bound
bound_takes : (what : ℕ) (name : List ℕ) (m : ℕ) (bytes rest : List ℕ) (x : Change × List ℕ) (again : Bool) → what ≡ what_byte (binding again)
    → IsTrue (is_name name) → IsMoment m → AreBytes rest → bytes ≡ concat (head what name m) ++ rest → bound_at name again m rest ≡ Some x → Takes change_bytes IsLawfulChange bytes x
unfolding bound_at
bound_takes what name m bytes rest x again is lawful low fits e h =
    let b = bind_some (facts_at rest) (λ known. Some (bound name again m known.0, known.1)) x h in
    let t = facts.takes rest b.0 fits b.1 in
    let whole = one_more (head what name m) bytes (facts_bytes b.0.0) rest b.0.1 e t.parts in
    takes_as (bound name again m b.0.0, b.0.1) x b.2
    (record {
      parts = whole ∙ ap (λ w. concat ((w ∷ []) ∷ counted_text name ∷ to_be_bytes w64 m ∷ facts_bytes b.0.0 ∷ []) ++ b.0.1) is;
      rest = t.rest;
      lawful = record { name = lawful; moment = low; facts = t.lawful };
    })

-- if the byte, the name and the moment were read off the front, so is the rest of the change
by_byte : (what : ℕ) (name : List ℕ) (m : ℕ) (bytes rest : List ℕ) (x : Change × List ℕ) (three one two : Bool) → (what == 3) ≡ three → (what == 1) ≡ one → (what == 2) ≡ two
    → IsTrue (is_name name) → IsMoment m → AreBytes rest → bytes ≡ concat (head what name m) ++ rest
    → cond three (Some (deleted name m, rest)) (cond (one || two) (bound_at name two m rest) None) ≡ Some x → Takes change_bytes IsLawfulChange bytes x
unfolding bound_at
by_byte what name m bytes rest x true one two is-3 is-1 is-2 lawful low fits e h =
    let whole = one_more (head what name m) bytes [] rest rest e refl in
    takes_as (deleted name m, rest) x h
    (record {
      parts = whole ∙ ap (λ w. concat ((w ∷ []) ∷ counted_text name ∷ to_be_bytes w64 m ∷ [] ∷ []) ++ rest) (eqb-true what 3 is-3);
      rest = fits;
      lawful = record { name = lawful; moment = low; facts = tt };
    })
by_byte what name m bytes rest x false true two is-3 is-1 is-2 lawful low fits e h = bound_takes what name m bytes rest x two (binding_byte what true two is-1 is-2 refl) lawful low fits e h
by_byte what name m bytes rest x false false true is-3 is-1 is-2 lawful low fits e h = bound_takes what name m bytes rest x true (binding_byte what false true is-1 is-2 refl) lawful low fits e h
by_byte what name m bytes rest x false false false is-3 is-1 is-2 lawful low fits e h = absurd cc

change_takes : (bytes : List ℕ) (x : Change × List ℕ) → AreBytes bytes → change_at bytes ≡ Some x → Takes change_bytes IsLawfulChange bytes x
unfolding change_at change_after
change_takes [] x fits e = absurd cc
change_takes (what ∷ bytes) x fits e =
    let a = bind_some (text_at is_name bytes) (λ name. moment_in name.1 >>= λ m. change_after what name.0 m.0 m.1) x e in
    let b = bind_some (moment_in a.0.1) (λ m. change_after what a.0.0 m.0 m.1) x a.2 in
    let ta = (text is_name).takes bytes a.0 (bytes-rest what bytes fits) a.1 in
    let tb = moment.takes a.0.1 b.0 ta.rest b.1 in
    let N = counted_text a.0.0 in
    let two = one_more ((what ∷ []) ∷ []) (what ∷ bytes) N bytes a.0.1 refl ta.parts in
    let three = one_more ((what ∷ []) ∷ N ∷ []) (what ∷ bytes) (to_be_bytes w64 b.0.0) a.0.1 b.0.1 two tb.parts in
    by_byte what a.0.0 b.0.0 (what ∷ bytes) b.0.1 x (what == 3) (what == 1) (what == 2) refl refl refl ta.lawful tb.lawful tb.rest three b.2

-- the format of a change by its fields
again_by : (name : List ℕ) (what : What) (m : ℕ) (known : Option Facts) (agreed : IsTrue (agree what known)) (rest : List ℕ) → IfSome known IsLawfulFacts
    → change_after (what_byte what) name m (known_bytes known ++ rest) ≡ Some (change_of name what m known agreed, rest)
unfolding change_after bound_at
again_by name Created m None agreed rest h = absurd cc
again_by name Created m (Some f) agreed rest h = rw (facts.again f rest h) (ap (λ c. Some (c, rest)) (same_change (bound name false m f) (change_of name Created m (Some f) agreed) refl refl refl refl))
again_by name Updated m None agreed rest h = absurd cc
again_by name Updated m (Some f) agreed rest h = rw (facts.again f rest h) (ap (λ c. Some (c, rest)) (same_change (bound name true m f) (change_of name Updated m (Some f) agreed) refl refl refl refl))
again_by name Deleted m None agreed rest h = ap (λ c. Some (c, rest)) (same_change (deleted name m) (change_of name Deleted m None agreed) refl refl refl refl)
again_by name Deleted m (Some f) agreed rest h = absurd cc

change_again : (c : Change) (rest : List ℕ) → IsLawfulChange c → change_at (change_bytes c ++ rest) ≡ Some (c, rest)
unfolding change_at
change_again c rest h =
    let known = known_bytes c.facts ++ rest in
    ap change_at (concat-onto ((what_byte c.what ∷ []) ∷ counted_text c.name ∷ to_be_bytes w64 c.moment ∷ known_bytes c.facts ∷ []) rest)
    ∙ rw ((text is_name).again c.name (to_be_bytes w64 c.moment ++ known) h.name, moment.again c.moment known h.moment) (again_by c.name c.what c.moment c.facts c.agreed rest h.facts)

pub a_change : IsFormat change_at change_bytes IsLawfulChange
a_change = record { takes = change_takes; again = change_again }
