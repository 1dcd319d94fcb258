-- Changes of every kind.
use Rattle.std.specs.Prelude.{ℕ, List, [], ◌∷◌, Bool, true, false, if◌then◌else◌, IsTrue, Some, None, refl}
use Rattle.rs_record.specs.ChangeKind.{agree}
use Rattle.rs_record.specs.declared.facts.Facts.{Facts}
use Rattle.rs_record.specs.declared.change.What.{What}
use Rattle.rs_record.specs.declared.change.What.TheVariants.{Created, Updated, Deleted}
use Rattle.rs_record.specs.declared.change.Change.{Change}

-- the kind of a change that binds a name: an update if the name was bound before, else a creation
abbrev pub binding : Bool → What
binding again = if again then Updated else Created

pub binding_agrees : (again : Bool) (facts : Facts) → IsTrue (agree (binding again) (Some facts))
binding_agrees true facts = refl
binding_agrees false facts = refl

-- the name was bound to these facts, again if it was bound before
abbrev pub bound : List ℕ → Bool → ℕ → Facts → Change
bound name again moment facts =
    record { name = name; what = binding again; moment = moment; facts = Some facts; agreed = binding_agrees again facts }

-- the name was unbound
abbrev pub deleted : List ℕ → ℕ → Change
deleted name moment = record { name = name; what = Deleted; moment = moment; facts = None; agreed = refl }

-- the moment of the last of these changes, or t if the list is empty
abbrev pub last_moment : ℕ → List Change → ℕ
last_moment t [] = t
last_moment t (c ∷ cs) = last_moment c.moment cs
