-- A change has facts and bound a name, or it has none and unbound one.
use Rattle.std.proofs.Common.{◌≡◌, ℕ, List, refl, sym, subst, Option, Some, None, Bool, true, false, ◌⊎◌, inl, inr}
use Rattle.std.specs.Prelude.{IsTrue}
use Rattle.rs_record.specs.ChangeKind.{agree}
use Rattle.rs_record.specs.Changes.{binding, bound, deleted}
use Rattle.rs_record.specs.declared.facts.Facts.{Facts}
use Rattle.rs_record.specs.declared.change.Change.{Change}
use Rattle.rs_record.specs.declared.change.What.{What}
use Rattle.rs_record.specs.declared.change.What.TheVariants.{Created, Updated, Deleted}
use Rattle.rs_caps.proofs.FromBelow.{same_change}

abbrev IsBinding : What → Option Facts → Type 0
IsBinding what facts = (again : Bool) × (f : Facts) × (what ≡ binding again) × (facts ≡ Some f)

abbrev IsDeletion : What → Option Facts → Type 0
IsDeletion what facts = (what ≡ Deleted) × (facts ≡ None)

kind : (what : What) (facts : Option Facts) → IsTrue (agree what facts) → IsBinding what facts ⊎ IsDeletion what facts
kind Created None h = cc
kind Created (Some f) h = inl (false, f, refl, refl)
kind Updated None h = cc
kind Updated (Some f) h = inl (true, f, refl, refl)
kind Deleted None h = inr (refl, refl)
kind Deleted (Some f) h = cc

by_this_kind : (P : Change → Type 0) → ((name : List ℕ) (again : Bool) (moment : ℕ) (f : Facts) → P (bound name again moment f))
    → ((name : List ℕ) (moment : ℕ) → P (deleted name moment)) → (c : Change) → IsBinding c.what c.facts ⊎ IsDeletion c.what c.facts → P c
by_this_kind P of_bound of_deleted c (inl (again, f, what, facts)) =
    subst P (same_change (bound c.name again c.moment f) c refl (sym what) refl (sym facts)) (of_bound c.name again c.moment f)
by_this_kind P of_bound of_deleted c (inr (what, facts)) =
    subst P (same_change (deleted c.name c.moment) c refl (sym what) refl (sym facts)) (of_deleted c.name c.moment)

-- a property of the changes of both kinds is a property of every change
pub by_kind : (P : Change → Type 0) → ((name : List ℕ) (again : Bool) (moment : ℕ) (f : Facts) → P (bound name again moment f))
    → ((name : List ℕ) (moment : ℕ) → P (deleted name moment)) → (c : Change) → P c
by_kind P of_bound of_deleted c = by_this_kind P of_bound of_deleted c (kind c.what c.facts c.agreed)
