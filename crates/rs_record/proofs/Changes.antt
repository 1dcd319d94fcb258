-- Changes are equal if their fields are.
use Rattle.std.proofs.Common.{◌≡◌, ℕ, List, Option, IsTrue, ap, subst}
use Rattle.std.proofs.Props.{props}
use Rattle.rs_record.specs.ChangeKind.{agree}
use Rattle.rs_record.specs.declared.facts.Facts.{Facts}
use Rattle.rs_record.specs.declared.change.What.{What}
use Rattle.rs_record.specs.declared.change.Change.{Change}

-- a change of these fields
abbrev pub change_of : (name : List ℕ) (what : What) (moment : ℕ) (facts : Option Facts) → IsTrue (agree what facts) → Change
change_of name what moment facts agreed = record { name = name; what = what; moment = moment; facts = facts; agreed = agreed }

agreed_once : (what : What) (facts : Option Facts) → IsProp (IsTrue (agree what facts))
agreed_once what facts = hlevel props

same_facts : (name : List ℕ) (what : What) (moment : ℕ) (facts others : Option Facts) → facts ≡ others
    → (p : IsTrue (agree what facts)) (q : IsTrue (agree what others)) → change_of name what moment facts p ≡ change_of name what moment others q
same_facts name what moment facts others e p =
    let P : Option Facts → Type 0 = λ f. (q : IsTrue (agree what f)) → change_of name what moment facts p ≡ change_of name what moment f q in
    subst P e (λ q. ap (change_of name what moment facts) (agreed_once what facts p q))

same_what : (name : List ℕ) (what other : What) (moment : ℕ) (facts others : Option Facts) → what ≡ other → facts ≡ others
    → (p : IsTrue (agree what facts)) (q : IsTrue (agree other others)) → change_of name what moment facts p ≡ change_of name other moment others q
same_what name what other moment facts others w e p =
    let P : What → Type 0 = λ v. (q : IsTrue (agree v others)) → change_of name what moment facts p ≡ change_of name v moment others q in
    subst P w (same_facts name what moment facts others e p)

pub same_change : (c d : Change) → c.name ≡ d.name → c.what ≡ d.what → c.moment ≡ d.moment → c.facts ≡ d.facts → c ≡ d
same_change c d n w m f =
    let P : List ℕ → Type 0 = λ name. change_of name d.what c.moment d.facts d.agreed ≡ change_of d.name d.what d.moment d.facts d.agreed in
    let Q : List ℕ → Type 0 = λ name. c ≡ change_of name d.what c.moment d.facts d.agreed in
    let R : ℕ → Type 0 = λ moment. c ≡ change_of d.name d.what moment d.facts d.agreed in
    subst R m (subst Q n (same_what c.name c.what d.what c.moment c.facts d.facts w f c.agreed d.agreed))
