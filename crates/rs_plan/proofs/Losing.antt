-- The entries that pages lose, one command or item after the other.
use Rattle.std.proofs.Common.{◌≡◌, inl, inr, ℕ, true, false, List, [], ◌∷◌, ◌++◌, Option, Some, None, refl, sym, ap, subst}
use Rattle.std.specs.Prelude.{All}
use Rattle.std.specs.List.{cons_option}
use Rattle.std.proofs.lemmas.List.{map-append}
use Rattle.std.proofs.lemmas.List.Elements.{All-nil, All-cons, All-append, All-weaker}
use Rattle.rs_extent.specs.declared.Extent.{Extent}
use Rattle.rs_extent.specs.Extents.{in_some, AreApart, AreDisjoint}
use Rattle.rs_plan.proofs.FromBelow.{not_true, not_both, some_front, some_behind, some_of_both, apart_both}
use Rattle.rs_page.specs.declared.place.PageRef.{PageRef}
use Rattle.rs_page.specs.Pages.{extents_of}
use Rattle.rs_page.specs.SharedPages.{IsSublist}
use Rattle.rs_plan.proofs.Sublists.{itself, skipped, mapped, apart_of, among}
use Rattle.rs_plan.proofs.Freed.{PartTurns}
use Rattle.rs_plan.proofs.FreedPages.{LosesOne}
use Rattle.rs_plan.proofs.FreedParts.{none_in, replaced, page_replaced}

-- A part after two steps, where the second step removes no block that the first one made.
pub turns_both : (old gone mid made more_gone new more_made : List Extent) → PartTurns old gone mid made → PartTurns mid more_gone new more_made
    → AreDisjoint (in_some made) (in_some more_gone) → PartTurns old (gone ++ more_gone) new (made ++ more_made)
turns_both old gone mid made more_gone new more_made one other beside = record {
  reached = λ k is. elim (some_of_both gone more_gone k is) [
    | inl first ↦ one.reached k first
    | inr second ↦ (was_old k second).0
  ];
  apart = apart_both gone more_gone one.apart other.apart
      (λ k first. not_true (in_some more_gone k) (λ second. not_both (in_some gone k) first (was_old k second).1));
  comes = λ k is. elim (other.comes k is) [
    | inl left ↦ elim (one.comes k left.0) [
      | inl stayed ↦ inl (stayed.0, neither k stayed.1 left.1)
      | inr new ↦ inr (some_front made more_made k new)
    ]
    | inr new ↦ inr (some_behind made more_made k new)
  ];
  stays = λ k is. elim (one.stays k is) [
    | inl lost ↦ inl (some_front gone more_gone k lost)
    | inr left ↦ elim (other.stays k left) [ inl lost ↦ inl (some_behind gone more_gone k lost) | inr stayed ↦ inr stayed ]
  ];
  written = λ k is. elim (some_of_both made more_made k is) [
    | inl first ↦ elim (other.stays k (one.written k first)) [
      | inl lost ↦ absurd (not_both (in_some more_gone k) lost (beside k first))
      | inr stayed ↦ stayed
    ]
    | inr second ↦ other.written k second
  ];
}
  where
    was_old : (k : ℕ) → in_some more_gone k ≡ true → (in_some old k ≡ true) × (in_some gone k ≡ false)
    was_old k is = elim (one.comes k (other.reached k is)) [
      | inl stayed ↦ stayed
      | inr new ↦ absurd (not_both (in_some more_gone k) is (beside k new))
    ]

    neither : (k : ℕ) → in_some gone k ≡ false → in_some more_gone k ≡ false → in_some (gone ++ more_gone) k ≡ false
    neither k a b = not_true (in_some (gone ++ more_gone) k) (λ is. elim (some_of_both gone more_gone k is) [
      | inl first ↦ not_both (in_some gone k) first a
      | inr second ↦ not_both (in_some more_gone k) second b
    ])

-- All entries are kept but these, which are among them.
pub record LosesAll (gone old kept : List PageRef) : Type 0 where
  pub part : IsSublist kept old
  pub turns : AreApart (extents_of old) → PartTurns (extents_of old) (extents_of gone) (extents_of kept) []
  pub each : All (λ e. IsSublist (e ∷ []) old) gone

-- no entry is lost
pub loses_none : (refs : List PageRef) → LosesAll [] refs refs
loses_none refs = record {
  part = itself refs;
  turns = λ apart. record {
    reached = λ k is. none_in k _ is;
    apart = tt;
    comes = λ k is. inl (is, refl);
    stays = λ k is. inr is;
    written = λ k is. none_in k _ is;
  };
  each = All-nil (λ e. IsSublist (e ∷ []) refs);
}

-- one entry, or no entry
without : (entry : Option PageRef) (front back : List PageRef) → IsSublist (front ++ back) (front ++ cons_option entry back)
without None [] back = itself back
without (Some e) [] back = skipped back back e (itself back)
without entry (x ∷ front) back = inl (refl, without entry front back)

behind : (e : PageRef) (front back : List PageRef) → IsSublist (e ∷ []) (front ++ e ∷ back)
behind e [] back = inl (refl, tt)
behind e (x ∷ front) back = inr (behind e front back)

one_of : (entry : Option PageRef) (front back : List PageRef) → All (λ e. IsSublist (e ∷ []) (front ++ cons_option entry back)) (cons_option entry [])
one_of None front back = All-nil (λ e. IsSublist (e ∷ []) (front ++ back))
one_of (Some x) front back =
    All-cons (λ e. IsSublist (e ∷ []) (front ++ x ∷ back)) x [] (behind x front back) (All-nil (λ e. IsSublist (e ∷ []) (front ++ x ∷ back)))

pub loses_one : (entry : Option PageRef) (old kept : List PageRef) → LosesOne entry old kept → LosesAll (cons_option entry []) old kept
loses_one entry old kept loses = record {
  part = subst (λ (k : List PageRef). IsSublist k old) (sym loses.is)
      (subst (IsSublist (loses.front ++ loses.back)) (sym loses.was) (without entry loses.front loses.back));
  turns = λ apart. replaced (extents_of old) (extents_of kept) (extents_of (cons_option entry [])) [] (page_replaced entry old kept loses) apart;
  each = subst (λ (o : List PageRef). All (λ e. IsSublist (e ∷ []) o) (cons_option entry [])) (sym loses.was) (one_of entry loses.front loses.back);
}

-- some entries, and then others
pub loses_both : (gone old mid more_gone kept : List PageRef) → LosesAll gone old mid → LosesAll more_gone mid kept → LosesAll (gone ++ more_gone) old kept
loses_both gone old mid more_gone kept one other = record {
  part = among kept mid old other.part one.part;
  turns = λ apart.
      subst (λ (l : List Extent). PartTurns (extents_of old) l (extents_of kept) []) (sym (map-append (λ (ref : PageRef). ref.extent) gone more_gone))
      (turns_both (extents_of old) (extents_of gone) (extents_of mid) [] (extents_of more_gone) (extents_of kept) [] (one.turns apart)
      (other.turns (apart_of (extents_of mid) (extents_of old) (mapped (λ ref. ref.extent) mid old one.part) apart)) (λ k is. none_in k _ is));
  each = All-append (λ e. IsSublist (e ∷ []) old) gone more_gone one.each
      (All-weaker (λ e. IsSublist (e ∷ []) mid) (λ e. IsSublist (e ∷ []) old) (λ e is. among (e ∷ []) mid old is one.part) more_gone other.each);
}

-- an entry, if there is one, and then others
pub loses_more : (entry : Option PageRef) (old mid gone kept : List PageRef) → LosesOne entry old mid → LosesAll gone mid kept → LosesAll (cons_option entry gone) old kept
loses_more None old mid gone kept one other = loses_both [] old mid gone kept (loses_one None old mid one) other
loses_more (Some e) old mid gone kept one other = loses_both (e ∷ []) old mid gone kept (loses_one (Some e) old mid one) other

-- The entry is in the list, between the entries before it and those after it.
pub record StandsIn (e : PageRef) (refs : List PageRef) : Type 0 where
  pub front : List PageRef
  pub back : List PageRef
  pub is : refs ≡ front ++ e ∷ back

pub stands_in : (e : PageRef) (refs : List PageRef) → IsSublist (e ∷ []) refs → StandsIn e refs
stands_in e [] h = absurd h
stands_in e (x ∷ refs) h = elim h [
  | inl here ↦ record { front = []; back = refs; is = ap (λ (y : PageRef). y ∷ refs) (sym here.0) }
  | inr later ↦ let rest = stands_in e refs later in record { front = x ∷ rest.front; back = rest.back; is = ap (λ (l : List PageRef). x ∷ l) rest.is }
]
