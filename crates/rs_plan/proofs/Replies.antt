-- The lists of a put, its last change and its reply.
use Rattle.std.proofs.Common.{◌≡◌, ◌≤◌, ℕ, ◌+◌, Bool, true, false, cond, eqb, eq-eqb, ne_eqb, List, [], ◌∷◌, ◌++◌, length, Option, Some, None, refl, sym, ◌∙◌, ap, subst, arith, if◌then◌else◌, Result, Ok, Err, ap₂}
use Rattle.std.specs.Prelude.{MatchOption, is_some, is_none, IfOk}
use Rattle.std.proofs.lemmas.List.{length-append, length-map}
use Rattle.rs_record.specs.declared.record.Record.{Record}
use Rattle.rs_record.specs.declared.change.Change.{Change}
use Rattle.rs_record.specs.declared.facts.Facts.{Facts}
use Rattle.rs_record.specs.Changes.{bound, binding}
use Rattle.rs_catalogue.specs.Catalogue.{records_of}
use Rattle.rs_catalogue.specs.Named.{named}
use Rattle.rs_changes.specs.History.{changes_of, last_of}
use Rattle.rs_model.specs.Names.{Names, value_of, bind}
use Rattle.rs_model.specs.Step.{reply_to}
use Rattle.rs_model.specs.declared.command.Command.TheVariants.{Put}
use Rattle.rs_model.specs.declared.command.Reply.{Reply}
use Rattle.rs_plan.proofs.FromBelow.{length-bind}
use Rattle.rs_image.specs.declared.contents.Contents.{Contents}
use Rattle.rs_image.specs.StateOfImage.{state_in}
use Rattle.rs_plan.specs.Replies.{reply_of, reply_that}
use Rattle.rs_plan.proofs.Rules.{last_pushed}
use Rattle.rs_plan.proofs.Turns.{held_named}
use Rattle.rs_extent.specs.declared.Extent.{Extent}
use Rattle.rs_fixity.specs.Digests.{digests}
use Rattle.rs_fixity.specs.declared.Digests.{Digests}
use Rattle.rs_page.specs.Pages.{Page}
use Rattle.rs_pages.specs.Rule.{bound_in}
use Rattle.rs_model.specs.declared.command.Item.{Item}
use Rattle.rs_plan.specs.Placed.{record_of_body, facts_of_body}
use Rattle.rs_plan.specs.Turned.{lists_with, lists_after_item, lists_after_put}
use Rattle.rs_model.specs.declared.command.Reply.TheVariants as replies
use Rattle.rs_model.specs.declared.command.Item.TheVariants as single

-- a reply says how the put changed the name
told : (again : Bool) (moment : ℕ) → reply_that (binding again) moment ≡ if again then replies.Updated moment else replies.Created moment
told true moment = refl
told false moment = refl

-- the reply to a put, by the change that it made
pub put_told : (image : List ℕ) (old c : Contents) (name kind bytes : List ℕ) (moment : ℕ) (facts : Facts) (reply : Reply)
    → changes_of c.history.pages ≡ changes_of old.history.pages ++ bound name (is_some (value_of name (named (records_of old.catalogue)))) moment facts ∷ []
    → MatchOption (last_of (changes_of c.history.pages)) ⊥ (λ change. reply ≡ reply_of change) → reply ≡ reply_to (state_in image old) (Put name kind bytes) moment
put_told image old c name kind bytes moment facts reply changes is =
    let again : Bool = is_some (value_of name (named (records_of old.catalogue))) in
    let change : Change = bound name again moment facts in
    let here : reply ≡ reply_of change =
    subst (λ (o : Option Change). MatchOption o ⊥ (λ x. reply ≡ reply_of x)) (ap last_of changes ∙ last_pushed (changes_of old.history.pages) change) is in
    here ∙ told again moment
    ∙ ap (λ (b : Bool). if b then replies.Updated moment else replies.Created moment) (sym (held_named image name (records_of old.catalogue)))

-- there is a last change
pub some_change : (old c : Contents) (change : Change) → changes_of c.history.pages ≡ changes_of old.history.pages ++ change ∷ [] → 1 ≤ length (changes_of c.history.pages)
some_change old c change is = omega (arith, ap (λ (l : List Change). length l) is, length-append (changes_of old.history.pages) (change ∷ []))

-- a catalogue grows where the name was not held
grown : {A : Type 0} (o : Option A) (n m : ℕ) → m ≡ cond (is_none o) (n + 1) n → is_some o ≡ eqb m n
grown None n m is = sym (ne_eqb m n (λ same. omega (arith, is, same)))
grown (Some x) n m is = sym (eq-eqb m n is)

pub held_again : (name : List ℕ) (r : Record) (old next : List Record) → named next ≡ bind name r (named old)
    → is_some (value_of name (named old)) ≡ eqb (length next) (length old)
held_again name r old next is =
    grown (value_of name (named old)) (length old) (length next)
    (sym (length-map next _) ∙ (ap (λ (m : Names Record). length m) is
    ∙ (length-bind name r (named old) ∙ ap (λ (n : ℕ). cond (is_none (value_of name (named old))) (n + 1) n) (length-map old _))))

-- with the record in its catalogue, and the change that binds it
pub put_made : {E : Type 0} (made : Result Contents E) (old : Contents) (r : Record) (catalogue : List (Page Record)) (change : Change) (again : Bool)
    → IfOk made (λ lists. lists ≡ lists_with old catalogue change change.moment) → catalogue ≡ bound_in (λ (r : Record). r.name) r old.catalogue
    → change ≡ bound r.name again r.moment (facts_of_body r.kind r.length r.digests) → is_some (value_of r.name (named (records_of old.catalogue))) ≡ again
    → IfOk made (λ lists. lists ≡ lists_after_put old r)
put_made (Err e) old r catalogue change again made_is catalogue_is change_is held = tt
put_made (Ok lists) old r catalogue change again made_is catalogue_is change_is held =
    made_is
    ∙ (ap₂ (λ (pages : List (Page Record)) (x : Change). lists_with old pages x x.moment) catalogue_is change_is
    ∙ ap (λ (b : Bool). lists_with old (bound_in (λ (r : Record). r.name) r old.catalogue) (bound r.name b r.moment (facts_of_body r.kind r.length r.digests)) r.moment) (sym held))

-- of a put among the items of a group, whose bytes were read and counted
pub item_made : {E : Type 0} (made : Result Contents E) (old : Contents) (item : Item) (name kind bytes read : List ℕ) (known : Digests) (body : Extent) (moment : ℕ)
    → item ≡ single.Put name kind bytes → read ≡ bytes → known ≡ digests read
    → IfOk made (λ lists. lists ≡ lists_after_put old (record_of_body name kind (length read) known body moment))
    → IfOk made (λ lists. lists ≡ lists_after_item old item moment body)
item_made (Err e) old item name kind bytes read known body moment is same found made_is = tt
item_made (Ok lists) old item name kind bytes read known body moment is same found made_is =
    made_is
    ∙ ap₂ (λ (l : List ℕ) (d : Digests). lists_after_put old (record_of_body name kind (length l) d body moment)) same (found ∙ ap digests same)
    ∙ ap (λ (i : Item). lists_after_item old i moment body) (sym is)
