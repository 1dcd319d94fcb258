use Rattle.std.proofs.Common.{◌≡◌, List, ◌∷◌, [], ◌++◌, refl, sym, ◌∙◌, ap, ap₂, subst, append_assoc}
use Rattle.rs_extent.specs.Extents.{AreTaken}
use Rattle.rs_extent.specs.declared.Extent.{Extent}
use Rattle.rs_page.specs.Pages.{placed_extents}
use Rattle.rs_plan.proofs.Extents.{taken_all, can_give, given_back}
use Rattle.rs_plan.proofs.planning.placing.place_lists.Goals as goal

pub give_each-requires : goal.give_each-requires
give_each-requires c =
    let taken = c.take_places-placed.ensures.taken in
    can_give c.args.used.now c.take_places-placed.new.used c.deref-3.result.now
    (taken_all c.args.used.now c.take_each.new.self c.take_places-placed.new.used c.deref-2.result.now taken.0 c.in_ok-taken.taken.items c.deref-3.result.now c.take_each.ensures
    taken.2 (c.in_ok-taken.ensures.items ∙ c.deref.ensures.value ∙ sym c.deref-2.ensures.value) (c.deref-3.ensures.value ∙ taken.1))

pub returns-in_err-directory-clause-same : goal.returns-in_err-directory-clause-same
returns-in_err-directory-clause-same c =
    let taken = c.take_places-placed.ensures.taken in
    given_back c.args.used.now c.take_each.new.self c.take_places-placed.new.used c.give_each.new.self c.deref-2.result.now taken.0 c.in_ok-taken.taken.items c.deref-3.result.now
    c.take_each.ensures taken.2 (c.in_ok-taken.ensures.items ∙ c.deref.ensures.value ∙ sym c.deref-2.ensures.value) (c.deref-3.ensures.value ∙ taken.1) c.give_each.ensures

pub returns-clause-same : goal.returns-clause-same
returns-clause-same c =
    let taken = c.take_places-placed.ensures.taken in
    given_back c.args.used.now c.take_each.new.self c.take_places-placed.new.used c.give_each.new.self c.deref-2.result.now taken.0 c.in_ok-taken.taken.items c.deref-3.result.now
    c.take_each.ensures taken.2 (c.in_ok-taken.ensures.items ∙ c.deref.ensures.value ∙ sym c.deref-2.ensures.value) (c.deref-3.ensures.value ∙ taken.1) c.give_each.ensures

-- the bodies and the places of the lists, one after the other
in_turn : (bodies a b e : List Extent) → bodies ++ ((a ++ b) ++ e) ≡ ((bodies ++ a) ++ b) ++ e
in_turn bodies a b e = sym (append_assoc bodies (a ++ b) e) ∙ ap (λ (l : List Extent). l ++ e) (sym (append_assoc bodies a b))

pub returns-clause-placed : goal.returns-clause-placed
returns-clause-placed c =
    let found = c.in_ok-directory.ensures in
    let bodies = c.args.bodies.items in
    let lists = c.take_places-placed.new.lists in
    record {
      after_bodies = c.take_each.new.self;
      takes = subst (AreTaken c.args.used.now c.take_each.new.self) c.deref-2.ensures.value c.take_each.ensures;
      placed = record { after = c.take_places-placed.new.used; lists = found.placed; bodies_are = refl };
      taken = found.taken.1 ∙ ap₂ (λ (a b : List Extent). a ++ b) (c.in_ok-taken.ensures.items ∙ c.deref.ensures.value) found.taken.3
          ∙ in_turn bodies (placed_extents lists.catalogue) (placed_extents lists.history.pages) (c.in_ok-directory.directory ∷ []);
      reply = refl;
      freed = refl;
      lists = c.take_places-placed.ensures.lists;
    }
