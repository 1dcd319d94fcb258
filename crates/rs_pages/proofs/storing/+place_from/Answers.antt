use Rattle.std.proofs.Common.{◌≡◌, ℕ, take, set, ap, ◌∙◌, subst, arith, List}
use Rattle.std.specs.Prelude.{All}
use Rattle.std.proofs.Math.Seq.{take-length}
use Rattle.std.proofs.lemmas.List.{length-set}
use Rattle.std.proofs.lemmas.Result.{err_from_is_err_and}
use Rattle.rs_page.specs.Pages.{Page, IsTouched}
use Rattle.rs_pages.proofs.Placed.{PlacesFirst, places_none, places_behind, full_at, full_behind, settled_behind}
use Rattle.rs_pages.proofs.GivenBack.{can_give_at, all_back}
use Rattle.rs_pages.proofs.storing.+place_from.Given.{Over}
use Rattle.rs_pages.proofs.storing.+place_from.Goals as goal
use Rattle.rs_pages.proofs.storing.+place_from.Goals.{In_ok-place_in, After-take_back}

-- the page that a step found and placed
first : (g : Over) (t : ℕ) (c : In_ok-place_in g t) → PlacesFirst g.T.PageItem.format c.args.used.now c.place_in.new.used c.next_touched-k.result c.args.pages.now c.index-pages-k.result c.place_in.new.self
first g t c = record { inside = omega arith; before = c.next_touched-k.ensures.before; touched = c.next_touched-k.ensures.touched; one = c.in_ok-place_in.ensures.ok }

pub returns-then-k-pages-clause-places : goal.returns-then-k-pages-clause-places
returns-then-k-pages-clause-places g t c =
    let pages = c.args.pages.now in
    let all = ap (λ n. take n pages) c.if-k-pages.true ∙ take-length pages in
    places_none g.T.PageItem.format c.args.used.now pages (subst (λ (ps : List (Page g.row.T.Denot)). All (λ page. ¬ IsTouched page.place) ps) all c.next_touched-k.ensures.before)

pub returns-in_err-place_in-clause-full : goal.returns-in_err-place_in-clause-full
returns-in_err-place_in-clause-full g t c =
    let p = err_from_is_err_and c.from_residual.result c.from_residual.ensures.1 in
    rw p.1 (full_at g.T.PageItem.format c.args.used.now c.next_touched-k.result c.args.pages.now c.index-pages-k.result (omega arith) c.next_touched-k.ensures.before c.in_err-place_in.ensures.full)

pub place_from-requires : goal.place_from-requires
place_from-requires g t c κs within =
    let size = length-set c.args.pages.now c.next_touched-k.result c.place_in.new.self in
    let found = first g t (goal.at.place_from-requires g t c).In_ok-place_in in
    (omega (arith, size, found.inside, c.decreases, c.next_touched-k.ensures.start), (within, (omega (arith, size, found.inside), settled_behind found)))

pub take_back-requires : goal.take_back-requires
take_back-requires g t c = record { taken = can_give_at (first g t (goal.at.take_back-requires g t c).In_ok-place_in) _ c.in-Err.ensures.unchanged c.in-Err.ensures.used }

pub returns-in-Err-clause-full : goal.returns-in-Err-clause-full
returns-in-Err-clause-full g t c = full_behind _ _ _ _ (first g t (goal.at.returns-in-Err-clause-full g t c).In_ok-place_in) c.in-Err.ensures.full

-- all that was placed is given back
back : (g : Over) (t : ℕ) (c : After-take_back g t)
    → PlacesFirst g.T.PageItem.format c.args.used.now c.place_in.new.used c.next_touched-k.result c.args.pages.now c.index-pages-k.result c.place_in.new.self
    → (c.take_back.new.used ≡ c.args.used.now) × (set c.place_from.new.pages c.next_touched-k.result c.take_back.new.self ≡ c.args.pages.now)
back g t c found =
    all_back found c.index-pages-k-in-Err.result c.in-Err.ensures.unchanged c.in-Err.ensures.used c.take_back.new.used c.take_back.new.self
    c.take_back.ensures.items c.take_back.ensures.place c.take_back.ensures.used

pub returns-in-Err-clause-used : goal.returns-in-Err-clause-used
returns-in-Err-clause-used g t c =
    let at = goal.at.returns-in-Err-clause-used g t c in
    (back g t at.After-take_back (first g t at.In_ok-place_in)).0

pub returns-in-Err-clause-unchanged : goal.returns-in-Err-clause-unchanged
returns-in-Err-clause-unchanged g t c =
    let at = goal.at.returns-in-Err-clause-unchanged g t c in
    (back g t at.After-take_back (first g t at.In_ok-place_in)).1

pub returns-clause-places : goal.returns-clause-places
returns-clause-places g t c = places_behind _ _ _ _ _ _ (first g t (goal.at.returns-clause-places g t c).In_ok-place_in) c.in_default.ensures.places
