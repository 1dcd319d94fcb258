use Rattle.std.proofs.Common.{◌≡◌, map, ap, ◌∙◌, Result, Ok, Err, take, drop, length, ◌++◌}
use Rattle.std.specs.Prelude.{OnOk}
use Rattle.rs_page.specs.Pages.{stored_ref}
use Rattle.rs_pages.specs.Storing.{items_by_page}
use Rattle.rs_pages.proofs.Placed.{placed_keep, counted_slice, slice_whole}
use Rattle.rs_pages.proofs.Taken.{places_touched}
use Rattle.rs_pages.proofs.pages.Pages.place_touched.Given.{Over}
use Rattle.rs_pages.proofs.pages.Pages.place_touched.Goals as goal
use Rattle.rs_pages.proofs.pages.Pages.place_touched.Goals.{After-place_from}

then_ok : {A E P Q : Type 0} (r : Result A E) → (P → Q) → OnOk r P → OnOk r Q
then_ok (Ok a) f p = f p
then_ok (Err e) f p = tt

-- the parts of the pages that stay
kept : (g : Over) (c : After-place_from g) → (items_by_page c.place_from.new.pages ≡ items_by_page c.self.inside.pages.items)
    × (map (λ page. stored_ref page.place) c.place_from.new.pages ≡ map (λ page. stored_ref page.place) c.self.inside.pages.items)
kept g c =
    let keep = placed_keep g.T.PageItem.format c.args.used.now c.place_from.new.used c.deref_mut.result.now c.place_from.new.pages c.place_from.result c.place_from.ensures.places c.place_from.ensures.unchanged in
    (keep.0 ∙ ap items_by_page c.deref_mut.ensures.value, keep.1 ∙ ap (map (λ page. stored_ref page.place)) c.deref_mut.ensures.value)

whole : (g : Over) (c : After-place_from g) → take c.self.inside.pages.len (c.place_from.new.pages ++ drop (length c.place_from.new.pages) c.self.inside.pages.items) ≡ c.place_from.new.pages
whole g c = slice_whole c.self.inside.pages.len c.place_from.new.pages c.self.inside.pages.items c.self.inside.pages.ok.0 (kept g c).0

pub invariant_of-self : goal.invariant_of-self
invariant_of-self g c =
    counted_slice c.self.inside.pages.len c.place_from.new.pages c.self.inside.pages.items c.self.inside.starts.items c.self.inside.len c.self.inside.pages.ok.0
    (kept g (goal.at.invariant_of-self g c).After-place_from).0 c.self.invariant

pub returns-clause-ok : goal.returns-clause-ok
returns-clause-ok g c =
    then_ok c.place_from.result
    (places_touched g.T.PageItem.format c.args.used.now c.place_from.new.used c.deref_mut.result.now c.place_from.new.pages _ _ (c.deref_mut.ensures.value ∙ c.self.view_is)
    (whole g (goal.at.returns-clause-ok g c).After-place_from))
    c.place_from.ensures.places

pub returns-clause-items : goal.returns-clause-items
returns-clause-items g c =
    let at = (goal.at.returns-clause-items g c).After-place_from in
    ap items_by_page (whole g at) ∙ (kept g at).0 ∙ ap items_by_page c.self.view_is

pub returns-clause-stored : goal.returns-clause-stored
returns-clause-stored g c =
    let at = (goal.at.returns-clause-stored g c).After-place_from in
    ap (map (λ page. stored_ref page.place)) (whole g at) ∙ (kept g at).1 ∙ ap (map (λ page. stored_ref page.place)) c.self.view_is
