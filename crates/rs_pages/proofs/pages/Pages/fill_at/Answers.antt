use Rattle.std.proofs.Common.{◌≡◌, length, map, set, ap, ◌∙◌, arith}
use Rattle.rs_pages.specs.Changed.{changed_at, page_filled}
use Rattle.rs_pages.proofs.Changed.{HasItemAt, inside_pages, has_item, is_unstored, list_filled, places_stay, lengths_stay, counted_same}
use Rattle.rs_pages.proofs.pages.Pages.fill_at.Given.{Over}
use Rattle.rs_pages.proofs.pages.Pages.fill_at.Goals as goal
use Rattle.rs_pages.proofs.pages.Pages.fill_at.Goals.{After-index_mut, After-fill}

pub index_mut-requires : goal.index_mut-requires
index_mut-requires g c =
    let inside = inside_pages c.args.k c.args.i c.args.self.now c.requires.within in
    omega (arith, inside, ap length c.self.view_is, c.self.inside.pages.ok.0)

-- the page that the item is in
found : (g : Over) (c : After-index_mut g) → HasItemAt c.self.inside.pages.items c.args.self.now c.args.k c.args.i c.index_mut.result.now
found g c = record { seen = c.self.view_is; within = c.requires.within; found = c.index_mut.ensures.value }

pub fill-requires-clause-within : goal.fill-requires-clause-within
fill-requires-clause-within g c = has_item (found g (goal.at.fill-requires-clause-within g c).After-index_mut)

pub fill-requires-clause-not_stored : goal.fill-requires-clause-not_stored
fill-requires-clause-not_stored g c = is_unstored (found g (goal.at.fill-requires-clause-not_stored g c).After-index_mut) c.requires.not_stored

-- the list, with the item filled
filled : (g : Over) (c : After-fill g)
    → set c.self.inside.pages.items c.args.k c.fill.new.self ≡ changed_at (page_filled (g.T.Fill.filled c.args.digests) c.args.i) c.args.k c.self.inside.pages.items
filled g c =
    let found : HasItemAt c.self.inside.pages.items c.args.self.now c.args.k c.args.i c.index_mut.result.now =
    record { seen = c.self.view_is; within = c.requires.within; found = c.index_mut.ensures.value } in
    list_filled found (g.T.Fill.filled c.args.digests) c.fill.new.self c.fill.ensures.items c.fill.ensures.place

pub invariant_of-self : goal.invariant_of-self
invariant_of-self g c =
    let is = filled g (goal.at.invariant_of-self g c).After-fill in
    counted_same _ c.self.inside.pages.items c.self.inside.starts.items c.self.inside.len
    (ap (map (λ p. length p.items)) is ∙ lengths_stay (g.T.Fill.filled c.args.digests) c.args.i c.args.k c.self.inside.pages.items) c.self.invariant

pub returns-clause-pages : goal.returns-clause-pages
returns-clause-pages g c =
    filled g (goal.at.returns-clause-pages g c).After-fill ∙ ap (changed_at (page_filled (g.T.Fill.filled c.args.digests) c.args.i) c.args.k) c.self.view_is

pub returns-clause-places : goal.returns-clause-places
returns-clause-places g c =
    ap (map (λ p. p.place)) (filled g (goal.at.returns-clause-places g c).After-fill)
    ∙ places_stay (g.T.Fill.filled c.args.digests) c.args.i c.args.k c.self.inside.pages.items ∙ ap (map (λ p. p.place)) c.self.view_is

pub returns-clause-lengths : goal.returns-clause-lengths
returns-clause-lengths g c =
    ap (map (λ p. length p.items)) (filled g (goal.at.returns-clause-lengths g c).After-fill)
    ∙ lengths_stay (g.T.Fill.filled c.args.digests) c.args.i c.args.k c.self.inside.pages.items ∙ ap (map (λ p. length p.items)) c.self.view_is
