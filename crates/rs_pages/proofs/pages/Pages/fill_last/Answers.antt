use Rattle.std.proofs.Common.{◌≡◌, ◌-◌, ◌≤◌, ℕ, suc, List, length, sym, ap, ◌∙◌, subst, arith}
use Rattle.rs_page.specs.Pages.{Page, items_of}
use Rattle.rs_pages.specs.Rule.{HaveItems, items_at}
use Rattle.rs_pages.proofs.FilledAt.{ends_some, ends_unstored, some_at, filled_at_end}
use Rattle.rs_pages.proofs.LastFilled.{last_is_filled}
use Rattle.rs_pages.proofs.pages.Pages.fill_last.Given.{Over}
use Rattle.rs_pages.proofs.pages.Pages.fill_last.Goals as goal
use Rattle.rs_pages.proofs.pages.Pages.fill_last.Goals.{After-items_at}

-- the last page, which has an item
record IsLast (g : Over) (c : After-items_at g) : Type 0 where
  end : suc (c.len-k.result - 1) ≡ length c.args.self.now
  some : 1 ≤ length c.items_at.result.now

last : (g : Over) (c : After-items_at g) → IsLast g c
last g c =
    let pages : List (Page g.row.T.Denot) = c.args.self.now in
    let k : ℕ = c.len-k.result - 1 in
    let end : suc k ≡ length pages = omega (arith, c.len-k.ensures, c.self.inside.pages.ok.0, ap length c.self.view_is, ends_some pages c.requires) in
    let some : 1 ≤ length (items_at k pages) = some_at k pages (omega arith) (subst HaveItems c.self.view_is c.self.invariant.some) in
    record { end = end; some = subst (λ (items : List g.row.T.Denot). 1 ≤ length items) (sym c.items_at.ensures) some }

pub overflow_sub-i : goal.overflow_sub-i
overflow_sub-i g c = (last g (goal.at.overflow_sub-i g c).After-items_at).some

pub fill_at-requires-clause-within : goal.fill_at-requires-clause-within
fill_at-requires-clause-within g c =
    omega (arith, ap length c.items_at.ensures, (last g (goal.at.fill_at-requires-clause-within g c).After-items_at).some)

pub fill_at-requires-clause-not_stored : goal.fill_at-requires-clause-not_stored
fill_at-requires-clause-not_stored g c =
    ends_unstored (c.len-k.result - 1) c.args.self.now (last g (goal.at.fill_at-requires-clause-not_stored g c).After-items_at).end c.requires

-- the pages, with the last item filled
filled : goal.returns-clause-pages
filled g c =
    let at = last g (goal.at.returns-clause-pages g c).After-items_at in
    let i : ℕ = length c.items_at.result.now - 1 in
    let end : suc i ≡ length (items_at (c.len-k.result - 1) c.args.self.now) = omega (arith, ap length c.items_at.ensures, at.some) in
    c.fill_at.ensures.pages ∙ sym (filled_at_end (g.T.Fill.filled c.args.digests) (c.len-k.result - 1) i c.args.self.now at.end end)

pub returns-clause-pages : goal.returns-clause-pages
returns-clause-pages = filled

pub returns-clause-items : goal.returns-clause-items
returns-clause-items g c =
    ap (λ pages. items_of pages) (filled g c) ∙ last_is_filled (g.T.Fill.filled c.args.digests) c.args.self.now (subst HaveItems c.self.view_is c.self.invariant.some)
