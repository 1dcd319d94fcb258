use Rattle.std.proofs.Common.{◌≡◌, ◌≤◌, ◌<◌, ◌-◌, List, ℕ, true, false, ap, ◌∙◌, sym, subst, rules, leb, length, get_or, arith}
use Rattle.std.proofs.lemmas.Fn.{always_returns_same}
use Rattle.std.proofs.lemmas.List.Sorted.{IsPartitionedBy-leb}
use Rattle.std.specs.List.Sorted.{IsPartitionPoint, IsPartitionedBy}
use Rattle.std.specs.Prelude.{slice_get}
use Rattle.rs_page.specs.Pages.{Page, items_of}
use Rattle.rs_pages.specs.Rule.{items_at}
use Rattle.rs_pages.specs.Starts.{starts_of}
use Rattle.rs_pages.proofs.Counted.{IsPageOf, Begin, some_start, page_of, starts_rise, length-starts}
use Rattle.rs_pages.proofs.pages.Pages.page_of.Given.{Over}
use Rattle.rs_pages.proofs.pages.Pages.page_of.Goals as goal
use Rattle.rs_pages.proofs.pages.Pages.page_of.Goals.{After-partition_point-begun}

-- the number of pages that begin at or before the place
begin : (g : Over) (c : After-partition_point-begun g) → Begin c.self.inside.pages.items c.args.i c.partition_point-begun.result
begin g c =
    let pages : List (Page g.row.T.Denot) = c.self.inside.pages.items in
    let starts : c.deref.result.now ≡ starts_of 0 pages = c.deref.ensures.value ∙ c.self.invariant.starts in
    let rise : IsPartitionedBy (λ start. leb start c.args.i) c.deref.result.now =
    subst (λ (xs : List ℕ). IsPartitionedBy (λ start. leb start c.args.i) xs) (sym starts) (IsPartitionedBy-leb (λ start. start) (starts_of 0 pages) c.args.i (starts_rise 0 pages)) in
    let point : IsPartitionPoint (λ start. leb start c.args.i ≡ true) (λ start. leb start c.args.i ≡ false) (starts_of 0 pages) c.partition_point-begun.result =
    subst (λ (xs : List ℕ). IsPartitionPoint (λ start. leb start c.args.i ≡ true) (λ start. leb start c.args.i ≡ false) xs c.partition_point-begun.result) starts
    (c.partition_point-begun.ensures.partitioned (λ start. leb start c.args.i) (always_returns_same _ _ _ (λ a r f called. search rules)) rise) in
    record {
      inside = subst (λ (pages : List (Page g.row.T.Denot)). c.args.i < length (items_of pages)) (sym c.self.view_is) c.requires;
      below = point.0;
      above = point.1;
    }

pub overflow_sub-k : goal.overflow_sub-k
overflow_sub-k g c = some_start (begin g (goal.at.overflow_sub-k g c).After-partition_point-begun)

pub index-requires : goal.index-requires
index-requires g c =
    let some = some_start (begin g (goal.at.index-requires g c).After-partition_point-begun) in
    omega (arith, some)

pub returns : goal.returns
returns g c =
    let pages : List (Page g.row.T.Denot) = c.self.inside.pages.items in
    let k : ℕ = c.partition_point-begun.result - 1 in
    let most : c.partition_point-begun.result ≤ length pages = omega (arith, length-starts 0 pages, ap length (c.deref.ensures.value ∙ c.self.invariant.starts)) in
    let read : c.index.result.now ≡ get_or (starts_of 0 pages) k c.index.result.now = c.index.ensures ∙ ap (λ xs. get_or xs k c.index.result.now) c.self.invariant.starts in
    let place : IsPageOf pages c.args.i k c.index.result.now =
    subst (λ (start : ℕ). IsPageOf pages c.args.i k start) (sym read) (page_of (begin g (goal.at.returns g c).After-partition_point-begun) most c.index.result.now) in
    record {
      start = place.low;
      item =
          subst (λ (pages : List (Page g.row.T.Denot)). slice_get (items_of pages) c.args.i ≡ slice_get (items_at k pages) (c.args.i - c.index.result.now)) c.self.view_is place.item;
    }
