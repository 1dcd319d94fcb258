use Rattle.std.proofs.Common.{◌≡◌, true, List, subst, ◌∙◌, Option, Some}
use Rattle.std.specs.Prelude.{IfSome}
use Rattle.rs_extent.specs.Extents.{in_some}
use Rattle.rs_page.specs.declared.place.PageRef.{PageRef}
use Rattle.rs_page.specs.Pages.{extents_of, stored_refs}
use Rattle.rs_image.specs.Reach.{reach, AreInside}
use Rattle.rs_image.proofs.Reaching.{reaches_published}
use Rattle.rs_image.proofs.whole.whole_set.Goals as goal

-- a claim that holds where a value is found
where_some : {A : Type 0} (o : Option A) (x : A) (P : Type 0) → o ≡ Some x → IfSome o (λ _. P) → P
where_some {A} o x P some holds = subst (λ (v : Option A). IfSome v (λ _. P)) some holds

pub are_apart-requires-clause-inside : goal.are_apart-requires-clause-inside
are_apart-requires-clause-inside c b is =
    let root = c.args.root.now in
    let lists = c.args.contents.now in
    let refs : c.deref.result.now ≡ stored_refs lists.published = c.deref.ensures.value ∙ c.in_ok-published.ensures.pages in
    let inside = where_some c.in_ok-used.field-0 c.in-Some.used (AreInside c.args.size (reach root lists)) c.in-Some.is c.in_ok-used.ensures.inside in
    inside b (reaches_published root lists b (subst (λ (pages : List PageRef). in_some (extents_of pages) b ≡ true) refs is))
