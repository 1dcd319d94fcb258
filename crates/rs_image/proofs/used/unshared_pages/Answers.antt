use Rattle.std.proofs.Common.{ap, sym, ◌∙◌}
use Rattle.std.specs.List.{list_any}
use Rattle.std.proofs.lemmas.List.Sorted.{list_any-IsPermutation}
use Rattle.rs_page.specs.Pages.{same_page, stored_refs}
use Rattle.rs_image.proofs.Reached.{unshared_more, one_pushed, none_pushed}
use Rattle.rs_image.proofs.used.unshared_pages.Goals.{then-not-is_among+in_ok-push, else-not-is_among}
use Rattle.rs_image.proofs.used.unshared_pages.Goals as goal

pub loop-page-preserved : goal.loop-page-preserved
loop-page-preserved c =
    let shared = c.is_among.ensures ∙ ap (list_any (same_page _)) c.deref.ensures.value
    ∙ sym (list_any-IsPermutation (same_page _) _ _ c.sort_unstable.ensures.permutation) ∙ ap (list_any (same_page _)) c.in_ok-sorted.ensures.pages in
    let more = unshared_more c.deref-page-items.result.now (stored_refs c.args.contents.now.catalogue) c.loop-page.page-index _ c.is_among.result c.loop-page-test.true shared in
    elim c.if-not-is_among.branch [
      | then-not-is_among+in_ok-push w ↦
          ap (λ v. v.items) w.pages-is ∙ one_pushed _ _ _ _ _ c.is_among.result w.in_ok-push.ensures.items c.loop-page.invariant w.if-not-is_among.true more
      | else-not-is_among w ↦ ap (λ v. v.items) w.pages-is ∙ none_pushed _ _ _ _ c.is_among.result c.loop-page.invariant w.if-not-is_among.false more
    ]
