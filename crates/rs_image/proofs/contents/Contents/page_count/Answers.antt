use Rattle.std.proofs.Common.{◌≡◌, ◌≤◌, List, length, sym, subst, arith}
use Rattle.rs_record.specs.declared.record.Record.{Record}
use Rattle.rs_record.specs.declared.change.Change.{Change}
use Rattle.rs_record.specs.Limits.{most_items}
use Rattle.rs_page.specs.Pages.{Page}
use Rattle.rs_pages.specs.Rule.{HaveItems}
use Rattle.rs_catalogue.specs.Catalogue.{AreHeld, records_of}
use Rattle.rs_changes.specs.History.{AreKept, changes_of}
use Rattle.rs_image.proofs.Counts.{few_catalogue, few_history}
use Rattle.rs_image.proofs.contents.Contents.page_count.Goals as goal

-- the lent pages are few
few_records : (pages lists : List (Page Record)) → pages ≡ lists → AreHeld (records_of lists) → HaveItems pages → length pages ≤ most_items
few_records pages lists same held some = few_catalogue pages (record { some = some; held = subst (λ l. AreHeld (records_of l)) (sym same) held })

few_changes : (pages lists : List (Page Change)) → pages ≡ lists → AreKept (changes_of lists) → HaveItems pages → length pages ≤ most_items
few_changes pages lists same kept some = few_history pages (record { some = some; kept = subst (λ l. AreKept (changes_of l)) (sym same) kept })

pub overflow_add-result : goal.overflow_add-result
overflow_add-result c =
    let one = c.page_count-catalogue.ensures in
    let two = c.page_count-history.ensures in
    omega (
      arith,
      one.value,
      few_records _ _ c.as_pages.ensures.value c.as_pages.ensures.lawful one.some,
      two.value,
      few_changes _ _ c.as_pages-2.ensures.value c.as_pages-2.ensures.lawful two.some,
    )

pub overflow_add-result-2 : goal.overflow_add-result-2
overflow_add-result-2 c =
    let one = c.page_count-catalogue.ensures in
    let two = c.page_count-history.ensures in
    let three = c.page_count.ensures in
    omega (
      arith,
      one.value,
      few_records _ _ c.as_pages.ensures.value c.as_pages.ensures.lawful one.some,
      two.value,
      few_changes _ _ c.as_pages-2.ensures.value c.as_pages-2.ensures.lawful two.some,
      three.value,
      few_records _ _ c.as_pages-3.ensures.value c.as_pages-3.ensures.lawful three.some,
    )

pub returns-clause-most : goal.returns-clause-most
returns-clause-most c =
    let one = c.page_count-catalogue.ensures in
    let two = c.page_count-history.ensures in
    let three = c.page_count.ensures in
    omega (
      arith,
      one.value,
      few_records _ _ c.as_pages.ensures.value c.as_pages.ensures.lawful one.some,
      two.value,
      few_changes _ _ c.as_pages-2.ensures.value c.as_pages-2.ensures.lawful two.some,
      three.value,
      few_records _ _ c.as_pages-3.ensures.value c.as_pages-3.ensures.lawful three.some,
    )
