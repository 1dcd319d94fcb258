use Rattle.std.proofs.Common.{◌≡◌, List, map, sym, ◌∙◌, ap, subst}
use Rattle.std.specs.List.{AllZip}
use Rattle.rs_record.specs.declared.record.Record.{Record}
use Rattle.rs_page.specs.Pages.{Page}
use Rattle.rs_pages.specs.Dropped.{full_pages}
use Rattle.rs_directory.specs.declared.header.Header.{Header}
use Rattle.rs_changes.specs.History.{Numbered, AreKept, changes_of}
use Rattle.rs_catalogue.specs.Catalogue.{AreHeld, records_of}
use Rattle.rs_image.specs.declared.contents.Contents.{Contents}
use Rattle.rs_image.specs.Reach.{bodies_of}
use Rattle.rs_copy.specs.Laying.{IsMoved, with_extents, as_published, copied_lists}
use Rattle.rs_copy.proofs.Records.{moved_is}
use Rattle.rs_copy.proofs.listing.copied_lists.Goals as goal

pub from_changes-requires-clause-changes : goal.from_changes-requires-clause-changes
from_changes-requires-clause-changes c = subst AreKept (sym c.deref.ensures.value) c.in_ok-changes.ensures.lawful

pub from_records-requires-2 : goal.from_records-requires-2
from_records-requires-2 c = subst AreHeld (sym c.deref-2.ensures.value) c.in_ok-published.ensures.lawful

made_lists : (old : Contents) (held : List Record) (h : Header) (a p : List (Page Record)) (n : Numbered) → AllZip IsMoved (records_of old.catalogue) held
    → h ≡ old.header → a ≡ full_pages held → n ≡ record { first = old.history.first; pages = full_pages (changes_of old.history.pages) }
    → p ≡ full_pages (map (as_published held) (records_of old.published))
    → record { header = h; catalogue = a; history = n; published = p } ≡ copied_lists old (bodies_of held)
made_lists old held h a p n moved header catalogue history published =
    let is : held ≡ with_extents (records_of old.catalogue) (bodies_of held) = moved_is (records_of old.catalogue) held moved in
    let first : a ≡ full_pages (with_extents (records_of old.catalogue) (bodies_of held)) = catalogue ∙ ap (λ (l : List Record). full_pages l) is in
    let last : p ≡ full_pages (map (as_published (with_extents (records_of old.catalogue) (bodies_of held))) (records_of old.published)) =
    published ∙ ap (λ (l : List Record). full_pages (map (as_published l) (records_of old.published))) is in
    λ i. record { header = header i; catalogue = first i; history = history i; published = last i }

pub returns-clause-lists : goal.returns-clause-lists
returns-clause-lists c =
    let old = c.args.old.now in
    let held = c.args.held.now in
    let changes : c.deref.result.now ≡ changes_of old.history.pages = c.deref.ensures.value ∙ c.in_ok-changes.ensures.changes in
    let listed : c.deref-2.result.now ≡ map (as_published held) (records_of old.published) =
    c.deref-2.ensures.value ∙ c.in_ok-published.ensures.records ∙ ap (λ (l : List Record). map (as_published l) (records_of old.published)) c.in_ok-catalogue.ensures.records in
    made_lists old held c.in_ok-same_header.field-0 c.in_ok-catalogue.catalogue c.in_ok-from_records.field-0 c.in_ok-from_changes.field-0 c.requires.alike
    c.in_ok-same_header.ensures c.in_ok-catalogue.ensures.pages
    (c.in_ok-from_changes.ensures.pages ∙ (λ i. record { first = c.first.ensures.value i; pages = full_pages (changes i) }))
    (c.in_ok-from_records.ensures.pages ∙ ap (λ (l : List Record). full_pages l) listed)
