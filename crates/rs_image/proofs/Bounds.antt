-- The length of a directory.
use Rattle.std.proofs.Common.{arith, ◌≡◌, ◌∙◌, ◌<◌, ◌≤◌, ◌^◌, ℕ, suc, true, List, [], ◌∷◌, length, length-append, vec_len, Vec, Global, Option, Some, None, Result, Ok, Err, ap}
use Rattle.std.specs.Prelude.{IfOk, IsTrue, nat_le, All}
use Rattle.std.specs.List.{cons_option}
use Rattle.std.proofs.lemmas.Bool.{and_parts}
use Rattle.std.proofs.lemmas.Bool.Decides.{nat_tests}
use Rattle.std.proofs.lemmas.List.Elements.{All-head, All-tail}
use Rattle.rs_record.specs.Base.{is_base}
use Rattle.rs_page.specs.declared.place.PageRef.{PageRef}
use Rattle.rs_page.specs.Pages.{Page, stored_ref, stored_refs, items_of}
use Rattle.rs_directory.specs.declared.header.Header.{Header}
use Rattle.rs_directory.specs.Directory.{written_format, IsDirectory, directory_length}
use Rattle.rs_image.specs.declared.contents.Contents.{Contents}
use Rattle.rs_image.specs.StateOfImage.{AreAllStored, directory_bytes_of, pages_in_all}

at_most : (n : ℕ) → nat_le n 128 ≡ true → n ≤ 128
at_most n is = grind (arith, nat_tests)

short_base : (base : List ℕ) → IsTrue (is_base base) → length base ≤ 128
short_base base is =
    let most = and_parts _ _ is in
    let front = and_parts _ _ most.0 in
    at_most (length base) (and_parts (nat_le 8 (length base)) (nat_le (length base) 128) front.0).1

one_more : (o : Option PageRef) (refs : List PageRef) → length (cons_option o refs) ≤ suc (length refs)
one_more None refs = omega arith
one_more (Some ref) refs = omega arith

-- where every page has items, there are no more references than items
fewer_refs : {T : Type 0} (pages : List (Page T)) → All (λ page. 1 ≤ length page.items) pages → length (stored_refs pages) ≤ length (items_of pages)
fewer_refs [] some = omega arith
fewer_refs {T} (page ∷ pages) some =
    let P : Page T → Type 0 = λ page. 1 ≤ length page.items in
    omega (
      arith,
      one_more (stored_ref page.place) (stored_refs pages),
      All-head P page pages some,
      length-append page.items (items_of pages),
      fewer_refs pages (All-tail P page pages some),
    )

-- so a list of at most 50,000 items has at most as many
pub refs_fit : {T : Type 0} (pages : List (Page T)) (refs : List PageRef) → All (λ page. 1 ≤ length page.items) pages → length (items_of pages) ≤ 50000
    → refs ≡ stored_refs pages → length refs ≤ 50000
refs_fit pages refs some room is =
    let same : length refs ≡ length (stored_refs pages) = ap length is in
    omega (arith, same, fewer_refs pages some, room)

-- a directory of three lists of at most 50,000 items has fewer bytes than 32 bits count
pub fits : {E : Type 0} (result : Result (Vec ℕ Global) E) (h : Header) (n : ℕ) (catalogue changes published : List PageRef) → n ≤ 150000
    → IfOk result (λ out. vec_len out ≡ directory_length h n) → IfOk result (λ out. IsDirectory written_format out.items h catalogue changes published)
    → IfOk result (λ out. vec_len out < 2 ^ 32)
fits (Ok out) h n catalogue changes published few size is = omega (arith, size, short_base h.base is.lawful.of_header.base)
fits (Err e) h n catalogue changes published few size is = tt

-- and exactly its length, where all pages are stored
pub sized : {E : Type 0} (result : Result (Vec ℕ Global) E) (c : Contents) (n : ℕ) → (AreAllStored c → n ≡ pages_in_all c)
    → IfOk result (λ out. vec_len out ≡ directory_length c.header n) → IfOk result (λ out. AreAllStored c → vec_len out ≡ directory_bytes_of c)
sized (Ok out) c n same size = λ stored. size ∙ ap (directory_length c.header) (same stored)
sized (Err e) c n same size = tt
