-- The damaged bodies, record by record.
use Rattle.std.proofs.Common.{◌≡◌, ◌≤◌, ◌+◌, ◌*◌, ◌/◌, ℕ, true, List, [], ◌∷◌, ◌++◌, map, not, refl, sym, ◌∙◌, ap, rules}
use Rattle.std.specs.Prelude.{All}
use Rattle.std.specs.List.{filter}
use Rattle.std.proofs.lemmas.List.{map-append}
use Rattle.std.proofs.lemmas.List.Elements.{All-cons, All-head, All-tail, filter-append}
use Rattle.std.proofs.lemmas.List.Sums.{sum_by-cons}
use Rattle.rs_extent.specs.Extents.{in_some}
use Rattle.rs_store.proofs.FromBelow.{some_first, some_rest, some_behind, fits_sized}
use Rattle.rs_commit.specs.declared.root.Root.{Root}
use Rattle.rs_record.specs.declared.record.Record.{Record}
use Rattle.rs_catalogue.specs.Catalogue.{records_of}
use Rattle.rs_model.specs.declared.value.Held.{Held}
use Rattle.rs_image.specs.declared.contents.Contents.{Contents}
use Rattle.rs_image.specs.Reach.{bodies_of}
use Rattle.rs_image.specs.Whole.{IsWhole, IsSoundRecord}
use Rattle.rs_image.specs.StateOfImage.{held_in}
use Rattle.rs_copy.specs.Copies.{calls_for}
use Rattle.rs_store.specs.Shows.{calls_for_held}
use Rattle.rs_store.specs.Verified.{HasItsPlace, damaged_among, is_sound}
use Rattle.rs_store.proofs.Found.{block_fits, lists_reached}

-- the damaged bodies of some records and one more
pub damaged_more : (image : List ℕ) (rs : List Record) (r : Record)
    → damaged_among (map (held_in image) (rs ++ r ∷ [])) ≡ damaged_among (map (held_in image) rs) ++ damaged_among (held_in image r ∷ [])
damaged_more image rs r =
    ap damaged_among (map-append (held_in image) rs (r ∷ []))
    ∙ ap (λ (l : List (List ℕ × Held)). map (λ e. e.0) l) (filter-append (λ e. not (is_sound e.1)) (map (held_in image) rs) (held_in image r ∷ []))
    ∙ map-append (λ e. e.0) (filter (λ e. not (is_sound e.1)) (map (held_in image) rs)) (filter (λ e. not (is_sound e.1)) (held_in image r ∷ []))

-- the calls for held bodies are those for their records
pub calls_for_records : (image : List ℕ) (rs : List Record) → calls_for_held (map (held_in image) rs) ≡ calls_for rs
calls_for_records image [] = refl
calls_for_records image (r ∷ rs) =
    sum_by-cons (λ held. (held.1.entry.facts.length + 16383) / 16384) (held_in image r) (map (held_in image) rs)
    ∙ ap (λ (n : ℕ). (r.length + 16383) / 16384 + n) (calls_for_records image rs)
    ∙ sym (sum_by-cons (λ x. (x.length + 16383) / 16384) r rs)

-- every record of a whole source has its place
places_among : (size low high : ℕ) (rs : List Record) → ((b : ℕ) → in_some (bodies_of rs) b ≡ true → 512 * b + 512 ≤ size) → All (IsSoundRecord low high) rs → All (HasItsPlace size) rs
places_among size low high [] inside sound = search rules
places_among size low high (r ∷ rs) inside sound =
    All-cons (HasItsPlace size) r rs
    (record {
      room = λ b is. inside b (some_first r.extent (bodies_of rs) b is);
      fits = fits_sized r.extent r.length (All-head (IsSoundRecord low high) r rs sound).sized;
    })
    (places_among size low high rs (λ b is. inside b (some_rest r.extent (bodies_of rs) b is)) (All-tail (IsSoundRecord low high) r rs sound))

pub all_have_places : (size : ℕ) (root : Root) (c : Contents) → IsWhole size root c → All (HasItsPlace size) (records_of c.catalogue)
all_have_places size root c whole =
    places_among size c.header.start c.header.last (records_of c.catalogue)
    (λ b is. block_fits size b (whole.inside b (some_behind (lists_reached root c) (bodies_of (records_of c.catalogue)) b is)).1)
    whole.records
