-- Parts are not empty and not too long, all but the last are full, and together they are the list.
use Rattle.std.proofs.Common.{◌≡◌, ℕ, suc, zero, ◌+◌, ◌-◌, ◌*◌, ◌<◌, ◌≤◌, List, ◌++◌, length, drop, refl, sym, ap, ◌∙◌, arith, length-drop, length-take}
use Rattle.std.proofs.lemmas.List.{take-append-drop, drop-drop, drop_all}
use Rattle.rs_lists.specs.Chunks.{parts_of, part_at}
use Rattle.rs_lists.specs.Parts.{AreChunks, parts_joined}
use Rattle.rs_lists.specs.Text.{numbers_from}
use Rattle.rs_lists.proofs.Parts.{parts_cover, parts_tight, scale}

size : {A : Type 0} (k limit : ℕ) (items : List A) (n : ℕ) → n ≡ length items - k * limit → (length (part_at k limit items) ≤ limit) × (limit ≤ n → length (part_at k limit items) ≡ limit) × (0 < n → 0 < limit → 0 < length (part_at k limit items))
size k limit items n e =
    let a = length-take limit (drop (k * limit) items) in
    let b = length-drop (k * limit) items in
    (omega (arith, a), λ h. omega (arith, a, b), λ h i. omega (arith, a, b))

joined_from : {A : Type 0} (limit : ℕ) (items : List A) (k j : ℕ) → length items ≤ (k + j) * limit → parts_joined limit items (numbers_from k j) ≡ drop (k * limit) items
joined_from limit items k zero h =
    let e : k + 0 ≡ k = omega arith in
    let h' : length items ≤ k * limit = rw e at h in
    sym (drop_all (k * limit) items h')
joined_from limit items k (suc j) h =
    let e : k + suc j ≡ k + 1 + j = omega arith in
    let h' : length items ≤ (k + 1 + j) * limit = rw e at h in
    let d : (k + 1) * limit ≡ k * limit + limit = grind arith in
    ap (λ l. part_at k limit items ++ l) (joined_from limit items (k + 1) j h' ∙ ap (λ n. drop n items) d ∙ sym (drop-drop limit (k * limit) items))
    ∙ take-append-drop limit (drop (k * limit) items)

pub parts_are : {A : Type 0} (limit : ℕ) (items : List A) → 0 < limit → AreChunks limit items
parts_are limit items h =
    let n : ℕ = length items in
    let cover : n ≤ parts_of n limit * limit = parts_cover n limit h in
    let tight : parts_of n limit * limit < n + limit = parts_tight n limit h in
    record {
      some = λ k below.
          let s = scale (k + 1) (parts_of n limit) limit (omega arith) in
          let d : (k + 1) * limit ≡ k * limit + limit = grind arith in
          (size k limit items (n - k * limit) refl).2 (omega arith) h;
      most = λ k. (size k limit items (n - k * limit) refl).0;
      full = λ k below.
          let s = scale (k + 1 + 1) (parts_of n limit) limit (omega arith) in
          let d : (k + 1 + 1) * limit ≡ k * limit + limit + limit = grind arith in
          (size k limit items (n - k * limit) refl).1 (omega arith);
      joined =
          let e : 0 + parts_of n limit ≡ parts_of n limit = omega arith in
          let z : 0 * limit ≡ 0 = grind arith in
          joined_from limit items 0 (parts_of n limit) (rw e cover) ∙ ap (λ m. drop m items) z;
    }
