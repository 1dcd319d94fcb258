-- Parts of a list whose first parts were dropped.
use Rattle.std.proofs.Common.{◌≡◌, ℕ, ◌+◌, ◌*◌, List, take, drop, sym, ap, ◌∙◌, arith}
use Rattle.std.proofs.lemmas.List.{drop-drop}
use Rattle.std.proofs.Math.Seq.{take-add}
use Rattle.rs_record.specs.Changes.{last_moment}
use Rattle.rs_record.specs.declared.change.Change.{Change}
use Rattle.rs_lists.specs.Chunks.{part_at}
use Rattle.rs_caps.proofs.FromBelow.{last_joined}

-- part k of the items after the first g parts is part g + k of all
pub part_dropped : {A : Type 0} (g k limit : ℕ) (items : List A) → part_at k limit (drop (g * limit) items) ≡ part_at (g + k) limit items
part_dropped g k limit items =
    let e : g * limit + k * limit ≡ (g + k) * limit = grind arith in
    ap (take limit) (drop-drop (k * limit) (g * limit) items) ∙ ap (λ n. take limit (drop n items)) e

-- and that part begins at the same moment
pub moment_dropped : (g k limit t : ℕ) (changes : List Change)
    → last_moment (last_moment t (take (g * limit) changes)) (take (k * limit) (drop (g * limit) changes))
    ≡ last_moment t (take ((g + k) * limit) changes)
moment_dropped g k limit t changes =
    let e : g * limit + k * limit ≡ (g + k) * limit = grind arith in
    sym (last_joined t (take (g * limit) changes) (take (k * limit) (drop (g * limit) changes)))
    ∙ ap (last_moment t) (sym (take-add (g * limit) (k * limit) changes))
    ∙ ap (λ n. last_moment t (take n changes)) e
