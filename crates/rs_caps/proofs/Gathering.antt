-- The items gathered over parts are the list of which they are parts.
use Rattle.std.proofs.Common.{◌≡◌, ℕ, List, [], ◌∷◌, ◌++◌, length, map, refl, sym, ap, ◌∙◌, Option, Some}
use Rattle.std.specs.List.{AllByRecursion}
use Rattle.std.proofs.lemmas.List.{map-append}
use Rattle.rs_caps.proofs.FromBelow.{then_some}
use Rattle.rs_lists.specs.Chunks.{parts_of, part_at}
use Rattle.rs_lists.specs.Text.{numbers_from}
use Rattle.rs_lists.specs.Parts.{AreChunks, parts_joined}
use Rattle.rs_caps.specs.Cut.{◌>>=◌}
use Rattle.rs_caps.specs.Readings.{Document}
use Rattle.rs_caps.specs.Reads.{reads}
use Rattle.rs_caps.specs.Gather.{parts_at}

-- the text fetched at a path reads as a part with these children
pub record IsPartAt {B : Type 0} (children_in : Document → Option (List B)) (fetched : List ℕ → Option (List ℕ)) (path : List ℕ)
    (children : List B) : Type 0 where
  pub text : List ℕ
  pub document : Document
  pub there : fetched path ≡ Some text
  pub read : reads text ≡ Some document
  pub gives : children_in document ≡ Some children

-- the parts of these numbers
gathered : {A B : Type 0} (value : A → B) (children_in : Document → Option (List B)) (fetched : List ℕ → Option (List ℕ))
    (path : ℕ → List ℕ) (limit : ℕ) (items : List A) (numbers : List ℕ)
    → AllByRecursion (λ n. IsPartAt children_in fetched (path n) (map value (part_at n limit items))) numbers
    → parts_at children_in fetched (map path numbers) ≡ Some (map value (parts_joined limit items numbers))
unfolding parts_at
gathered value children_in fetched path limit items [] p = refl
gathered value children_in fetched path limit items (k ∷ numbers) p =
    then_some (fetched (path k)) _ p.0.text _ p.0.there
    (then_some (reads p.0.text) _ p.0.document _ p.0.read
    (then_some (children_in p.0.document) _ (map value (part_at k limit items)) _ p.0.gives
    (ap (λ (o : Option (List _)). o >>= λ rest. Some (map value (part_at k limit items) ++ rest))
    (gathered value children_in fetched path limit items numbers p.1)
    ∙ ap Some (sym (map-append value (part_at k limit items) (parts_joined limit items numbers))))))

pub all_gathered : {A B : Type 0} (value : A → B) (children_in : Document → Option (List B)) (fetched : List ℕ → Option (List ℕ))
    (path : ℕ → List ℕ) (limit : ℕ) (items : List A) → AreChunks limit items
    → AllByRecursion (λ n. IsPartAt children_in fetched (path n) (map value (part_at n limit items)))
    (numbers_from 0 (parts_of (length items) limit))
    → parts_at children_in fetched (map path (numbers_from 0 (parts_of (length items) limit))) ≡ Some (map value items)
all_gathered value children_in fetched path limit items chunks p =
    gathered value children_in fetched path limit items (numbers_from 0 (parts_of (length items) limit)) p
    ∙ ap (λ l. Some (map value l)) chunks.joined
