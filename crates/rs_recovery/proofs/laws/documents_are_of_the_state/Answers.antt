use Rattle.std.proofs.Common.{◌≡◌, List, ℕ, [], ◌∷◌, map, refl, sym, ap}
use Rattle.rs_model.specs.Listed.{entry_of}
use Rattle.rs_model.specs.declared.value.Entry.{Entry}
use Rattle.rs_model.specs.Names.{Names}
use Rattle.rs_model.specs.Listed.{record_of}
use Rattle.rs_catalogue.specs.Catalogue.{records_of}
use Rattle.rs_image.specs.declared.contents.Contents.{Contents}
use Rattle.rs_image.specs.StateOfImage.{state_in}
use Rattle.rs_store.specs.Views.{shown_in}
use Rattle.rs_caps.specs.Shows.{shown_of}
use Rattle.rs_caps.specs.Statements.{IsShownAlike}
use Rattle.rs_recovery.proofs.laws.documents_are_of_the_state.Goals as goal

entries_stay : (m : Names Entry) → map entry_of (map record_of m) ≡ m
entries_stay [] = refl
entries_stay (e ∷ m) = ap (λ rest. e ∷ rest) (entries_stay m)

-- the view of the stored lists shows the state, except for the blocks of the published records
shown_alike : (image : List ℕ) (c : Contents) → IsShownAlike (shown_in c) (shown_of (state_in image c))
shown_alike image c = record {
  base = refl;
  limit = refl;
  start = refl;
  number = refl;
  at = refl;
  published = sym (entries_stay (map entry_of (records_of c.published)));
  changes = refl;
  first = refl;
  begin = refl;
}

pub returns : goal.returns
returns c image lists doc = c.blocks_are_not_shown.ensures.alike (shown_in lists) (shown_of (state_in image lists)) doc (shown_alike image lists)
