-- The blocks that the lists after a command get.
use Rattle.std.specs.Prelude.{◌≡◌, ℕ, Bool, List, [], ◌∷◌, ◌++◌, length, All}
use Rattle.rs_extent.specs.declared.Extent.{Extent}
use Rattle.rs_fixity.specs.Digests.{digests}
use Rattle.rs_fixity.specs.declared.Digests.{Digests}
use Rattle.rs_record.specs.declared.facts.Facts.{Facts}
use Rattle.rs_record.specs.declared.record.Record.{Record}
use Rattle.rs_body.specs.Blocks.{blocks_of}
use Rattle.rs_page.specs.Items.{record_format, change_format}
use Rattle.rs_page.specs.Pages.{IsTouched, placed_extents}
use Rattle.rs_page.specs.Placing.{Places}
use Rattle.rs_extent.specs.Extents.{AreTaken}
use Rattle.rs_image.specs.declared.contents.Contents.{Contents}
use Rattle.rs_image.specs.StateOfImage.{directory_bytes_of}
use Rattle.rs_plan.specs.declared.plan.Plan.{Plan}
use Rattle.rs_plan.specs.Room.{Takes}

-- the record of a body of n bytes in an extent, with these digests
abbrev pub record_of_body : List ℕ → List ℕ → ℕ → Digests → Extent → ℕ → Record
record_of_body name kind n digests body moment =
    record { name = name; kind = kind; length = n; digests = digests; moment = moment; extent = body }

-- the record of these bytes
abbrev pub record_made : List ℕ → List ℕ → List ℕ → Extent → ℕ → Record
record_made name kind bytes body moment = record_of_body name kind (length bytes) (digests bytes) body moment

-- the facts of a body of n bytes, with these digests
abbrev pub facts_of_body : List ℕ → ℕ → Digests → Facts
facts_of_body kind n digests = record { kind = kind; length = n; digests = digests }

-- no page has blocks that it is not written to
pub record AreUnplaced (c : Contents) : Type 0 where
  pub catalogue : placed_extents c.catalogue ≡ []
  pub history : placed_extents c.history.pages ≡ []

-- The touched pages of lists, first those of the catalogue and then those of the history, and then their directory,
-- took blocks of a disk. No other part of the lists changed.
pub record HaveTheirPlaces (used : List Bool) (c placed : Contents) (found : Extent) (after : List Bool) : Type 0 where
  pub after_catalogue : List Bool
  pub after_history : List Bool
  pub catalogue : Places record_format used c.catalogue after_catalogue placed.catalogue
  pub history : Places change_format after_catalogue c.history.pages after_history placed.history.pages
  pub takes_catalogue : AreTaken used after_catalogue (placed_extents placed.catalogue)
  pub takes_history : AreTaken after_catalogue after_history (placed_extents placed.history.pages)
  pub untouched_catalogue : All (λ page. ¬ IsTouched page.place) placed.catalogue
  pub untouched_history : All (λ page. ¬ IsTouched page.place) placed.history.pages
  pub directory : Takes after_history (blocks_of (directory_bytes_of c)) found after
  pub header : placed.header ≡ c.header
  pub first : placed.history.first ≡ c.history.first
  pub published : placed.published ≡ c.published

-- The lists of a plan are these lists once they have their places, and its bodies lie in these extents.
pub record HasItsPlaces (used : List Bool) (bodies : List Extent) (c : Contents) (p : Plan) : Type 0 where
  pub after : List Bool
  pub lists : HaveTheirPlaces used c p.contents p.directory after
  pub bodies_are : p.bodies.items ≡ bodies

-- the places of the pages of these lists, and of this directory
abbrev pub places_of : Contents → Extent → List Extent
places_of c directory = placed_extents c.catalogue ++ placed_extents c.history.pages ++ directory ∷ []
