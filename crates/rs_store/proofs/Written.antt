-- The places of a plan, and the writes to them in sequence.
use Rattle.std.proofs.Common.{◌≡◌, ℕ, ◌+◌, ◌*◌, ◌<◌, ◌≤◌, Bool, true, List, [], ◌∷◌, ◌++◌, length, sym, ◌∙◌, subst, arith, Result, Ok, Err, OnOk}
use Rattle.std.specs.List.{AllZip}
use Rattle.std.proofs.lemmas.List.{append_assoc}
use Rattle.rs_disk.specs.Medium.{DiskState}
use Rattle.rs_extent.specs.declared.Extent.{Extent}
use Rattle.rs_extent.specs.Extents.{in_some, IsOnDisk, IsBeside, IsSubset, AreBeside, AreApart, AreOnDisk}
use Rattle.rs_body.specs.Blocks.{part, IsSized}
use Rattle.rs_body.specs.Outside.{Keeps, WritesOnly}
use Rattle.rs_store.proofs.FromBelow.{part_kept, outside_on, some_first, some_rest, beside_first, in_one, fits_sized, written_stay, some_front, some_behind, beside_front, beside_behind, apart_front, apart_behind, beside_between}
use Rattle.rs_page.specs.Items.{record_format, change_format}
use Rattle.rs_page.specs.Pages.{placed_extents}
use Rattle.rs_image.specs.Reach.{AreInside, blocks_of_disk}
use Rattle.rs_plan.specs.declared.plan.Plan.{Plan}
use Rattle.rs_plan.specs.Plans.{AreBodies, places, planned_listing, AreWritten}
use Rattle.rs_store.specs.Writing.{AreWrittenPages}

pub on_ok : {T E : Type 0} {P Q : Type 0} (result : Result T E) → (P → Q) → OnOk result P → OnOk result Q
on_ok (Ok x) from p = from p
on_ok (Err e) from p = tt

-- the blocks of the pages of a plan, and of the pages and the directory
abbrev pub pages_of : Plan → List Extent
pages_of p = placed_extents p.contents.catalogue ++ placed_extents p.contents.history.pages

abbrev pub behind_bodies : Plan → List Extent
behind_bodies p = pages_of p ++ p.directory ∷ []

places_are : (p : Plan) → places p ≡ p.bodies.items ++ behind_bodies p
places_are p = simp append_assoc

-- A set that is disjoint from the places of a plan is disjoint from its bodies, its pages and its directory.
pub record AreEachBeside (kept : ℕ → Bool) (p : Plan) : Type 0 where
  pub bodies : AreBeside kept p.bodies.items
  pub pages : AreBeside kept (pages_of p)
  pub directory : IsBeside kept p.directory

pub beside_each : (kept : ℕ → Bool) (p : Plan) → AreBeside kept (places p) → AreEachBeside kept p
beside_each kept p beside =
    let all : AreBeside kept (p.bodies.items ++ behind_bodies p) = subst (λ (es : List Extent). AreBeside kept es) (places_are p) beside in
    let behind = beside_behind kept p.bodies.items (behind_bodies p) all in
    record {
      bodies = beside_front kept p.bodies.items (behind_bodies p) all;
      pages = beside_front kept (pages_of p) (p.directory ∷ []) behind;
      directory = beside_first kept p.directory [] (beside_behind kept (pages_of p) (p.directory ∷ []) behind);
    }

-- The places of a plan are disjoint from one another.
pub record AreEachApart (p : Plan) : Type 0 where
  pub bodies : AreApart p.bodies.items
  pub pages : AreApart (pages_of p)
  pub bodies_pages : AreBeside (in_some p.bodies.items) (pages_of p)
  pub bodies_directory : IsBeside (in_some p.bodies.items) p.directory
  pub pages_directory : IsBeside (in_some (pages_of p)) p.directory

pub apart_each : (p : Plan) → AreApart (places p) → AreEachApart p
apart_each p apart =
    let all : AreApart (p.bodies.items ++ behind_bodies p) = subst (λ (es : List Extent). AreApart es) (places_are p) apart in
    let behind = apart_behind p.bodies.items (behind_bodies p) all in
    let bodies = in_some p.bodies.items in
    let beside : AreBeside bodies (behind_bodies p) = beside_between p.bodies.items (behind_bodies p) all in
    record {
      bodies = apart_front p.bodies.items (behind_bodies p) all;
      pages = apart_front (pages_of p) (p.directory ∷ []) behind;
      bodies_pages = beside_front bodies (pages_of p) (p.directory ∷ []) beside;
      bodies_directory = beside_first bodies p.directory [] (beside_behind bodies (pages_of p) (p.directory ∷ []) beside);
      pages_directory = beside_first (in_some (pages_of p)) p.directory [] (beside_between (pages_of p) (p.directory ∷ []) behind);
    }

-- The blocks of its pages are among them, and so are those of its directory.
pub pages_among : (p : Plan) → IsSubset (in_some (pages_of p)) (in_some (places p))
pages_among p b is =
    subst (λ (es : List Extent). in_some es b ≡ true) (sym (places_are p))
    (some_behind p.bodies.items (behind_bodies p) b (some_front (pages_of p) (p.directory ∷ []) b is))

pub directory_among : (p : Plan) → IsSubset (in_some (p.directory ∷ [])) (in_some (places p))
directory_among p b is =
    subst (λ (es : List Extent). in_some es b ≡ true) (sym (places_are p))
    (some_behind p.bodies.items (behind_bodies p) b (some_behind (pages_of p) (p.directory ∷ []) b is))

-- They lie on the disk.
on_disk : (size b : ℕ) → b < blocks_of_disk size → 512 * b + 512 ≤ size
on_disk size b lt = omega arith

pub record AreEachOnDisk (size : ℕ) (p : Plan) : Type 0 where
  pub bodies : AreOnDisk p.bodies.items size
  pub pages : AreOnDisk (pages_of p) size
  pub directory : IsOnDisk p.directory size

pub inside_each : (size : ℕ) (p : Plan) → AreInside size (places p) → AreEachOnDisk size p
inside_each size p inside =
    let all : AreOnDisk (p.bodies.items ++ behind_bodies p) size =
    subst (λ (es : List Extent). AreOnDisk es size) (places_are p) (λ b is. on_disk size b (inside b is).1) in
    let behind : AreOnDisk (behind_bodies p) size = λ b is. all b (some_behind p.bodies.items (behind_bodies p) b is) in
    record {
      bodies = λ b is. all b (some_front p.bodies.items (behind_bodies p) b is);
      pages = λ b is. behind b (some_front (pages_of p) (p.directory ∷ []) b is);
      directory = λ b is. behind b (some_behind (pages_of p) (p.directory ∷ []) b (some_first p.directory [] b is));
    }

-- these bodies have exactly the blocks of these extents
abbrev pub AreSized : List Extent → List (List ℕ) → Type 0
AreSized extents bodies = AllZip (λ extent bytes. IsSized extent (length bytes)) extents bodies

-- Bodies in extents of a set stay if the set is kept.
pub bodies_kept_so : (kept : ℕ → Bool) (extents : List Extent) (bodies : List (List ℕ)) → AreSized extents bodies
    → ((b : ℕ) → in_some extents b ≡ true → kept b ≡ true) → (old new : List ℕ) → Keeps kept old new
    → AreBodies old extents bodies → AreBodies new extents bodies
bodies_kept_so kept [] [] sized all old new keeps stand = tt
bodies_kept_so kept [] (bytes ∷ bodies) sized all old new keeps stand = absurd sized
bodies_kept_so kept (e ∷ es) [] sized all old new keeps stand = absurd sized
bodies_kept_so kept (e ∷ es) (bytes ∷ bodies) sized all old new keeps stand = (
  part_kept kept e (length bytes) (fits_sized e (length bytes) sized.0) (λ b is. all b (some_first e es b is)) old new keeps ∙ stand.0,
  bodies_kept_so kept es bodies sized.1 (λ b is. all b (some_rest e es b is)) old new keeps stand.1,
)

-- a set that is disjoint from an extent is disjoint from the list of this extent alone
beside_alone : (kept : ℕ → Bool) (e : Extent) → IsBeside kept e → AreBeside kept (e ∷ [])
beside_alone kept e beside b is = beside b (in_one e b is)

-- The bodies, then the pages, then the directory: all of them are written at the end.
pub all_written : {A B : Type 0} (p : Plan) (bodies : List (List ℕ)) (first mid new : DiskState) → AreApart (places p) → AreSized p.bodies.items bodies
    → AreBodies first.now.seen p.bodies.items bodies → WritesOnly (pages_of p) A first mid → AreWrittenPages mid.now.seen p.contents → WritesOnly (p.directory ∷ []) B mid new
    → part p.directory (length (planned_listing p)) new.now.seen ≡ planned_listing p → AreWritten p bodies new.now.seen
all_written p bodies first mid new apart sized stand pages written last directory =
    let each = apart_each p apart in
    let cat = placed_extents p.contents.catalogue in
    let hist = placed_extents p.contents.history.pages in
    let of_bodies = in_some p.bodies.items in
    let after = outside_on of_bodies first mid new (pages.outside of_bodies each.bodies_pages)
    (last.outside of_bodies (beside_alone of_bodies p.directory each.bodies_directory)) in
    let kept = last.outside (in_some (pages_of p)) (beside_alone (in_some (pages_of p)) p.directory each.pages_directory) in
    record {
      bodies = bodies_kept_so of_bodies p.bodies.items bodies sized (λ b is. is) first.now.seen new.now.seen after.seen stand;
      catalogue = written_stay record_format (in_some (pages_of p)) p.contents.catalogue mid.now.seen new.now.seen (λ b is. some_front cat hist b is) kept.seen written.catalogue;
      history = written_stay change_format (in_some (pages_of p)) p.contents.history.pages mid.now.seen new.now.seen (λ b is. some_behind cat hist b is) kept.seen written.history;
      directory = directory;
    }
