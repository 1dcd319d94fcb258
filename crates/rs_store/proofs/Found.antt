-- The data of a held name on the disk.
use Rattle.std.proofs.Common.{◌≡◌, ◌≤◌, ◌<◌, ◌+◌, ◌*◌, ℕ, true, false, List, [], ◌∷◌, ◌++◌, Option, Some, None, is_some, option_map, map, sym, ◌∙◌, ap, subst, refl, arith}
use Rattle.std.specs.Prelude.{All}
use Rattle.std.specs.declared.cmp.Ordering.{Ordering}
use Rattle.std.specs.declared.cmp.Ordering.TheVariants.{Less, Equal, Greater}
use Rattle.std.proofs.lemmas.List.Elements.{All-head, All-tail}
use Rattle.rs_store.proofs.FromBelow.{some_behind, some_first, some_rest, fits_sized}
use Rattle.rs_disk.specs.Medium.{DiskState}
use Rattle.rs_extent.specs.declared.Extent.{Extent}
use Rattle.rs_extent.specs.Extents.{within, in_some, IsOnDisk}
use Rattle.rs_commit.specs.declared.root.Root.{Root}
use Rattle.rs_record.specs.declared.record.Record.{Record}
use Rattle.rs_model.specs.declared.value.Entry.{Entry}
use Rattle.rs_model.specs.Names.{value_of, by_order, by_bytes}
use Rattle.rs_catalogue.specs.Named.{named}
use Rattle.rs_catalogue.specs.Catalogue.{records_of}
use Rattle.rs_image.specs.declared.contents.Contents.{Contents}
use Rattle.rs_page.specs.Pages.{stored_refs, extents_of}
use Rattle.rs_pages.specs.Storing.{unshared}
use Rattle.rs_image.specs.Reach.{bodies_of, blocks_of_disk}
use Rattle.rs_image.specs.Whole.{IsWhole, IsSoundRecord}
use Rattle.rs_model.specs.State.{entries}
use Rattle.rs_model.specs.Step.{is_held}
use Rattle.rs_model.specs.Listed.{entry_of}
use Rattle.rs_body.specs.declared.read.LoadFault.{LoadFault}
use Rattle.rs_body.specs.declared.read.LoadFault.TheVariants as faults
use Rattle.rs_store.specs.declared.refusal.Refusal.TheVariants.{NotHeld, Damaged}
use Rattle.rs_store.specs.Bodies.{refusal_of_body}
use Rattle.rs_store.specs.Source.{Stored, state_of}
use Rattle.rs_image.specs.StateOfImage.{held_in}

ordered_map : {A B : Type 0} (f : A → B) (o : Ordering) (x : A) (m : Option A) (n : Option B) → n ≡ option_map f m
    → by_order o None (Some (f x)) n ≡ option_map f (by_order o None (Some x) m)
ordered_map f Less x m n e = refl
ordered_map f Equal x m n e = refl
ordered_map f Greater x m n e = e

-- the held value of a name is that of its record, with the bytes that the image has
pub held_value : (image name : List ℕ) (rs : List Record)
    → value_of name (map (held_in image) rs) ≡ option_map (λ r. (held_in image r).1) (value_of name (named rs))
held_value image name [] = refl
held_value image name (r ∷ rs) =
    ordered_map (λ (r : Record). (held_in image r).1) (by_bytes name r.name) r (value_of name (named rs)) (value_of name (map (held_in image) rs))
    (held_value image name rs)

by_case : {P : Type 0} (o : Ordering) (x r : Record) (m : Option Record) → by_order o None (Some x) m ≡ Some r → (x ≡ r → P) → (m ≡ Some r → P) → P
by_case Less x r m e here there = cc
by_case Equal x r m e here there = here (cc)
by_case Greater x r m e here there = there e

-- the record of a name is one of the records
pub found_has : (P : Record → Type 0) (name : List ℕ) (rs : List Record) (r : Record) → value_of name (named rs) ≡ Some r → All P rs → P r
found_has P name [] r e all = cc
found_has P name (x ∷ rs) r e all =
    by_case {P = P r} (by_bytes name x.name) x r (value_of name (named rs)) e
    (λ same. subst P same (All-head P x rs all)) (λ there. found_has P name rs r there (All-tail P x rs all))

found_within : (name : List ℕ) (rs : List Record) (r : Record) (b : ℕ) → value_of name (named rs) ≡ Some r → within r.extent b ≡ true → in_some (bodies_of rs) b ≡ true
found_within name [] r b e is = cc
found_within name (x ∷ rs) r b e is =
    by_case {P = in_some (bodies_of (x ∷ rs)) b ≡ true} (by_bytes name x.name) x r (value_of name (named rs)) e
    (λ same. some_first x.extent (bodies_of rs) b (subst (λ (y : Record). within y.extent b ≡ true) (sym same) is))
    (λ there. some_rest x.extent (bodies_of rs) b (found_within name rs r b there is))

pub block_fits : (size b : ℕ) → b < blocks_of_disk size → 512 * b + 512 ≤ size
block_fits size b less = omega arith

-- the extents that a root reaches before the bodies
abbrev pub lists_reached : Root → Contents → List Extent
lists_reached root c =
    root.directory ∷ extents_of (stored_refs c.catalogue) ++ extents_of (stored_refs c.history.pages)
    ++ extents_of (unshared (stored_refs c.published) (stored_refs c.catalogue))

-- the blocks of a held body lie on the disk, and its bytes fit into them
pub found_room : (size : ℕ) (root : Root) (c : Contents) (name : List ℕ) (r : Record) → IsWhole size root c → value_of name (named (records_of c.catalogue)) ≡ Some r → IsOnDisk r.extent size
found_room size root c name r whole found b is =
    let there = whole.inside b (some_behind (lists_reached root c) (bodies_of (records_of c.catalogue)) b (found_within name (records_of c.catalogue) r b found is)) in
    block_fits size b there.1

pub found_fits : (size : ℕ) (root : Root) (c : Contents) (name : List ℕ) (r : Record) → IsWhole size root c → value_of name (named (records_of c.catalogue)) ≡ Some r → r.length ≤ 512 * r.extent.blocks
found_fits size root c name r whole found =
    fits_sized r.extent r.length (found_has (IsSoundRecord c.header.start c.header.last) name (records_of c.catalogue) r found whole.records).sized

-- a name that has a record is held, ..
pub held_found : (image name : List ℕ) (rs : List Record) (r : Record) → value_of name (named rs) ≡ Some r → value_of name (map (held_in image) rs) ≡ Some (held_in image r).1
held_found image name rs r found = held_value image name rs ∙ ap (λ (o : Option Record). option_map (λ r. (held_in image r).1) o) found

-- .. and no other
pub held_missing : (image name : List ℕ) (rs : List Record) → value_of name (named rs) ≡ None → value_of name (map (held_in image) rs) ≡ None
held_missing image name rs missing = held_value image name rs ∙ ap (λ (o : Option Record). option_map (λ r. (held_in image r).1) o) missing

-- so a source holds a name exactly if its catalogue has a record of it
pub holds_name : {D : Type 0} (device : D → DiskState) (o source : Stored D) (name : List ℕ) (r : Record) → o ≡ source → value_of name (named (records_of o.contents.catalogue)) ≡ Some r
    → is_held (state_of device source) name ≡ true
holds_name {D} device o source name r same found =
    subst (λ (s : Stored D). is_held (state_of device s) name ≡ true) same (ap is_some (held_found (device o.disk).now.seen name (records_of o.contents.catalogue) r found))

pub lacks_name : {D : Type 0} (device : D → DiskState) (o source : Stored D) (name : List ℕ) → o ≡ source → value_of name (named (records_of o.contents.catalogue)) ≡ None
    → is_held (state_of device source) name ≡ false
lacks_name {D} device o source name same missing =
    subst (λ (s : Stored D). is_held (state_of device s) name ≡ false) same (ap is_some (held_missing (device o.disk).now.seen name (records_of o.contents.catalogue) missing))

-- the entries of the held resources are those of the records
pub entries_held : (image : List ℕ) (rs : List Record) → entries (map (held_in image) rs) ≡ map entry_of rs
entries_held image [] = refl
entries_held image (r ∷ rs) = ap (λ (l : List (List ℕ × Entry)). entry_of r ∷ l) (entries_held image rs)

-- no fault of a body is NotHeld
pub never_not_held : (fault : LoadFault) → refusal_of_body fault ≡ NotHeld → ⊥
never_not_held faults.Device e = cc
never_not_held faults.Damaged e = cc
never_not_held faults.NoMemory e = cc

-- only Damaged is answered as Damaged
pub damaged_body : (fault : LoadFault) → refusal_of_body fault ≡ Damaged → fault ≡ faults.Damaged
damaged_body faults.Damaged e = refl
damaged_body faults.Device e = cc
damaged_body faults.NoMemory e = cc
