-- The lists that a loader of a root finds.
use Rattle.std.proofs.Common.{◌≡◌, ℕ, ◌+◌, ◌-◌, ◌<◌, ◌≤◌, true, List, [], ◌∷◌, ◌++◌, length, refl, subst, arith, sym, ◌∙◌, ap, Ok, Err}
use Rattle.std.specs.Prelude.{IsErrOf, All, IsTrue}
use Rattle.std.proofs.lemmas.List.Elements.{All-nil, All-cons, All-append, All-take, All-drop}
use Rattle.std.proofs.lemmas.List.{take_at, drop_at}
use Rattle.rs_disk.specs.Medium.{Medium, DiskState, IsMedium}
use Rattle.rs_disk.specs.Runs.{RunsReading, CallsAtMost}
use Rattle.rs_image.proofs.FromBelow.{reading_as, reading_then, within_true, within_is, some_first, some_rest, one_directory}
use Rattle.rs_extent.specs.declared.Extent.{Extent}
use Rattle.rs_extent.specs.Extents.{within}
use Rattle.rs_body.specs.Blocks.{part, IsSized}
use Rattle.rs_body.specs.Reading.{ReadsBody}
use Rattle.rs_record.specs.declared.fault.ValueFault.{ValueFault}
use Rattle.rs_record.specs.declared.fault.ValueFault.TheVariants.{Malformed, NoMemory as NoFieldMemory}
use Rattle.rs_body.specs.declared.read.LoadFault.{LoadFault}
use Rattle.rs_body.specs.declared.read.LoadFault.TheVariants.{Device, Damaged}
use Rattle.rs_page.specs.Faults.{fault_of_fields}
use Rattle.rs_page.specs.declared.place.PageRef.{PageRef}
use Rattle.rs_directory.specs.declared.header.Header.{Header}
use Rattle.rs_directory.specs.Directory.{directory_bytes, IsLawfulHeader, AreLawfulRefs, IsDirectory, IsNoDirectory, Names}
use Rattle.rs_fixity.specs.Digests.{digests}
use Rattle.rs_commit.specs.declared.root.Root.{Root}
use Rattle.rs_model.specs.State.{Source}
use Rattle.rs_page.specs.Format.{ItemFormat}
use Rattle.rs_page.specs.Items.{record_format, change_format}
use Rattle.rs_page.specs.Pages.{stored_refs, extents_of}
use Rattle.rs_page.specs.DiskPages.{ArePages}
use Rattle.rs_catalogue.specs.Catalogue.{HoldsCatalogue}
use Rattle.rs_changes.specs.History.{HoldsHistory}
use Rattle.rs_pages.specs.Storing.{items_by_page}
use Rattle.rs_directory.specs.declared.directory.Directory.{Directory}
use Rattle.rs_image.specs.declared.contents.Contents.{Contents}
use Rattle.rs_image.specs.Reach.{blocks_of_disk, reach, AreInside}
use Rattle.rs_image.specs.Whole.{HasFirstPart, IsWhole}
use Rattle.rs_image.specs.StateOfImage.{Tells, TellsNothing, state_in, listing}
use Rattle.rs_image.specs.Loading.{IsPlaced, IsPagePlaced, RefusesMemory, ArePlaced, NamesPlaced, ReadsBehind, ReadsLists, IsReadBehind, spelled, IsLawfulDirectory, AreOf, HoldLists, HoldNoLists}
use Rattle.rs_image.proofs.ListsRead.{went_well}
use Rattle.rs_image.proofs.Reaching.{reaches_catalogue, reaches_history, reaches_published}
use Rattle.rs_image.proofs.Once.{listable_lawful, pages_once, catalogue_held_once, history_held_once}

-- an extent with blocks lies inside exactly where both its ends do
pub ends_inside : (e : Extent) (n : ℕ) → 2 ≤ e.first → e.first + e.blocks ≤ n → (b : ℕ) → within e b ≡ true → (2 ≤ b) × (b < n)
ends_inside e n low high b is = let inside = within_is e b is in (omega (arith, inside.0), omega (arith, inside.1))

pub low_inside : (e : Extent) (n : ℕ) → 0 < e.blocks → ((b : ℕ) → within e b ≡ true → (2 ≤ b) × (b < n)) → 2 ≤ e.first
low_inside e n some inside = (inside e.first (within_true e e.first (omega arith) (omega arith))).0

pub high_inside : (e : Extent) (n : ℕ) → 0 < e.blocks → ((b : ℕ) → within e b ≡ true → (2 ≤ b) × (b < n)) → e.first + e.blocks ≤ n
high_inside e n some inside =
    let last = inside (e.first + (e.blocks - 1)) (within_true e (e.first + (e.blocks - 1)) (omega arith) (omega arith)) in
    omega (arith, last.1)

-- A disk on which an extent of some bytes lies after the slots has more than the slots.
pub has_slots : (e : Extent) (n size : ℕ) → 0 < n → IsSized e n → ((b : ℕ) → within e b ≡ true → (2 ≤ b) × (b < blocks_of_disk size)) → 1024 ≤ size
has_slots e n size some sized inside =
    let blocks : 0 < e.blocks = omega (arith, sized.0, some) in
    let low = low_inside e (blocks_of_disk size) blocks inside in
    let high = high_inside e (blocks_of_disk size) blocks inside in
    omega (arith, low, high, blocks)

-- Fields that are damaged are malformed.
pub malformed : {T : Type 0} (fault : ValueFault) (made : LoadFault) → made ≡ fault_of_fields fault → IsErrOf {T = T} (Err made) Damaged → fault ≡ Malformed
malformed Malformed made is damaged = refl
malformed NoFieldMemory made is damaged = absurd cc

-- a directory has bytes
pub some_bytes : (version : ℕ) (h : Header) (catalogue changes published : List PageRef) (bytes : List ℕ)
    → bytes ≡ directory_bytes version h catalogue changes published → 0 < length bytes
some_bytes version h catalogue changes published bytes is = let long = ap length is in omega (arith, long)

-- the directory is read as before, ..
pub still_read : {A : Type 0} (root : Root) (bytes : List ℕ) (mid new : DiskState) → RunsReading A mid new
    → part root.directory root.length mid.now.seen ≡ bytes → part root.directory root.length new.now.seen ≡ bytes
still_read root bytes mid new rests read = subst (λ (m : Medium). part root.directory root.length m.seen ≡ bytes) (sym rests.now) read

-- .. and so are its bytes, ..
pub body_read : (root : Root) (sha256 items bytes : List ℕ) (x : Unit {0}) (old new : DiskState)
    → ReadsBody (record { extent = root.directory; length = root.length; sha256 = sha256 }) old new items (Ok x) → bytes ≡ items → IsTrue new.honest
    → part root.directory root.length new.now.seen ≡ bytes
body_read root sha256 items bytes x old new body is honest = still_read root bytes old new body.runs (sym (is ∙ body.found honest))

-- .. of a disk whose size is the number of bytes that reads return
pub size_seen : (size : ℕ) (m : Medium) → IsMedium size m → size ≡ length m.seen
size_seen size m is = sym (is.image.size ∙ is.settled)

-- The lists that a root describes are those of the directory that was read.
pub told_of : (root : Root) (d : Directory) (c : Contents) (image : List ℕ) (s : Source) → IsLawfulDirectory root.version d → part root.directory root.length image ≡ spelled root.version d
    → Tells root c image s → AreOf d c
told_of root d c image s lawful found tells =
    let same = one_directory root.version c.header d.header (stored_refs c.catalogue) d.catalogue.items (stored_refs c.history.pages) d.changes.items
    (stored_refs c.published) d.published.items (listable_lawful root.version c tells.listable) lawful (sym tells.directory ∙ found) in
    record {
      header = same.0;
      first = tells.whole.number ∙ ap (λ (h : Header). h.first) same.0;
      catalogue = same.1;
      changes = same.2;
      published = same.3;
      stored = record { catalogue = tells.whole.catalogue; history = tells.whole.history; published = tells.whole.published };
    }

-- .. and its pages hold them.
pub told_hold : (root : Root) (d : Directory) (c : Contents) (image : List ℕ) (s : Source) → AreOf d c → Tells root c image s → HoldLists d image c
told_hold root d c image s of tells = record {
  catalogue = subst (λ (refs : List PageRef). HoldsCatalogue refs image (items_by_page c.catalogue)) of.catalogue tells.catalogue;
  changes = subst (λ (refs : List PageRef). HoldsHistory refs image (items_by_page c.history.pages)) of.changes tells.history;
  published = subst (λ (refs : List PageRef). HoldsCatalogue refs image (items_by_page c.published)) of.published tells.published;
}

-- The pages of a directory hold at most one set of lists.
pub same_lists : (d : Directory) (a b : Contents) (image : List ℕ) → AreOf d a → AreOf d b → HoldLists d image a → HoldLists d image b → a ≡ b
same_lists d a b image of_a of_b hold_a hold_b =
    let header : a.header ≡ b.header = of_a.header ∙ sym of_b.header in
    let catalogue : a.catalogue ≡ b.catalogue = pages_once a.catalogue b.catalogue of_a.stored.catalogue of_b.stored.catalogue (of_a.catalogue ∙ sym of_b.catalogue)
    (catalogue_held_once d.catalogue.items image (items_by_page a.catalogue) (items_by_page b.catalogue) hold_a.catalogue hold_b.catalogue) in
    let first : a.history.first ≡ b.history.first = of_a.first ∙ sym of_b.first in
    let changes : a.history.pages ≡ b.history.pages =
    pages_once a.history.pages b.history.pages of_a.stored.history of_b.stored.history (of_a.changes ∙ sym of_b.changes)
    (history_held_once d.changes.items image (items_by_page a.history.pages) (items_by_page b.history.pages) hold_a.changes hold_b.changes) in
    let published : a.published ≡ b.published = pages_once a.published b.published of_a.stored.published of_b.stored.published (of_a.published ∙ sym of_b.published)
    (catalogue_held_once d.published.items image (items_by_page a.published) (items_by_page b.published) hold_a.published hold_b.published) in
    λ i. record { header = header i; catalogue = catalogue i; history = record { first = first i; pages = changes i }; published = published i }

-- The root describes the lists of its directory where they are whole, ..
pub are_told : (root : Root) (d : Directory) (c : Contents) (image : List ℕ) (size : ℕ) → IsLawfulDirectory root.version d → (digests (spelled root.version d)).sha256 ≡ root.sha256
    → part root.directory root.length image ≡ spelled root.version d → AreOf d c → HoldLists d image c → size ≡ length image → IsWhole size root c
    → Tells root c image (state_in image c)
are_told root d c image size lawful digest found of hold long whole =
    let same : spelled root.version d ≡ listing root.version c = λ i. directory_bytes root.version (sym of.header i) (sym of.catalogue i) (sym of.changes i) (sym of.published i) in
    record {
      listable = record {
        header = subst (IsLawfulHeader root.version) (sym of.header) lawful.of_header;
        catalogue = subst AreLawfulRefs (sym of.catalogue) lawful.of_catalogue;
        history = subst AreLawfulRefs (sym of.changes) lawful.of_changes;
        published = subst AreLawfulRefs (sym of.published) lawful.of_published;
      };
      directory = found ∙ same;
      digest = subst (λ (bytes : List ℕ). (digests bytes).sha256 ≡ root.sha256) same digest;
      catalogue = subst (λ (refs : List PageRef). HoldsCatalogue refs image (items_by_page c.catalogue)) (sym of.catalogue) hold.catalogue;
      history = subst (λ (refs : List PageRef). HoldsHistory refs image (items_by_page c.history.pages)) (sym of.changes) hold.changes;
      published = subst (λ (refs : List PageRef). HoldsCatalogue refs image (items_by_page c.published)) (sym of.published) hold.published;
      whole = subst (λ (n : ℕ). IsWhole n root c) long whole;
      state = refl;
    }

-- .. and describes no lists where they are not.
pub none_told : (root : Root) (d : Directory) (c : Contents) (image : List ℕ) (size : ℕ) → IsLawfulDirectory root.version d → part root.directory root.length image ≡ spelled root.version d
    → AreOf d c → HoldLists d image c → size ≡ length image → ¬ IsWhole size root c → TellsNothing root image
none_told root d c image size lawful found of hold long broken other s tells =
    let of_other = told_of root d other image s lawful found tells in
    let same : other ≡ c = same_lists d other c image of_other of (told_hold root d other image s of_other tells) hold in
    broken (subst (λ (n : ℕ). IsWhole n root c) (sym long) (subst (λ (lists : Contents). IsWhole (length image) root lists) same tells.whole))

-- pages whose extents lie inside, and have their blocks, are placed
pub are_pages_placed : {T : Type 0} (format : ItemFormat T) (size : ℕ) (refs : List PageRef) (image : List ℕ) (pages : List (List T)) → ArePages format refs image pages
    → AreInside size (extents_of refs) → All (IsPagePlaced size) refs
are_pages_placed format size [] image pages are inside = All-nil (IsPagePlaced size)
are_pages_placed format size (ref ∷ refs) image [] are inside = absurd are
are_pages_placed format size (ref ∷ refs) image (items ∷ pages) are inside =
    All-cons (IsPagePlaced size) ref refs
    (record { sized = are.0.blocks.sized; inside = λ b is. inside b (some_first ref.extent (extents_of refs) b is) })
    (are_pages_placed format size refs image pages are.1 (λ b is. inside b (some_rest ref.extent (extents_of refs) b is)))

-- The pages of lists that a root describes are placed.
pub told_placed : (root : Root) (c : Contents) (image : List ℕ) (s : Source) (size : ℕ) → Tells root c image s → size ≡ length image
    → All (IsPagePlaced size) (stored_refs c.catalogue ++ (stored_refs c.history.pages ++ stored_refs c.published))
told_placed root c image s size tells long =
    let inside : AreInside size (reach root c) = subst (λ (n : ℕ). AreInside n (reach root c)) (sym long) tells.whole.inside in
    All-append (IsPagePlaced size) (stored_refs c.catalogue) (stored_refs c.history.pages ++ stored_refs c.published)
    (are_pages_placed record_format size (stored_refs c.catalogue) image (items_by_page c.catalogue) tells.catalogue.hold (λ b is. inside b (reaches_catalogue root c b is)))
    (All-append (IsPagePlaced size) (stored_refs c.history.pages) (stored_refs c.published)
    (are_pages_placed change_format size (stored_refs c.history.pages) image (items_by_page c.history.pages) tells.history.hold (λ b is. inside b (reaches_history root c b is)))
    (are_pages_placed record_format size (stored_refs c.published) image (items_by_page c.published) tells.published.hold (λ b is. inside b (reaches_published root c b is))))

-- The bytes of a directory whose lists the root describes name these pages, ..
pub names_told : (root : Root) (c : Contents) (image : List ℕ) (s : Source) (bytes : List ℕ) → Tells root c image s → bytes ≡ part root.directory root.length image
    → Names root.version bytes (stored_refs c.catalogue ++ (stored_refs c.history.pages ++ stored_refs c.published))
names_told root c image s bytes tells read = record {
  header = c.header;
  catalogue = stored_refs c.catalogue;
  changes = stored_refs c.history.pages;
  published = stored_refs c.published;
  directory = record { lawful = listable_lawful root.version c tells.listable; spelled = read ∙ tells.directory };
  all = refl;
}

all_front : {X : Type 0} (P : X → Type 0) (xs ys : List X) → All P (xs ++ ys) → All P xs
all_front P xs ys all = subst (All P) (take_at xs ys (length xs) refl) (All-take P (length xs) (xs ++ ys) all)

all_back : {X : Type 0} (P : X → Type 0) (xs ys : List X) → All P (xs ++ ys) → All P ys
all_back P xs ys all = subst (All P) (drop_at xs ys (length xs) refl) (All-drop P (length xs) (xs ++ ys) all)

-- Where all pages that bytes name are placed, those of a directory with these bytes are.
pub named_placed : (size : ℕ) (root : Root) (d : Directory) (bytes : List ℕ) → ((pages : List PageRef) → Names root.version bytes pages → All (IsPagePlaced size) pages)
    → IsLawfulDirectory root.version d → bytes ≡ spelled root.version d → ArePlaced size d
named_placed size root d bytes named lawful is =
    let behind = d.changes.items ++ d.published.items in
    let all = named (d.catalogue.items ++ behind) (record {
      header = d.header;
      catalogue = d.catalogue.items;
      changes = d.changes.items;
      published = d.published.items;
      directory = record { lawful = lawful; spelled = is };
      all = refl;
    }) in
    let rest = all_back (IsPagePlaced size) d.catalogue.items behind all in
    record {
      catalogue = all_front (IsPagePlaced size) d.catalogue.items behind all;
      changes = all_front (IsPagePlaced size) d.changes.items d.published.items rest;
      published = all_back (IsPagePlaced size) d.changes.items d.published.items rest;
    }

-- Facts after the bytes of a directory were read: it is placed, and so are all pages that they name.
module _ (root : Root) (items bytes : List ℕ) (x : Unit {0}) (old new : DiskState) (body : ReadsBody (record { extent = root.directory; length = root.length; sha256 = root.sha256 }) old new items (Ok x))
    (is : bytes ≡ items) (size later : ℕ) (long : size ≡ old.size) (long_too : later ≡ new.size) (placed : IsPlaced size root.directory root.length)
    (named : (pages : List PageRef) → Names root.version bytes pages → All (IsPagePlaced later) pages) where
  directory_placed : IsPlaced new.size root.directory root.length
  directory_placed = subst (λ (n : ℕ). IsPlaced n root.directory root.length) (long ∙ sym body.runs.runs.size) placed

  -- where memory is refused then
  pub refuses_memory : RefusesMemory root old new
  refuses_memory = record {
    directory = directory_placed;
    pages = λ honest called d lawful found. subst (λ (n : ℕ). ArePlaced n d) long_too
        (named_placed later root d bytes named lawful (sym (body_read root root.sha256 items bytes x old new body is honest) ∙ found));
  }

  -- and where they are a directory
  pub read_behind : (d : Directory) (read : List ℕ) → read ≡ items → IsDirectory root.version read d.header d.catalogue.items d.changes.items d.published.items → HasFirstPart d.header
      → IsReadBehind root new d
  read_behind d read is_too directory first =
      let same : bytes ≡ spelled root.version d = is ∙ sym is_too ∙ directory.spelled in
      record {
        placed = directory_placed;
        room = has_slots root.directory root.length new.size
            (omega (arith, ap length is, body.long, some_bytes root.version d.header d.catalogue.items d.changes.items d.published.items bytes same))
            directory_placed.sized directory_placed.inside;
        pages = subst (λ (n : ℕ). ArePlaced n d) long_too (named_placed later root d bytes named directory.lawful same);
        lawful = directory.lawful;
        first = omega (arith, first.first, directory.lawful.of_header.begin);
        digest = subst (λ (bs : List ℕ). (digests bs).sha256 ≡ root.sha256) (sym is ∙ same) body.digest;
        found = λ honest. body_read root root.sha256 items bytes x old new body is honest ∙ same;
      }

-- A directory that was read names the same pages as all directories with its bytes.
pub names_placed : (size : ℕ) (root : Root) (image : List ℕ) (d : Directory) → IsLawfulDirectory root.version d → part root.directory root.length image ≡ spelled root.version d → ArePlaced size d
    → NamesPlaced size root image
names_placed size root image d lawful found placed other lawful_too reads =
    let same = one_directory root.version d.header other.header d.catalogue.items other.catalogue.items d.changes.items other.changes.items
    d.published.items other.published.items lawful lawful_too (sym found ∙ reads) in
    record {
      catalogue = subst (All (IsPagePlaced size)) same.1 placed.catalogue;
      changes = subst (All (IsPagePlaced size)) same.2 placed.changes;
      published = subst (All (IsPagePlaced size)) same.3 placed.published;
    }

-- A root describes no lists where its bytes are no directory, ..
pub untold : (root : Root) (bytes image : List ℕ) → part root.directory root.length image ≡ bytes → IsNoDirectory root.version bytes → TellsNothing root image
untold root bytes image read none c s tells =
    none c.header _ _ _ (record { lawful = listable_lawful root.version c tells.listable; spelled = sym read ∙ tells.directory })

-- .. or name pages that are not all placed, ..
pub untold_pages : (root : Root) (bytes image : List ℕ) (size : ℕ) → part root.directory root.length image ≡ bytes → size ≡ length image
    → ((pages : List PageRef) → Names root.version bytes pages → ¬ All (IsPagePlaced size) pages) → TellsNothing root image
untold_pages root bytes image size read long unplaced c s tells = unplaced _ (names_told root c image s bytes tells (sym read)) (told_placed root c image s size tells long)

-- .. or where they are a directory whose history cannot begin with the first part that it names.
pub untold_first : (root : Root) (d : Directory) (image : List ℕ) → IsLawfulDirectory root.version d → part root.directory root.length image ≡ spelled root.version d
    → ¬ HasFirstPart d.header → TellsNothing root image
untold_first root d image lawful found none c s tells = none (subst HasFirstPart (told_of root d c image s lawful found tells).header tells.whole.moments.history)

-- Facts after the lists of a directory were read.
module _ {A T : Type 0} (old mid new : DiskState) (root : Root) (d : Directory) (read : IsReadBehind root mid d) (x : T)
    (first : RunsReading (IsErrOf {T = T} {E = LoadFault} (Ok x) Device) old mid) (one : CallsAtMost 1 old mid) (lists : ReadsLists d A mid new) where
  -- the disk still has the bytes of the directory
  pub found_still : IsTrue new.honest → part root.directory root.length new.now.seen ≡ spelled root.version d
  found_still honest = still_read root (spelled root.version d) mid new lists.runs (read.found (lists.runs.runs.lasts honest))

  -- all pages that they name are placed
  named_behind : IsTrue new.honest → NamesPlaced new.size root new.now.seen
  named_behind honest = names_placed new.size root new.now.seen d read.lawful (found_still honest) (subst (λ (n : ℕ). ArePlaced n d) (sym lists.runs.runs.size) read.pages)

  pub refused_behind : RefusesMemory root old new
  refused_behind = record {
    directory = subst (λ (n : ℕ). IsPlaced n root.directory root.length) (sym lists.runs.runs.size) read.placed;
    pages = λ honest called. named_behind honest;
  }

  pub reads_behind : ReadsBehind root A old new
  reads_behind = record {
    runs = reading_then old mid new (went_well x) first lists.runs;
    once = λ past. (d, read.digest, omega (arith, one, lists.calls));
    placed = λ past. named_behind;
  }

  pub reads_well : {B : Type 0} → ¬ A → ¬ B → ReadsBehind root B old new
  reads_well well none = record {
    runs = reading_as old new (λ told. absurd (well told)) (λ told. absurd (none told)) reads_behind.runs;
    once = reads_behind.once;
    placed = reads_behind.placed;
  }

  -- the root describes no lists where the pages hold no lists
  pub untold_lists : IsTrue new.honest → HoldNoLists d new.now.seen → TellsNothing root new.now.seen
  untold_lists honest none c s tells = none _ _ _ (told_hold root d c new.now.seen s (told_of root d c new.now.seen s read.lawful (found_still honest) tells) tells)
