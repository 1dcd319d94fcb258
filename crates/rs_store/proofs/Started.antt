-- A new source has the state of a source at its start.
use Rattle.std.proofs.Common.{◌≡◌, ◌≤◌, ◌<◌, ◌*◌, ◌+◌, ℕ, false, true, List, [], ◌∷◌, ◌++◌, Result, Ok, Err, length, take, drop, sym, ◌∙◌, ap, subst, refl, arith, ⊎_elim}
use Rattle.std.specs.Prelude.{OnOk}
use Rattle.std.proofs.lemmas.Bool.{false≢true}
use Rattle.std.proofs.lemmas.List.{length-append, length-drop}
use Rattle.std.proofs.lemmas.List.Elements.{All-nil}
use Rattle.std.proofs.Math.Seq.{take-append_seam}
use Rattle.rs_fixity.specs.Digests.{digests}
use Rattle.rs_extent.specs.declared.Extent.{Extent}
use Rattle.rs_disk.specs.Medium.{Medium, DiskState, IsImage, resting}
use Rattle.rs_store.proofs.FromBelow.{resting_image, within_is, some_split}
use Rattle.rs_extent.specs.Extents.{in_some}
use Rattle.rs_body.specs.Blocks.{part, blocks_of}
use Rattle.rs_commit.specs.Commit.{SameBehind, IsReady, behind_slots}
use Rattle.rs_commit.specs.Format.{formatted, fresh}
use Rattle.rs_commit.specs.declared.root.Root.{Root}
use Rattle.rs_commit.specs.Slots.{Standing, written_version}
use Rattle.rs_record.specs.declared.record.Record.{Record}
use Rattle.rs_changes.specs.History.{Numbered}
use Rattle.rs_directory.specs.declared.header.Header.{Header}
use Rattle.rs_image.specs.declared.contents.Contents.{Contents}
use Rattle.rs_model.specs.State.{start_of}
use Rattle.rs_page.specs.Pages.{Page, IsStored, stored_refs}
use Rattle.rs_directory.specs.Directory.{directory_bytes, written_format, IsLawfulHeader, IsLawfulRef}
use Rattle.rs_image.specs.Reach.{blocks_of_disk}
use Rattle.rs_image.specs.Whole.{IsWhole, IsSoundRecord, IsSoundChange}
use Rattle.rs_image.specs.Rooted.{rooted, IsRooted}
use Rattle.rs_image.specs.StateOfImage.{Tells, listing, AreListable}
use Rattle.rs_store.specs.Source.{Holds}
use Rattle.rs_store.specs.declared.formatting.Blank.{Blank}
use Rattle.rs_store.specs.Formatting.{first_header, first_contents, first_root, IsBlank}
use Rattle.rs_store.proofs.Opened.{some_bytes}

-- a fact of both results is one of success
pub either_way : {T E P : Type 0} (r : Result T E) → P → OnOk r P
either_way (Ok x) p = p
either_way (Err e) p = tt

-- blocks 0 and 1 are as formatting made them
front_of : (front rest seen : List ℕ) → seen ≡ front ++ rest → length front ≡ 1024 → take 1024 seen ≡ front
front_of front rest seen is long =
    ap (λ (l : List ℕ). take 1024 l) is ∙ ap (λ (n : ℕ). take n (front ++ rest)) (sym long) ∙ take-append_seam front rest

pub front_made : (root : Root) (old : List ℕ) (new : Medium) → 1024 ≤ length old → length new.seen ≡ length old → new ≡ resting (formatted root ++ behind_slots old)
    → take 1024 new.seen ≡ formatted root
front_made root old new room size made =
    let seen : new.seen ≡ formatted root ++ behind_slots old = ap (λ (m : Medium). m.seen) made in
    let long : length new.seen ≡ length (formatted root) + length (behind_slots old) = ap length seen ∙ length-append (formatted root) (behind_slots old) in
    front_of (formatted root) (behind_slots old) new.seen seen (omega (arith, room, size, long, length-drop 1024 old))

-- the bytes from block 2 on lie after the slots
pub part_behind : (e : Extent) (n : ℕ) (one two : List ℕ) → e.first ≡ 2 → SameBehind one two → part e n one ≡ part e n two
part_behind e n one two is same =
    ap (λ (k : ℕ). take n (drop (512 * k) one)) is ∙ ap (λ (l : List ℕ). take n l) same.bytes ∙ sym (ap (λ (k : ℕ). take n (drop (512 * k) two)) is)

one_block : (e : Extent) (n size b : ℕ) → e.first ≡ 2 → e.blocks ≡ blocks_of n → n ≤ 512 → 16 ≤ blocks_of_disk size → in_some (e ∷ []) b ≡ true → (2 ≤ b) × (b < blocks_of_disk size)
one_block e n size b first blocks small room is =
    ⊎_elim (λ there. let at = within_is e b there in (omega (arith, at.0), omega (arith, at.1))) (λ none. absurd (false≢true none)) (some_split e [] b is)

-- the first root and its lists keep all rules
pub first_whole : (base : List ℕ) (limit moment size : ℕ) → length (listing written_format (first_contents base limit moment)) ≤ 512 → 16 ≤ blocks_of_disk size
    → IsWhole size (first_root (first_contents base limit moment)) (first_contents base limit moment)
first_whole base limit moment size small room =
    let c = first_contents base limit moment in
    let h = first_header base limit moment in
    record {
      catalogue = All-nil IsStored;
      history = All-nil IsStored;
      published = All-nil IsStored;
      moments = record {
        start = omega arith;
        at = omega arith;
        last = refl;
        kept = omega arith;
        history = record { begun = omega arith; first = omega arith; none_dropped = λ is. refl };
      };
      number = refl;
      records = All-nil (IsSoundRecord moment moment);
      changes = All-nil (IsSoundChange moment moment);
      listed = All-nil (IsSoundRecord moment moment);
      directory = (refl, λ none. absurd (omega (arith, some_bytes written_format c)));
      apart = (λ b is. refl, tt);
      published_apart = tt;
      inside = λ b is. one_block (first_root c).directory (length (listing written_format c)) size b refl refl small room is;
    }

-- a directory can name its lists
first_listable : (base : List ℕ) (limit moment : ℕ) → IsLawfulHeader written_format (first_header base limit moment) → AreListable written_format (first_contents base limit moment)
first_listable base limit moment lawful = record {
  header = lawful;
  catalogue = record { each = All-nil IsLawfulRef; count = omega arith };
  history = record { each = All-nil IsLawfulRef; count = omega arith };
  published = record { each = All-nil IsLawfulRef; count = omega arith };
}

-- so planners take its root with its lists
pub first_rooted : (base : List ℕ) (limit moment size : ℕ) → 16 ≤ blocks_of_disk size → (c : Contents) → c ≡ first_contents base limit moment
    → (root : Root) → root ≡ first_root c → IsLawfulHeader written_format c.header → length (listing written_format c) ≤ 512 → IsRooted (rooted size root c)
first_rooted base limit moment size room c e =
    let P : Contents → Type 0 = λ c. (root : Root) → root ≡ first_root c → IsLawfulHeader written_format c.header → length (listing written_format c) ≤ 512 → IsRooted (rooted size root c) in
    let first = first_contents base limit moment in
    subst P (sym e)
    (λ root f lawful small.
    subst (λ (r : Root). IsRooted (rooted size r first)) (sym f)
    (record { room = omega (arith, room); whole = first_whole base limit moment size small room; listable = first_listable base limit moment lawful }))

-- if the image holds its directory, its root tells the lists of a source at its start
pub first_told : (base : List ℕ) (limit moment : ℕ) (image : List ℕ) → IsLawfulHeader written_format (first_header base limit moment)
    → length (listing written_format (first_contents base limit moment)) ≤ 512 → 16 ≤ blocks_of_disk (length image)
    → part (first_root (first_contents base limit moment)).directory (length (listing written_format (first_contents base limit moment))) image ≡ listing written_format (first_contents base limit moment)
    → Tells (first_root (first_contents base limit moment)) (first_contents base limit moment) image (start_of base limit moment)
first_told base limit moment image lawful small room reads =
    record {
      listable = first_listable base limit moment lawful;
      directory = reads;
      digest = refl;
      catalogue = record { hold = tt; held = record { ordered = refl; room = omega arith } };
      history = record { hold = tt; kept = record { rising = refl; room = omega arith } };
      published = record { hold = tt; held = record { ordered = refl; room = omega arith } };
      whole = first_whole base limit moment (length image) small room;
      state = refl;
    }

-- its lists, from their parts
pub made_contents : (base : List ℕ) (limit moment : ℕ) (h : Header) (a : List (Page Record)) (b : Numbered) (p : List (Page Record))
    → h ≡ first_header base limit moment → a ≡ [] → b ≡ record { first = 0; pages = [] } → p ≡ []
    → record { header = h; catalogue = a; history = b; published = p } ≡ first_contents base limit moment
made_contents base limit moment h a b p e f g k = λ i. record { header = e i; catalogue = f i; history = g i; published = k i }

-- its directory and its root, from their parts
pub made_listing : (h : Header) (a : List (Page Record)) (b : Numbered) (p : List (Page Record)) (bytes : List ℕ) → a ≡ [] → b ≡ record { first = 0; pages = [] } → p ≡ []
    → bytes ≡ directory_bytes written_format h [] [] [] → bytes ≡ listing written_format (record { header = h; catalogue = a; history = b; published = p })
made_listing h a b p bytes f g k spelled = spelled ∙ (λ i. directory_bytes written_format h (stored_refs (sym f i)) (stored_refs (sym g i).pages) (stored_refs (sym k i)))

pub made_root : (c : Contents) (bytes sha : List ℕ) (blocks len : ℕ) → bytes ≡ listing written_format c → len ≡ length bytes → sha ≡ (digests bytes).sha256 → blocks ≡ blocks_of len
    → record { version = written_version; generation = 1; directory = record { first = 2; blocks = blocks }; length = len; sha256 = sha } ≡ first_root c
made_root c bytes sha blocks len spelled long digest needed =
    let as_long : len ≡ length (listing written_format c) = long ∙ ap length spelled in
    let same : sha ≡ (digests (listing written_format c)).sha256 = digest ∙ ap (λ (l : List ℕ). (digests l).sha256) spelled in
    let sized : blocks ≡ blocks_of (length (listing written_format c)) = needed ∙ ap blocks_of as_long in
    λ i. record { version = written_version; generation = 1; directory = record { first = 2; blocks = sized i }; length = as_long i; sha256 = same i }

-- the same for all lists and roots that equal its own
told_of : (base : List ℕ) (limit moment : ℕ) (image : List ℕ) → 16 ≤ blocks_of_disk (length image) → (c : Contents) → c ≡ first_contents base limit moment
    → (root : Root) → root ≡ first_root c → IsLawfulHeader written_format c.header → length (listing written_format c) ≤ 512 → part root.directory (length (listing written_format c)) image ≡ listing written_format c
    → Tells root c image (start_of base limit moment)
told_of base limit moment image room c e =
    let P : Contents → Type 0 = λ c. (root : Root) → root ≡ first_root c → IsLawfulHeader written_format c.header → length (listing written_format c) ≤ 512
    → part root.directory (length (listing written_format c)) image ≡ listing written_format c → Tells root c image (start_of base limit moment) in
    let first = first_contents base limit moment in
    subst P (sym e)
    (λ root f lawful small.
    let Q : Root → Type 0 = λ r. part r.directory (length (listing written_format first)) image ≡ listing written_format first → Tells r first image (start_of base limit moment) in
    subst Q (sym f) (λ reads. first_told base limit moment image lawful small room reads))

-- The state of a new source.
pub first_holds : {D : Type 0} (device : D → DiskState) (disk : D) (slots : Standing) (base : List ℕ) (limit moment : ℕ) (b : Blank)
    → IsBlank base limit moment b → slots ≡ fresh b.root → IsReady (fresh b.root) (device disk).now → (device disk).now ≡ resting (device disk).now.seen
    → part b.root.directory (length b.directory.items) (device disk).now.seen ≡ b.directory.items → 16 ≤ blocks_of_disk (length (device disk).now.seen)
    → Holds device (record { disk = disk; slots = slots; contents = b.contents; is_closed = false }) (start_of base limit moment)
first_holds device disk slots base limit moment b is made ready rests reads room =
    let seen = (device disk).now.seen in
    let stands : part b.root.directory (length (listing written_format b.contents)) seen ≡ listing written_format b.contents =
    subst (λ (l : List ℕ). part b.root.directory (length l) seen ≡ l) is.directory reads in
    let told : Tells b.root b.contents seen (start_of base limit moment) =
    told_of base limit moment seen room b.contents is.contents b.root is.root is.lawful is.small stands in
    record {
      is_open = refl;
      ready = subst (λ (s : Standing). IsReady s (device disk).now) (sym made) ready;
      tells = λ image at.
          let there : image ≡ seen = resting_image seen image (subst (λ (m : Medium). IsImage m image) rests at) in
          subst (λ (s : Standing). Tells s.root b.contents image (start_of base limit moment)) (sym made)
          (subst (λ (l : List ℕ). Tells b.root b.contents l (start_of base limit moment)) (sym there) told);
    }
