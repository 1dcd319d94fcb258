-- Stops of a small disk, computed. Then two sessions, computed: a machine stops in a put that it never answers, and a
-- destination asks for the Resource List in the first session and for the Change List in the second.
use Rattle.std.proofs.Common.{◌≡◌, inl, inr, ℕ, zero, suc, ◌<◌, sym, ap, subst, ◌∙◌, arith, List, [], ◌∷◌, ◌++◌, refl, Option, Some, None, Bool, true, false, Ok}
use Rattle.std.specs.Prelude.{codes, is_some, get_or, replicate, IsTrue}
use Rattle.std.specs.List.{AllByRecursion}
use Rattle.std.specs.Fmt.{digits}
use Rattle.hex.specs.Hex.{encode_with, decode_pairs}
use Rattle.md5.specs.Md5.{block_words, rounds, compress, hash_after, digest_bytes, md5}
use Rattle.sha2.specs.Sha256.{first_words, schedule, rounds as rounds_256, compress as compress_256, hash_after as hash_after_256, digest_bytes as digest_bytes_256, sha256}
use Rattle.rs_disk.specs.Medium.{DiskState, Medium, IsImage, IsImageAt, marked, widened, written, resting}
use Rattle.rs_time.specs.Calendar.{date_of, period_of, days_of}
use Rattle.rs_time.specs.Moment.{moment_text}
use Rattle.rs_time.specs.ReadMoment.{read_moment, moment_digits, same_bytes}
use Rattle.rs_fixity.specs.ReadHash.{read_hash}
use Rattle.rs_record.specs.Changes.{bound, deleted}
use Rattle.rs_record.specs.declared.change.Change.{Change}
use Rattle.rs_record.specs.declared.facts.Facts.{Facts}
use Rattle.rs_model.specs.State.{Source, start_of, facts_of}
use Rattle.rs_model.specs.Step.{fold_of}
use Rattle.rs_model.specs.declared.command.Command.{Command}
use Rattle.rs_model.specs.Lawful.{IsLawfulItem, IsLawfulCommand}
use Rattle.rs_model.specs.declared.command.Item.TheVariants as single
use Rattle.rs_model.specs.declared.command.Command.TheVariants.{Put, Delete, Publish, Group}
use Rattle.rs_model.specs.declared.command.Reply.{Reply}
use Rattle.rs_model.specs.declared.command.Reply.TheVariants.{Created, Deleted, Published}
use Rattle.rs_image.specs.StateOfImage.{StandsFor}
use Rattle.rs_lists.specs.Text.{list_text}
use Rattle.rs_caps.specs.Cut.{◌>>=◌, strip, cut, lines_of, characters, read_number}
use Rattle.rs_caps.specs.Paths.{doc_of, read_count, last_part, resource_part, change_part}
use Rattle.rs_caps.specs.DocumentTexts.{document_text}
use Rattle.rs_caps.specs.Readings.{ChangeEntry, Document, ListedResource}
use Rattle.rs_caps.specs.Readings.Document.{ResourceList, ChangeListIndex}
use Rattle.rs_caps.specs.ReadLines.{read_facts, read_resource, read_bound, read_deleted, read_end, read_resource_entry, read_change_entry, before_end, read_up, read_resource_md, read_change_md}
use Rattle.rs_caps.specs.Reads.{reads, read_list, read_index, read_children, read_resource_list, read_change_list, read_resource_index, read_change_index}
use Rattle.rs_caps.specs.Gather.{parts_at}
use Rattle.rs_caps.specs.Destination.{part_paths}
use Rattle.rs_store.specs.declared.running.Ack.{Ack}
use Rattle.rs_store.specs.Runs.{Holding, AreAnswered}
use Rattle.rs_recovery.specs.Sessions.{Session, IsStop, IsLeftBy, AreSessions}
use Rattle.rs_recovery.proofs.FromBelow.{resting_image}
use Rattle.rs_recovery.specs.Served.{Asking, CouldServe, HasServedIn, HasServed, IsNoLater}
use Rattle.rs_recovery.specs.Mirrored.{AreLawfulSessions, list_head, changes_head, Asked, answered_by, IsAskedPart, Gathered, HasGathered, AsksBoth, AreFirstOfNext, IsMirrored}
use Rattle.rs_recovery.proofs.Below.{Commands, Acks}
use Rattle.rs_recovery.proofs.Missing.{answers_may_be_missing}

-- the bytes of a disk before a write of the last two and after it, and those that a stop in between may leave
abbrev old_bytes : List ℕ
old_bytes = 1 ∷ 2 ∷ 3 ∷ []

abbrev new_bytes : List ℕ
new_bytes = 1 ∷ 8 ∷ 9 ∷ []

abbrev torn_bytes : List ℕ
torn_bytes = 1 ∷ 7 ∷ 9 ∷ []

-- the content of the disk within the write, and within the sync that follows
abbrev held_within : ℕ → Medium
held_within zero = widened (resting old_bytes) 1 2
held_within (suc m) = written (resting old_bytes) 1 (8 ∷ 9 ∷ [])

-- the disk after this many calls, all settled
abbrev disk_after : ℕ → List ℕ → DiskState
disk_after calls bytes = record {
  size = 3;
  calls = calls;
  faults = 0;
  last_failed = false;
  honest = true;
  now = resting bytes;
  within = held_within;
}

-- The write settles no bytes. So until the sync has ended, the place of the write may have any bytes.
beside_write : (i : ℕ) → i < 3 → get_or (marked (replicate 3 false) 1 2) i false ≡ false
    → get_or torn_bytes i 0 ≡ get_or old_bytes i 0
beside_write zero lt off = refl
beside_write (suc zero) lt off = absurd cc
beside_write (suc (suc zero)) lt off = absurd cc
beside_write (suc (suc (suc i))) lt off = absurd (omega arith)

pub is_image : (m : ℕ) → IsImage (held_within m) torn_bytes
is_image zero = record { size = refl; same = beside_write }
is_image (suc m) = record { size = refl; same = beside_write }

-- A stop comes within the write or within the sync, or at the end, where it leaves the bytes that a read gives.
pub are_stops :
    IsStop (disk_after 0 old_bytes) (disk_after 2 new_bytes) 0 torn_bytes
    × IsStop (disk_after 0 old_bytes) (disk_after 2 new_bytes) 1 torn_bytes
    × IsStop (disk_after 0 old_bytes) (disk_after 2 new_bytes) 2 new_bytes
are_stops = (
  record {
    from = omega arith;
    to = omega arith;
    left = record { past = λ lt. is_image 0; now = λ le. absurd (omega arith) };
  },
  record {
    from = omega arith;
    to = omega arith;
    left = record { past = λ lt. is_image 1; now = λ le. absurd (omega arith) };
  },
  record {
    from = omega arith;
    to = omega arith;
    left = record { past = λ lt. absurd (omega arith); now = λ le. record { size = refl; same = λ i lt off. refl } };
  },
)

-- a source of item limit 2, formatted at the first moment
abbrev start : Source
start = start_of (codes "http://127.0.0.1:8080") 2 0

abbrev put : List ℕ → Command × ℕ
put name = (Put name (codes "text/plain") [], 0)

-- In the first session `a` is put and published, and the machine stops in the put of `c`. In the second one `b` is put
-- and `a` deleted.
abbrev first_commands : Commands
first_commands = put (codes "a") ∷ (Publish, 0) ∷ []

abbrev second_commands : Commands
second_commands = put (codes "b") ∷ (Delete (codes "a"), 0) ∷ []

abbrev published : Source
published = fold_of start first_commands

abbrev changed : Source
changed = fold_of published second_commands

abbrev answer_ok : Reply → ℕ → Ack
answer_ok reply call = record { reply = Ok reply; at_call = call }

abbrev first_acks : Acks
first_acks = answer_ok (Created 1) 15 ∷ answer_ok (Published 1 2) 22 ∷ []

abbrev second_acks : Acks
second_acks = answer_ok (Created 3) 30 ∷ answer_ok (Deleted 4) 38 ∷ []

-- the first session, by its disk before and after it, and the image that its stop leaves; and the second one
abbrev first : DiskState → DiskState → List ℕ → Session
first d e image = record { first = d; commands = first_commands; acks = first_acks; unanswered = Some (put (codes "c")); last = e; stop = 27; image = image }

abbrev second : DiskState → DiskState → List ℕ → Session
second f g image = record { first = f; commands = second_commands; acks = second_acks; unanswered = None; last = g; stop = 38; image = image }

abbrev two : (d e f g : DiskState) (image other : List ℕ) → List Session
two d e f g image other = second f g other ∷ first d e image ∷ []

-- They are sessions if the disks saw the commands answered, and the first stop left the image of a source without `c`.
pub are_sessions : (d e f g : DiskState) (image other : List ℕ) (a : Ack)
    → AreAnswered d (Holding start) (first_commands ++ put (codes "c") ∷ []) (first_acks ++ a ∷ []) e → IsStop d e 27 image
    → StandsFor image published → AreAnswered f (Holding published) second_commands second_acks g → IsStop f g 38 other
    → AreSessions start (two d e f g image other)
are_sessions d e f g image other a one is_stop left then is_later = (
  published,
  left,
  record { answered = then; stopped = is_later },
  answers_may_be_missing d start published first_commands first_acks (put (codes "c")) a e 27 image one refl refl is_stop,
)

-- A disk with the bytes that the first stop left, all of them settled, is as the first session left it.
pub is_left : (d e disk : DiskState) (image : List ℕ) → IsStop d e 27 image → disk.now ≡ resting image → IsLeftBy (first d e image) disk
is_left d e disk image is_stop now = record {
  images = λ other is.
      let same : other ≡ image = resting_image image other (subst (λ (m : Medium). IsImage m other) now is) in
      subst (λ (bytes : List ℕ). IsImageAt e 27 bytes) (sym same) is_stop.left;
}

pub are_lawful : (d e f g : DiskState) (image other : List ℕ) → AreLawfulSessions (two d e f g image other)
are_lawful d e f g image other = (
  (((refl, refl), omega arith), ((refl, omega arith), tt)),
  ((((refl, refl), omega arith), ((tt, omega arith), (((refl, refl), omega arith), tt))), tt),
)

-- an item of a lawful name, and a group of such items
pub item_is_lawful : IsLawfulItem (single.Delete (codes "b"))
item_is_lawful = refl

pub group_is_lawful : IsLawfulCommand (Group (single.Put (codes "a") (codes "text/plain") [] ∷ single.Delete (codes "b") ∷ []))
group_is_lawful = ((refl, refl), (item_is_lawful, tt))

-- Two commands of each session survive.
abbrev standing : List ℕ
standing = 2 ∷ 2 ∷ []

-- The source could be asked after the two answers of each session.
pub could_serve_first : (d e : DiskState) (image : List ℕ) → CouldServe start (first d e image) 2 published
could_serve_first d e image = record { before = (omega arith, (omega arith, tt)); held = refl }

pub could_serve_second : (f g : DiskState) (image : List ℕ) → CouldServe published (second f g image) 2 changed
could_serve_second f g image = record { before = (omega arith, (omega arith, tt)); held = refl }

abbrev asking_in : Bool → Asking
asking_in true = record { sessions = 0; commands = 2; state = published }
asking_in false = record { sessions = 1; commands = 2; state = changed }

abbrev behind_in : Bool → Commands
behind_in true = first_commands
behind_in false = first_commands ++ second_commands

pub served_second : (d e f g : DiskState) (image other : List ℕ) → HasServedIn start (second f g other) (first d e image ∷ []) (2 ∷ []) (asking_in false) (behind_in false)
served_second d e f g image other = record { after = refl; could = could_serve_second f g other; behind = refl }

served_in : (d e f g : DiskState) (image other : List ℕ) (is_first : Bool) → HasServed start (two d e f g image other) standing (asking_in is_first) (behind_in is_first)
served_in d e f g image other true = inr (inl (record { after = refl; could = could_serve_first d e image; behind = refl }))
served_in d e f g image other false = inl (served_second d e f g image other)

-- The Resource List is asked for in the first session, everything else in the second.
abbrev asking : List ℕ → Asking
asking path = asking_in (same_bytes path list_head)

pub both : (d e f g : DiskState) (image other : List ℕ) → Asked start (two d e f g image other) standing
both d e f g image other = record {
  asking = asking;
  behind = λ path. behind_in (same_bytes path list_head);
  served = λ path. served_in d e f g image other (same_bytes path list_head);
  last = asking_in false;
  behind_last = behind_in false;
  last_served = served_in d e f g image other false;
}

abbrev no_bytes : Facts
no_bytes = facts_of (codes "text/plain") []

abbrev listed : List ListedResource
listed = record { name = codes "a"; facts = no_bytes; moment = 1 } ∷ []

abbrev changes : List Change
changes = bound (codes "a") false 1 no_bytes ∷ bound (codes "b") false 3 no_bytes ∷ deleted (codes "a") 4 ∷ []

abbrev gathered : Gathered
gathered = record { at = 2; listed = listed; from = 0; changes = changes }

abbrev between : List ℕ → ℕ → Option ℕ → ChangeEntry
between path from until = record { path = path; start = from; until = until }

abbrev index : Document
index = ChangeListIndex 0 None (between (codes "/changelist/0.xml") 0 (Some 3) ∷ between (codes "/changelist/1.xml") 3 None ∷ [])

-- the documents that the destination gets, and the data that it gathers
pub documents :
    ((answered_by asking list_head >>= reads) ≡ Some (ResourceList 2 listed))
    × ((answered_by asking changes_head >>= reads) ≡ Some index)
    × HasGathered (answered_by asking) gathered
unfolding digits encode_with decode_pairs block_words rounds compress hash_after digest_bytes md5 first_words schedule rounds_256 compress_256 hash_after_256 digest_bytes_256 sha256 date_of period_of days_of moment_text read_moment moment_digits read_hash list_text strip cut lines_of characters read_number doc_of read_count last_part resource_part change_part document_text read_facts read_resource read_bound read_deleted read_end read_resource_entry read_change_entry before_end read_up read_resource_md read_change_md reads read_list read_index read_children read_resource_list read_change_list read_resource_index read_change_index parts_at
documents = (refl, refl, record { resources = refl; changes = refl })

same_document : (head text : List ℕ) (known document : Document) → (answered_by asking head >>= reads) ≡ Some known → answered_by asking head ≡ Some text
    → reads text ≡ Some document → known ≡ document
same_document head text known document k h r =
    let same : Some known ≡ Some document = sym k ∙ ap (λ (o : Option (List ℕ)). o >>= reads) h ∙ r in
    cc

same_moment : {A : Type 0} (a b : ℕ × A) → Some a ≡ Some b → a.0 ≡ b.0
same_moment a b h = let same : a ≡ b = cc in ap (λ p. p.0) same

-- the two parts of the Change List
part_asked : (path : List ℕ) → same_bytes path list_head ≡ false → IsTrue (is_some (answered_by asking path)) → IsAskedPart asking changes_head path
part_asked path other there = record { after_head = subst (λ (b : Bool). IsNoLater (asking changes_head) (asking_in b)) (sym other) (inr (refl, omega arith)); answered = there }

pub asks_both : AsksBoth asking (asking_in false)
unfolding digits encode_with decode_pairs block_words rounds compress hash_after digest_bytes md5 first_words schedule rounds_256 compress_256 hash_after_256 digest_bytes_256 sha256 date_of period_of days_of moment_text read_moment moment_digits read_hash list_text strip cut lines_of characters read_number doc_of read_count last_part resource_part change_part document_text read_facts read_resource read_bound read_deleted read_end read_resource_entry read_change_entry before_end read_up read_resource_md read_change_md reads read_list read_index read_children read_resource_list read_change_list read_resource_index read_change_index parts_at
asks_both = record {
  resources = λ text document h r.
      subst (λ d. AllByRecursion (IsAskedPart asking list_head) (part_paths d)) (same_document list_head text (ResourceList 2 listed) document documents.0 h r) tt;
  order = inl (omega arith);
  changes = λ text document h r.
      subst (λ d. AllByRecursion (IsAskedPart asking changes_head) (part_paths d)) (same_document changes_head text index document documents.1 h r)
      (part_asked (codes "/changelist/0.xml") refl refl, (part_asked (codes "/changelist/1.xml") refl refl, tt));
  head_by_last = inr (refl, omega arith);
  parts_by_last = λ text document h r.
      subst (λ d. AllByRecursion (λ path. IsNoLater (asking path) (asking_in false)) (part_paths d)) (same_document changes_head text index document documents.1 h r)
      (inr (refl, omega arith), (inr (refl, omega arith), tt));
  no_gap = λ all has.
      let known = documents.2 in
      let at : 2 ≡ all.at = same_moment (2, listed) (all.at, all.listed) (sym known.resources ∙ has.resources) in
      let from : 0 ≡ all.from = same_moment (0, changes) (all.from, all.changes) (sym known.changes ∙ has.changes) in
      omega (arith, at, from);
}

-- The mirror equals the resources that the source held after the commands of both sessions.
pub is_mirrored : (d e f g : DiskState) (image other : List ℕ)
    → IsMirrored start (two d e f g image other) standing (both d e f g image other)
unfolding both
is_mirrored d e f g image other = record {
  gathered = gathered;
  commands = first_commands ++ second_commands;
  made = [];
  has = documents.2;
  stand = record { after_head = ([], refl); by_last = ([], refl); survive = ([], refl) };
  next = inl refl;
  mirrored = refl;
}

-- the first change of a group that comes after the first session
abbrev then_group : Command × ℕ
then_group = (Group (single.Put (codes "c") (codes "text/plain") [] ∷ single.Delete (codes "a") ∷ []), 0)

abbrev first_made : List Change
first_made = bound (codes "c") false 3 no_bytes ∷ []

pub first_of_group : AreFirstOfNext start first_commands (first_commands ++ then_group ∷ []) first_made
first_of_group = record { next = then_group; comes = ([], refl); count = 1; fewer = omega arith; first = refl }
