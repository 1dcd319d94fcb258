-- Worked walks, computed: a destination whose fetches lie between commands, and one of the commands stopped.
use Rattle.std.proofs.Common.{◌≡◌, ℕ, ◌≤◌, sym, ap, subst, ◌∙◌, arith, List, [], ◌∷◌, refl, Option, Some, None, true, false}
use Rattle.std.specs.Prelude.{codes, if◌then◌else◌, is_some, IsTrue}
use Rattle.std.specs.List.{AllByRecursion}
use Rattle.std.specs.Fmt.{digits}
use Rattle.hex.specs.Hex.{encode_with, decode_pairs}
use Rattle.md5.specs.Md5.{block_words, rounds, compress, hash_after, digest_bytes, md5}
use Rattle.sha2.specs.Sha256.{first_words, schedule, rounds as rounds_256, compress as compress_256, hash_after as hash_after_256, digest_bytes as digest_bytes_256, sha256}
use Rattle.rs_time.specs.Calendar.{date_of, period_of, days_of}
use Rattle.rs_time.specs.Moment.{moment_text}
use Rattle.rs_time.specs.ReadMoment.{read_moment, moment_digits, same_bytes}
use Rattle.rs_fixity.specs.ReadHash.{read_hash}
use Rattle.rs_record.specs.Changes.{bound, deleted}
use Rattle.rs_record.specs.declared.change.Change.{Change}
use Rattle.rs_record.specs.declared.facts.Facts.{Facts}
use Rattle.rs_model.specs.declared.command.Command.{Command}
use Rattle.rs_model.specs.declared.command.Command.TheVariants.{Put, Delete, Publish}
use Rattle.rs_model.specs.declared.event.Event.{Event}
use Rattle.rs_model.specs.declared.event.Event.TheVariants.{Tried, Stopped, Fetch}
use Rattle.rs_model.specs.declared.value.Entry.{Entry}
use Rattle.rs_model.specs.State.{Source, start_of, facts_of, entries}
use Rattle.rs_model.specs.Step.{mirror_of}
use Rattle.rs_model.specs.Walk.{walk_of, state_at, count_at, catalogue}
use Rattle.rs_lists.specs.Text.{list_text}
use Rattle.rs_caps.specs.Cut.{◌>>=◌, strip, cut, lines_of, characters, read_number}
use Rattle.rs_caps.specs.Paths.{doc_of, read_count, last_part, resource_part, change_part}
use Rattle.rs_caps.specs.DocumentTexts.{document_text}
use Rattle.rs_caps.specs.Readings.{ChangeEntry, Document}
use Rattle.rs_caps.specs.Readings.Document.{ResourceList, ChangeList, ChangeListIndex}
use Rattle.rs_caps.specs.ReadLines.{read_facts, read_resource, read_bound, read_deleted, read_end, read_resource_entry, read_change_entry, before_end, read_up, read_resource_md, read_change_md}
use Rattle.rs_caps.specs.Reads.{reads, read_list, read_index, read_children, read_resource_list, read_change_list, read_resource_index, read_change_index}
use Rattle.rs_caps.specs.Gather.{parts_at, gather_resources, gather_changes}
use Rattle.rs_caps.specs.Destination.{part_paths, fetched_at, IsFetchedPart, IsFetched, HaveNoGap, IsFollowed}
use Rattle.rs_caps.proofs.ListsRead.{same_pair}

-- a source of item limit 2, formatted at the first moment
abbrev source : Source
source = start_of (codes "http://127.0.0.1:8080") 2 0

abbrev put : List ℕ → Command
put name = Put name (codes "text/plain") []

-- `a` is put and published, and the Resource List fetched; `b` is put and `a` deleted, and the Change List's head
-- fetched; then comes this event, `d` is put, and the Change List's two parts are fetched
abbrev with_event : Event → List Event
with_event event =
    Tried (put (codes "a")) 0 ∷ Tried Publish 0 ∷ Fetch ∷ Tried (put (codes "b")) 0 ∷ Tried (Delete (codes "a")) 0 ∷ Fetch
    ∷ event ∷ Tried (put (codes "d")) 0 ∷ Fetch ∷ Fetch ∷ []

-- the number of events after which a path is fetched
abbrev when : List ℕ → ℕ
when path =
    if same_bytes path (codes "/resourcelist.xml") then 2 else if same_bytes path (codes "/changelist.xml") then 5
    else if same_bytes path (codes "/changelist/0.xml") then 8 else 9

-- `c` is put in between, or the source is stopped in this put, which was applied, or was not
abbrev with_c : List Event
with_c = with_event (Tried (put (codes "c")) 0)

abbrev with_c_after_all : List Event
with_c_after_all = with_event (Stopped (put (codes "c")) 0 true)

abbrev without_c : List Event
without_c = with_event (Stopped (put (codes "c")) 0 false)

abbrev no_bytes : Facts
no_bytes = facts_of (codes "text/plain") []

abbrev put_at : List ℕ → ℕ → Change
put_at name t = bound name false t no_bytes

abbrev entry_at : List ℕ → ℕ → List ℕ × Entry
entry_at name t = (name, record { facts = no_bytes; moment = t })

abbrev between : List ℕ → ℕ → Option ℕ → ChangeEntry
between path start until = record { path = path; start = start; until = until }

abbrev read_by : List Event → (List ℕ → ℕ) → List ℕ → Option Document
read_by events when path = fetched_at source events when path >>= reads

abbrev read_at : List Event → List ℕ → Option Document
read_at events path = read_by events when path

-- Four changes are gathered of five, and mirrored they are `b` and `c`: the catalogue after 4 changes, and the
-- resources held after seven of the events.
pub walk_with_c :
    (read_at with_c (codes "/changelist.xml") ≡ Some (ChangeListIndex 0 None
    (between (codes "/changelist/0.xml") 0 (Some 3) ∷ between (codes "/changelist/1.xml") 3 None ∷ [])))
    × (read_at with_c (codes "/changelist/1.xml") ≡ Some (ChangeList 3 (Some 5) (deleted (codes "a") 4 ∷ put_at (codes "c") 5 ∷ [])))
    × (gather_resources (fetched_at source with_c when) ≡ Some
    (2, record { name = codes "a"; facts = no_bytes; moment = 1 } ∷ []))
    × (gather_changes (fetched_at source with_c when) ≡ Some
    (0, put_at (codes "a") 1 ∷ put_at (codes "b") 3 ∷ deleted (codes "a") 4 ∷ put_at (codes "c") 5 ∷ []))
    × (mirror_of (entry_at (codes "a") 1 ∷ []) 2
    (put_at (codes "a") 1 ∷ put_at (codes "b") 3 ∷ deleted (codes "a") 4 ∷ put_at (codes "c") 5 ∷ [])
    ≡ entry_at (codes "b") 3 ∷ entry_at (codes "c") 5 ∷ [])
    × (catalogue source with_c 4 ≡ entry_at (codes "b") 3 ∷ entry_at (codes "c") 5 ∷ [])
    × (count_at source with_c 5 ≡ 3) × (count_at source with_c 9 ≡ 5)
    × (entries (state_at source with_c 7).held ≡ catalogue source with_c 4)
unfolding digits encode_with decode_pairs block_words rounds compress hash_after digest_bytes md5 first_words schedule rounds_256 compress_256 hash_after_256 digest_bytes_256 sha256 date_of period_of days_of moment_text read_moment moment_digits read_hash list_text strip cut lines_of characters read_number doc_of read_count last_part resource_part change_part document_text read_facts read_resource read_bound read_deleted read_end read_resource_entry read_change_entry before_end read_up read_resource_md read_change_md reads read_list read_index read_children read_resource_list read_change_list read_resource_index read_change_index parts_at
walk_with_c = (refl, refl, refl, refl, refl, refl, refl, refl, refl)

-- Where the stopped put was applied, all is as if it had been answered; where it was not, `d` has its moment.
pub walk_stopped :
    (walk_of source with_c_after_all ≡ walk_of source with_c)
    × (catalogue source with_c_after_all 4 ≡ catalogue source with_c 4)
    × (read_at without_c (codes "/changelist/1.xml") ≡ Some (ChangeList 3 (Some 5) (deleted (codes "a") 4 ∷ put_at (codes "d") 5 ∷ [])))
    × (gather_changes (fetched_at source without_c when) ≡ Some
    (0, put_at (codes "a") 1 ∷ put_at (codes "b") 3 ∷ deleted (codes "a") 4 ∷ put_at (codes "d") 5 ∷ []))
    × (catalogue source without_c 4 ≡ entry_at (codes "b") 3 ∷ entry_at (codes "d") 5 ∷ [])
    × (count_at source without_c 9 ≡ 4)
unfolding digits encode_with decode_pairs block_words rounds compress hash_after digest_bytes md5 first_words schedule rounds_256 compress_256 hash_after_256 digest_bytes_256 sha256 date_of period_of days_of moment_text read_moment moment_digits read_hash list_text strip cut lines_of characters read_number doc_of read_count last_part resource_part change_part document_text read_facts read_resource read_bound read_deleted read_end read_resource_entry read_change_entry before_end read_up read_resource_md read_change_md reads read_list read_index read_children read_resource_list read_change_list read_resource_index read_change_index parts_at
walk_stopped = (refl, refl, refl, refl, refl, refl)

-- `a` and `b` are put and published, and the Resource List fetched; `c` is put, and a publication drops part 0; then
-- `d` is put, and of two publications the second drops part 1.
abbrev with_drops : List Event
with_drops =
    Tried (put (codes "a")) 0 ∷ Tried (put (codes "b")) 0 ∷ Tried Publish 0 ∷ Fetch ∷ Tried (put (codes "c")) 0 ∷ Tried Publish 0
    ∷ Fetch ∷ Tried (put (codes "d")) 0 ∷ Tried Publish 0 ∷ Tried Publish 0 ∷ Fetch ∷ []

-- the Change List is fetched after this many events
abbrev at_last : ℕ → List ℕ → ℕ
at_last n path = if same_bytes path (codes "/resourcelist.xml") then 3 else n

-- Between the drops the Change List begins at a moment that the Resource List has, and the two make the held resources.
-- After both there is a gap: `c` and `d` are missing.
pub walk_with_drops :
    (gather_resources (fetched_at source with_drops (at_last 6)) ≡ Some
    (3, record { name = codes "a"; facts = no_bytes; moment = 1 } ∷ record { name = codes "b"; facts = no_bytes; moment = 2 } ∷ []))
    × (gather_changes (fetched_at source with_drops (at_last 6)) ≡ Some (2, put_at (codes "c") 4 ∷ []))
    × (mirror_of (entry_at (codes "a") 1 ∷ entry_at (codes "b") 2 ∷ []) 3 (put_at (codes "c") 4 ∷ []) ≡ catalogue source with_drops 3)
    × (entries (state_at source with_drops 6).held ≡ catalogue source with_drops 3)
    × (gather_resources (fetched_at source with_drops (at_last 10)) ≡ gather_resources (fetched_at source with_drops (at_last 6)))
    × (gather_changes (fetched_at source with_drops (at_last 10)) ≡ Some (6, []))
    × (catalogue source with_drops 4
    ≡ entry_at (codes "a") 1 ∷ entry_at (codes "b") 2 ∷ entry_at (codes "c") 4 ∷ entry_at (codes "d") 6 ∷ [])
unfolding digits encode_with decode_pairs block_words rounds compress hash_after digest_bytes md5 first_words schedule rounds_256 compress_256 hash_after_256 digest_bytes_256 sha256 date_of period_of days_of moment_text read_moment moment_digits read_hash list_text strip cut lines_of characters read_number doc_of read_count last_part resource_part change_part document_text read_facts read_resource read_bound read_deleted read_end read_resource_entry read_change_entry before_end read_up read_resource_md read_change_md reads read_list read_index read_children read_resource_list read_change_list read_resource_index read_change_index parts_at
walk_with_drops = (refl, refl, refl, refl, refl, refl, refl)

pub walk_has_gap : HaveNoGap source with_drops (at_last 10) → ⊥
walk_has_gap no_gap =
    let gap : 6 ≤ 3 = no_gap 3 6 _ _ (walk_with_drops.4 ∙ walk_with_drops.0) walk_with_drops.5 in
    omega (arith, gap)

-- These fetches meet the premises of the law on destinations: so it applies to them.
same_document : (events : List Event) (when : List ℕ → ℕ) (head text : List ℕ) (known document : Document)
    → read_by events when head ≡ Some known → fetched_at source events when head ≡ Some text → reads text ≡ Some document → known ≡ document
same_document events when head text known document k h r =
    let same : Some known ≡ Some document = sym k ∙ ap (λ (o : Option (List ℕ)). o >>= reads) h ∙ r in
    cc

-- a list that is fetched whole
fetched_whole : (events : List Event) (when : List ℕ → ℕ) (last : ℕ) (head : List ℕ) (known : Document) → when head ≤ last
    → read_by events when head ≡ Some known → part_paths known ≡ [] → IsFetched source events when last head
fetched_whole events when last head known by_last read none =
    let AreParts : List (List ℕ) → Type 0 = AllByRecursion (IsFetchedPart source events when (when head) last) in
    record {
      by_last = by_last;
      parts = λ text document h r.
          subst AreParts (sym none ∙ ap part_paths (same_document events when head text known document read h r)) tt;
    }

part_of_head : (path : List ℕ) → 5 ≤ when path → when path ≤ 9 → IsTrue (is_some (fetched_at source with_c when path))
    → IsFetchedPart source with_c when 5 9 path
part_of_head path after by there = record { after_head = after; by_last = by; answered = there }

pub walk_followed : IsFollowed source with_c when 2 9
unfolding digits encode_with decode_pairs block_words rounds compress hash_after digest_bytes md5 first_words schedule rounds_256 compress_256 hash_after_256 digest_bytes_256 sha256 date_of period_of days_of moment_text read_moment moment_digits read_hash list_text strip cut lines_of characters read_number doc_of read_count last_part resource_part change_part document_text read_facts read_resource read_bound read_deleted read_end read_resource_entry read_change_entry before_end read_up read_resource_md read_change_md reads read_list read_index read_children read_resource_list read_change_list read_resource_index read_change_index parts_at
walk_followed =
    record {
      resources =
          fetched_whole with_c when 2 (codes "/resourcelist.xml") (ResourceList 2 (record { name = codes "a"; facts = no_bytes; moment = 1 } ∷ []))
          (omega arith) refl refl;
      order = omega arith;
      changes =
          record {
            by_last = omega arith;
            parts = λ text document h r.
                subst (λ d. AllByRecursion (IsFetchedPart source with_c when 5 9) (part_paths d))
                (same_document with_c when (codes "/changelist.xml") text
                (ChangeListIndex 0 None (between (codes "/changelist/0.xml") 0 (Some 3) ∷ between (codes "/changelist/1.xml") 3 None ∷ []))
                document refl h r) (
                  part_of_head (codes "/changelist/0.xml") (omega arith) (omega arith) refl,
                  (part_of_head (codes "/changelist/1.xml") (omega arith) (omega arith) refl, tt),
                );
          };
      no_gap = λ at start listed changes h g.
          let resources = same_pair (2, _) (at, listed) (sym walk_with_c.2 ∙ h) in
          let followed = same_pair (0, _) (start, changes) (sym walk_with_c.3 ∙ g) in
          omega (arith, resources.0, followed.0);
    }

pub walk_with_drops_followed : IsFollowed source with_drops (at_last 6) 3 6
unfolding digits encode_with decode_pairs block_words rounds compress hash_after digest_bytes md5 first_words schedule rounds_256 compress_256 hash_after_256 digest_bytes_256 sha256 date_of period_of days_of moment_text read_moment moment_digits read_hash list_text strip cut lines_of characters read_number doc_of read_count last_part resource_part change_part document_text read_facts read_resource read_bound read_deleted read_end read_resource_entry read_change_entry before_end read_up read_resource_md read_change_md reads read_list read_index read_children read_resource_list read_change_list read_resource_index read_change_index parts_at
walk_with_drops_followed =
    record {
      resources =
          fetched_whole with_drops (at_last 6) 3 (codes "/resourcelist.xml")
          (ResourceList 3 (record { name = codes "a"; facts = no_bytes; moment = 1 } ∷ record { name = codes "b"; facts = no_bytes; moment = 2 } ∷ []))
          (omega arith) refl refl;
      order = omega arith;
      changes =
          fetched_whole with_drops (at_last 6) 6 (codes "/changelist.xml") (ChangeList 2 None (put_at (codes "c") 4 ∷ [])) (omega arith) refl refl;
      no_gap = λ at start listed changes h g.
          let resources = same_pair (3, _) (at, listed) (sym walk_with_drops.0 ∙ h) in
          let followed = same_pair (2, _) (start, changes) (sym walk_with_drops.1 ∙ g) in
          omega (arith, resources.0, followed.0);
    }
