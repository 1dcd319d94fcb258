-- Worked examples, computed: texts with their lengths in bytes and their readings, and texts that do not read.
use Rattle.std.proofs.Common.{◌≡◌, ℕ, List, [], ◌∷◌, length, take, refl, Option, Some, None, true, false}
use Rattle.std.specs.Prelude.{codes}
use Rattle.std.specs.Option.{option_map}
use Rattle.std.specs.Fmt.{digits}
use Rattle.hex.specs.Hex.{encode_with, decode_pairs}
use Rattle.md5.specs.Md5.{block_words, rounds, compress, hash_after, digest_bytes, md5}
use Rattle.sha2.specs.Sha256.{first_words, schedule, rounds as rounds_256, compress as compress_256, hash_after as hash_after_256, digest_bytes as digest_bytes_256, sha256}
use Rattle.rs_time.specs.Calendar.{date_of, period_of, days_of}
use Rattle.rs_time.specs.Moment.{moment_text}
use Rattle.rs_time.specs.ReadMoment.{read_moment, moment_digits}
use Rattle.rs_fixity.specs.ReadHash.{read_hash}
use Rattle.rs_record.specs.Changes.{bound, deleted}
use Rattle.rs_record.specs.declared.change.Change.{Change}
use Rattle.rs_record.specs.declared.facts.Facts.{Facts}
use Rattle.rs_model.specs.declared.command.Command.{Command}
use Rattle.rs_model.specs.declared.command.Command.TheVariants.{Put, Publish}
use Rattle.rs_model.specs.State.{Source, start_of, facts_of}
use Rattle.rs_model.specs.Step.{fold_of}
use Rattle.rs_lists.specs.declared.doc.Doc.TheVariants.{ResourcePart}
use Rattle.rs_lists.specs.Text.{list_text}
use Rattle.rs_caps.specs.Cut.{◌>>=◌, strip, cut, lines_of, characters, unescape, read_number}
use Rattle.rs_caps.specs.Paths.{doc_of, read_count, last_part, resource_part, change_part}
use Rattle.rs_caps.specs.DocumentTexts.{document_text}
use Rattle.rs_caps.specs.Readings.{ListedResource, ResourceEntry, ChangeEntry, Document}
use Rattle.rs_caps.specs.Readings.Document.{ResourceList, ChangeList, ResourceListIndex, ChangeListIndex}
use Rattle.rs_caps.specs.ReadLines.{read_facts, read_resource, read_bound, read_deleted, read_end, read_resource_entry, read_change_entry, before_end, read_up, read_resource_md, read_change_md}
use Rattle.rs_caps.specs.Reads.{reads, read_list, read_index, read_children, read_resource_list, read_change_list, read_resource_index, read_change_index}
use Rattle.rs_caps.specs.Answer.{answer}

-- the length in bytes of the answer at a path, and its reading
abbrev shown_at : Source → List ℕ → Option (ℕ × Option Document)
shown_at s path = option_map (λ text. (length text, reads text)) (answer s path)

-- a source of item limit 2, formatted at the first moment
abbrev source : Source
source = start_of (codes "http://127.0.0.1:8080") 2 0

abbrev put_at : ℕ → List ℕ → List ℕ → Command × ℕ
put_at now name bytes = (Put name (codes "text/plain") bytes, now)

-- at 2000-02-29: `a` without bytes, a publication, `b` of three bytes, and `b` again
abbrev on_leap_day : ℕ → Source
on_leap_day n =
    fold_of source (take n
    (put_at 951782400000 (codes "a") [] ∷ (Publish, 951782400000) ∷ put_at 951782400000 (codes "b") (codes "abc")
    ∷ put_at 951782400000 (codes "b") (codes "abc") ∷ []))

-- one millisecond after another: `a`, `b`, a publication, and `c`, `d` and `e`, each with a publication after it
abbrev in_turn : ℕ → Source
in_turn n =
    fold_of source (take n
    (put_at 0 (codes "a") [] ∷ put_at 0 (codes "b") [] ∷ (Publish, 0) ∷ put_at 0 (codes "c") [] ∷ (Publish, 0) ∷ put_at 0
    (codes "d") [] ∷ (Publish, 0)
    ∷ put_at 0 (codes "e") [] ∷ (Publish, 0) ∷ []))

abbrev no_bytes : Facts
no_bytes = facts_of (codes "text/plain") []

abbrev put_of : List ℕ → ℕ → Change
put_of name t = bound name false t no_bytes

-- one millisecond after another: `a`, `b` and `c`, a publication, `d` and `e`, and another publication
abbrev two_at_once : ℕ → Source
two_at_once n =
    fold_of source (take n
    (put_at 0 (codes "a") [] ∷ put_at 0 (codes "b") [] ∷ put_at 0 (codes "c") [] ∷ (Publish, 0) ∷ put_at 0 (codes "d") []
    ∷ put_at 0 (codes "e") [] ∷ (Publish, 0) ∷ []))

-- the commands in turn but the last publication, where no part was dropped
abbrev undropped : Source
undropped =
    record (in_turn 8) {
      first = 0;
      begin = 0;
      changes = put_of (codes "a") 1 ∷ put_of (codes "b") 2 ∷ put_of (codes "c") 4 ∷ put_of (codes "d") 6 ∷ put_of (codes "e") 8 ∷ [];
    }

abbrev at_moment : List ℕ → ℕ → ListedResource
at_moment name t = record { name = name; facts = no_bytes; moment = t }

abbrev of_moment : List ℕ → ℕ → ResourceEntry
of_moment path t = record { path = path; at = t }

abbrev between : List ℕ → ℕ → Option ℕ → ChangeEntry
between path start until = record { path = path; start = start; until = until }

abbrev reads_at : Source → List ℕ → Option Document
reads_at s path = answer s path >>= reads

pub texts :
    (answer source (codes "/resourcelist.xml")
    ≡ Some (codes "<?xml version=\"1.0\" encoding=\"UTF-8\"?>\n<urlset xmlns=\"http://www.sitemaps.org/schemas/sitemap/0.9\" xmlns:rs=\"http://www.openarchives.org/rs/terms/\">\n<rs:ln rel=\"up\" href=\"http://127.0.0.1:8080/capabilitylist.xml\"/>\n<rs:md capability=\"resourcelist\" at=\"1970-01-01T00:00:00.000Z\"/>\n</urlset>\n"))
    × (shown_at source (codes "/resourcelist.xml") ≡ Some (290, Some (ResourceList 0 [])))
    × (shown_at source (codes "/.well-known/resourcesync") ≡ Some (292, None))
    × (shown_at source (codes "/capabilitylist.xml") ≡ Some (454, None))
    × (shown_at (on_leap_day 2) (codes "/resourcelist.xml") ≡ Some
    (542, Some (ResourceList 951782400001 (at_moment (codes "a") 951782400000 ∷ []))))
    × (shown_at (on_leap_day 3) (codes "/changelist.xml")
    ≡ Some (
      900,
      Some (ChangeList 0 None
          (bound (codes "a") false 951782400000 no_bytes ∷ bound (codes "b") false 951782400002
          (facts_of (codes "text/plain") (codes "abc")) ∷ [])),
    ))
    × (shown_at (on_leap_day 4) (codes "/changelist.xml")
    ≡ Some (
      553,
      Some (ChangeListIndex 0 None
          (between (codes "/changelist/0.xml") 0 (Some 951782400002) ∷ between (codes "/changelist/1.xml") 951782400002 None ∷ [])),
    ))
    × (reads_at (on_leap_day 4) (codes "/changelist/1.xml") ≡ Some
    (ChangeList 951782400002 None (bound (codes "b") true 951782400003 (facts_of (codes "text/plain") (codes "abc")) ∷ [])))
    × (reads_at (in_turn 3) (codes "/resourcelist.xml") ≡ Some (ResourceList 3 (at_moment (codes "a") 1 ∷ at_moment (codes "b") 2 ∷ [])))
    × (reads_at (in_turn 5) (codes "/resourcelist.xml") ≡ Some
    (ResourceListIndex 5 (of_moment (codes "/resourcelist/2/0.xml") 5 ∷ of_moment (codes "/resourcelist/2/1.xml") 5 ∷ [])))
    × (answer (in_turn 7) (codes "/resourcelist/2/0.xml") ≡ None)
    × (reads_at (in_turn 9) (codes "/resourcelist.xml")
    ≡ Some (ResourceListIndex 9 (of_moment (codes "/resourcelist/4/0.xml") 9 ∷ of_moment (codes "/resourcelist/4/1.xml") 9
    ∷ of_moment (codes "/resourcelist/4/2.xml") 9 ∷ [])))
    × (reads_at (in_turn 9) (codes "/resourcelist/4/2.xml") ≡ Some (ResourceList 9 (at_moment (codes "e") 8 ∷ [])))
    × (answer (in_turn 2) (codes "/changelist/0.xml") ≡ None)
unfolding digits encode_with decode_pairs block_words rounds compress hash_after digest_bytes md5 first_words schedule rounds_256 compress_256 hash_after_256 digest_bytes_256 sha256 date_of period_of days_of moment_text read_moment moment_digits read_hash list_text strip cut lines_of characters read_number doc_of read_count last_part resource_part change_part document_text read_facts read_resource read_bound read_deleted read_end read_resource_entry read_change_entry before_end read_up read_resource_md read_change_md reads read_list read_index read_children read_resource_list read_change_list read_resource_index read_change_index
texts = (refl, refl, refl, refl, refl, refl, refl, refl, refl, refl, refl, refl, refl, refl)

-- The Change List of these: every publication drops the full parts that end at the publication before it or earlier,
-- and the others keep their numbers.
pub kept_parts :
    (reads_at (in_turn 2) (codes "/changelist.xml") ≡ Some
    (ChangeList 0 None (put_of (codes "a") 1 ∷ put_of (codes "b") 2 ∷ [])))
    × (reads_at (in_turn 4) (codes "/changelist.xml") ≡ Some
    (ChangeListIndex 0 None (between (codes "/changelist/0.xml") 0 (Some 2) ∷ between (codes "/changelist/1.xml") 2 None ∷ [])))
    × (reads_at (in_turn 5) (codes "/changelist.xml") ≡ Some (ChangeList 2 None (put_of (codes "c") 4 ∷ [])))
    × (answer (in_turn 5) (codes "/changelist/0.xml") ≡ None)
    × (reads_at (in_turn 6) (codes "/changelist.xml") ≡ Some
    (ChangeList 2 None (put_of (codes "c") 4 ∷ put_of (codes "d") 6 ∷ [])))
    × (answer (in_turn 6) (codes "/changelist/1.xml") ≡ None)
    × (reads_at (in_turn 8) (codes "/changelist.xml") ≡ Some
    (ChangeListIndex 2 None (between (codes "/changelist/1.xml") 2 (Some 6) ∷ between (codes "/changelist/2.xml") 6 None ∷ [])))
    × (reads_at (in_turn 8) (codes "/changelist/1.xml") ≡ Some
    (ChangeList 2 (Some 6) (put_of (codes "c") 4 ∷ put_of (codes "d") 6 ∷ [])))
    × (answer (in_turn 8) (codes "/changelist/0.xml") ≡ None)
    × (reads_at (in_turn 9) (codes "/changelist.xml") ≡ Some (ChangeList 6 None (put_of (codes "e") 8 ∷ [])))
unfolding digits encode_with decode_pairs block_words rounds compress hash_after digest_bytes md5 first_words schedule rounds_256 compress_256 hash_after_256 digest_bytes_256 sha256 date_of period_of days_of moment_text read_moment moment_digits read_hash list_text strip cut lines_of characters read_number doc_of read_count last_part resource_part change_part document_text read_facts read_resource read_bound read_deleted read_end read_resource_entry read_change_entry before_end read_up read_resource_md read_change_md reads read_list read_index read_children read_resource_list read_change_list read_resource_index read_change_index
kept_parts = (refl, refl, refl, refl, refl, refl, refl, refl, refl, refl)

-- A full part stays as it is where the one before it is dropped.
pub part_stays_where_another_goes :
    (reads_at (two_at_once 6) (codes "/changelist.xml") ≡ Some
    (ChangeListIndex 0 None
    (between (codes "/changelist/0.xml") 0 (Some 2) ∷ between (codes "/changelist/1.xml") 2 (Some 5) ∷ between
    (codes "/changelist/2.xml") 5 None ∷ [])))
    × (reads_at (two_at_once 7) (codes "/changelist.xml") ≡ Some
    (ChangeListIndex 2 None (between (codes "/changelist/1.xml") 2 (Some 5) ∷ between (codes "/changelist/2.xml") 5 None ∷ [])))
    × (reads_at (two_at_once 7) (codes "/changelist/1.xml") ≡ Some
    (ChangeList 2 (Some 5) (put_of (codes "c") 3 ∷ put_of (codes "d") 5 ∷ [])))
    × (answer (two_at_once 7) (codes "/changelist/1.xml") ≡ answer (two_at_once 6) (codes "/changelist/1.xml"))
    × (answer (two_at_once 7) (codes "/changelist/0.xml") ≡ None)
unfolding digits encode_with decode_pairs block_words rounds compress hash_after digest_bytes md5 first_words schedule rounds_256 compress_256 hash_after_256 digest_bytes_256 sha256 date_of period_of days_of moment_text read_moment moment_digits read_hash list_text strip cut lines_of characters read_number doc_of read_count last_part resource_part change_part document_text read_facts read_resource read_bound read_deleted read_end read_resource_entry read_change_entry before_end read_up read_resource_md read_change_md reads read_list read_index read_children read_resource_list read_change_list read_resource_index read_change_index
part_stays_where_another_goes = (refl, refl, refl, refl, refl)

-- A history of which no change was dropped yet, as all five changes of these are kept: its next publication leaves the
-- last.
pub all_at_once :
    ((fold_of undropped ((Publish, 0) ∷ [])).first ≡ 2) × ((fold_of undropped ((Publish, 0) ∷ [])).begin ≡ 6)
    × ((fold_of undropped ((Publish, 0) ∷ [])).changes ≡ put_of (codes "e") 8 ∷ [])
    × ((fold_of undropped ((Publish, 0) ∷ [])).at ≡ 9)
all_at_once = (refl, refl, refl, refl)

-- A number begins with no zero, sign or space; the five characters have one use each.
pub refused_values :
    (read_number (codes "0") ≡ Some 0) × (read_number (codes "007") ≡ None) × (read_number (codes "+7") ≡ None)
    × (read_number (codes "7 ") ≡ None) × (read_number [] ≡ None)
    × (unescape (codes "a&amp;&apos;b&quot;&gt;&lt;") ≡ Some (codes "a&'b\"><"))
    × (unescape (codes "a&b") ≡ None) × (unescape (codes "a'b") ≡ None) × (unescape (codes "a\"b") ≡ None)
    × (unescape (codes "a>b") ≡ None) × (unescape (codes "a<b") ≡ None)
    × (unescape (codes "a&amp") ≡ None) × (unescape (codes "a&AMP;") ≡ None) × (unescape (codes "a&#38;") ≡ None)
unfolding read_number characters strip
refused_values = (refl, refl, refl, refl, refl, refl, refl, refl, refl, refl, refl, refl, refl, refl)

-- A path has the numbers that it wants, of 64 bits, and no byte after its end.
pub refused_paths :
    (doc_of (codes "/resourcelist/1/0.xml") ≡ Some (ResourcePart 1 0)) × (doc_of (codes "/resourcelist/01/0.xml") ≡ None)
    × (doc_of (codes "/resourcelist/0.xml") ≡ None)
    × (doc_of (codes "/changelist/18446744073709551616.xml") ≡ None) × (doc_of (codes "/changelist/0.xml/") ≡ None)
    × (doc_of (codes "resourcelist.xml") ≡ None)
unfolding doc_of read_count last_part resource_part change_part strip cut read_number
refused_paths = (refl, refl, refl, refl, refl, refl)

-- Lines: a space after its end, a part whose `until` is 30 February, a `'` that is not escaped, a `lastmod` that is not
-- the `datetime`, and a base that is none.
pub refused_lines :
    (read_resource_entry (codes "http://a")
    (codes "<sitemap><loc>http://a/resourcelist/2/0.xml</loc><rs:md at=\"1970-01-01T00:00:00.005Z\"/></sitemap> ") ≡ None)
    × (read_change_entry (codes "http://a")
    (codes "<sitemap><loc>http://a/changelist/0.xml</loc><rs:md from=\"1970-01-01T00:00:00.000Z\" until=\"1970-02-30T00:00:00.000Z\"/></sitemap>")
    ≡ None)
    × (read_deleted (codes "http://a")
    (codes "<url><loc>http://a/resource/o'k</loc><rs:md change=\"deleted\" datetime=\"1970-01-01T00:00:00.000Z\"/></url>") ≡ None)
    × (read_deleted (codes "http://a")
    (codes "<url><loc>http://a/resource/o&apos;k</loc><rs:md change=\"deleted\" datetime=\"1970-01-01T00:00:00.000Z\"/></url>")
    ≡ Some (deleted (codes "o'k") 0))
    × (read_bound (codes "http://a") false
    (codes "<url><loc>http://a/resource/b</loc><lastmod>1970-01-01T00:00:00.001Z</lastmod><rs:md change=\"created\" datetime=\"1970-01-01T00:00:00.002Z\" hash=\"md5:d41d8cd98f00b204e9800998ecf8427e sha-256:e3b0c44298fc1c149afbf4c8996fb92427ae41e4649b934ca495991b7852b855\" length=\"0\" type=\"text/plain\"/></url>")
    ≡ None)
    × (read_up (codes "<rs:ln rel=\"up\" href=\"http://a/capabilitylist.xml\"/>") ≡ Some (codes "http://a"))
    × (read_up (codes "<rs:ln rel=\"up\" href=\"http://a&b/capabilitylist.xml\"/>") ≡ None)
unfolding digits encode_with decode_pairs block_words rounds compress hash_after digest_bytes md5 first_words schedule rounds_256 compress_256 hash_after_256 digest_bytes_256 sha256 date_of period_of days_of moment_text read_moment moment_digits read_hash list_text strip cut lines_of characters read_number doc_of read_count last_part resource_part change_part document_text read_facts read_resource read_bound read_deleted read_end read_resource_entry read_change_entry before_end read_up read_resource_md read_change_md reads read_list read_index read_children read_resource_list read_change_list read_resource_index read_change_index
refused_lines = (refl, refl, refl, refl, refl, refl, refl)
