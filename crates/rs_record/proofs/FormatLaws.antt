-- A value that is read was written, and a value that was written is read: facts, records and changes.
use Rattle.std.proofs.Common.{◌≡◌, ℕ, List, [], ◌∷◌, ◌++◌, Some, refl, ap, ◌∙◌}
use Rattle.std.specs.Int.{w32, w64, to_be_bytes}
use Rattle.rs_record.specs.Name.{is_name}
use Rattle.rs_record.specs.MediaType.{is_media_type}
use Rattle.rs_record.specs.Format.{counted_text, facts_bytes, facts_in, record_bytes}
use Rattle.rs_record.specs.Lawful.{IsLawfulFacts, IsLawfulRecord}
use Rattle.rs_record.specs.Reading.{◌>>=◌, piece_at, number_in, text_at, moment_in, facts_at, record_at}
use Rattle.rs_record.specs.declared.facts.Facts.{Facts}
use Rattle.rs_record.specs.declared.record.Record.{Record}
use Rattle.rs_record.proofs.FieldLaws.{AreBytes, Takes, IsFormat, bind_some, takes_as, one_more, concat-onto, piece, piece_read, number_4, text, moment}

-- ---- facts

facts_takes : (bytes : List ℕ) (x : Facts × List ℕ) → AreBytes bytes → facts_at bytes ≡ Some x → Takes facts_bytes IsLawfulFacts bytes x
unfolding facts_at
facts_takes bytes x fits e =
    let made : List ℕ → ℕ → List ℕ → List ℕ → Facts = λ kind len md5 sha256. record { kind = kind; length = len; digests = record { md5 = md5; sha256 = sha256 } } in
    let a = bind_some (text_at is_media_type bytes) (λ kind. number_in w32 kind.1 >>= λ len. piece_at 16 len.1 >>= λ md5. piece_at 32 md5.1 >>= λ sha256. Some (made kind.0 len.0 md5.0 sha256.0, sha256.1)) x e in
    let b = bind_some (number_in w32 a.0.1) (λ len. piece_at 16 len.1 >>= λ md5. piece_at 32 md5.1 >>= λ sha256. Some (made a.0.0 len.0 md5.0 sha256.0, sha256.1)) x a.2 in
    let d = bind_some (piece_at 16 b.0.1) (λ md5. piece_at 32 md5.1 >>= λ sha256. Some (made a.0.0 b.0.0 md5.0 sha256.0, sha256.1)) x b.2 in
    let f = bind_some (piece_at 32 d.0.1) (λ sha256. Some (made a.0.0 b.0.0 d.0.0 sha256.0, sha256.1)) x d.2 in
    let ta = (text is_media_type).takes bytes a.0 fits a.1 in
    let tb = number_4.takes a.0.1 b.0 ta.rest b.1 in
    let td = (piece 16).takes b.0.1 d.0 tb.rest d.1 in
    let tf = (piece 32).takes d.0.1 f.0 td.rest f.1 in
    let K = counted_text a.0.0 in
    let L = to_be_bytes w32 b.0.0 in
    let one = one_more [] bytes K bytes a.0.1 refl ta.parts in
    let two = one_more (K ∷ []) bytes L a.0.1 b.0.1 one tb.parts in
    let three = one_more (K ∷ L ∷ []) bytes d.0.0 b.0.1 d.0.1 two td.parts in
    let four = one_more (K ∷ L ∷ d.0.0 ∷ []) bytes f.0.0 d.0.1 f.0.1 three tf.parts in
    takes_as (made a.0.0 b.0.0 d.0.0 f.0.0, f.0.1) x f.2
    (record { parts = four; rest = tf.rest; lawful = record { kind = ta.lawful; len = tb.lawful; md5 = td.lawful.length; sha256 = tf.lawful.length } })

facts_again : (f : Facts) (rest : List ℕ) → IsLawfulFacts f → facts_at (facts_bytes f ++ rest) ≡ Some (f, rest)
unfolding facts_at
facts_again f rest h =
    ap facts_at (concat-onto (counted_text f.kind ∷ to_be_bytes w32 f.length ∷ f.digests.md5 ∷ f.digests.sha256 ∷ []) rest)
    ∙ rw (
      (text is_media_type).again f.kind (to_be_bytes w32 f.length ++ (f.digests.md5 ++ (f.digests.sha256 ++ rest))) h.kind,
      number_4.again f.length (f.digests.md5 ++ (f.digests.sha256 ++ rest)) h.len,
      piece_read 16 f.digests.md5 (f.digests.sha256 ++ rest) h.md5,
      piece_read 32 f.digests.sha256 rest h.sha256,
    ) refl

pub facts : IsFormat facts_at facts_bytes IsLawfulFacts
facts = record { takes = facts_takes; again = facts_again }

-- ---- records

record_takes : (bytes : List ℕ) (x : Record × List ℕ) → AreBytes bytes → record_at bytes ≡ Some x → Takes record_bytes IsLawfulRecord bytes x
unfolding record_at
record_takes bytes x fits e =
    let made : List ℕ → Facts → ℕ → ℕ → ℕ → Record = λ name known t first blocks. record { name = name; kind = known.kind; length = known.length; digests = known.digests; moment = t; extent = record { first = first; blocks = blocks } } in
    let a = bind_some (text_at is_name bytes) (λ name. facts_at name.1 >>= λ known. moment_in known.1 >>= λ t. number_in w32 t.1 >>= λ first. number_in w32 first.1 >>= λ blocks. Some (made name.0 known.0 t.0 first.0 blocks.0, blocks.1)) x e in
    let b = bind_some (facts_at a.0.1) (λ known. moment_in known.1 >>= λ t. number_in w32 t.1 >>= λ first. number_in w32 first.1 >>= λ blocks. Some (made a.0.0 known.0 t.0 first.0 blocks.0, blocks.1)) x a.2 in
    let d = bind_some (moment_in b.0.1) (λ t. number_in w32 t.1 >>= λ first. number_in w32 first.1 >>= λ blocks. Some (made a.0.0 b.0.0 t.0 first.0 blocks.0, blocks.1)) x b.2 in
    let f = bind_some (number_in w32 d.0.1) (λ first. number_in w32 first.1 >>= λ blocks. Some (made a.0.0 b.0.0 d.0.0 first.0 blocks.0, blocks.1)) x d.2 in
    let g = bind_some (number_in w32 f.0.1) (λ blocks. Some (made a.0.0 b.0.0 d.0.0 f.0.0 blocks.0, blocks.1)) x f.2 in
    let ta = (text is_name).takes bytes a.0 fits a.1 in
    let tb = facts.takes a.0.1 b.0 ta.rest b.1 in
    let td = moment.takes b.0.1 d.0 tb.rest d.1 in
    let tf = number_4.takes d.0.1 f.0 td.rest f.1 in
    let tg = number_4.takes f.0.1 g.0 tf.rest g.1 in
    let N = counted_text a.0.0 in
    let F = facts_bytes b.0.0 in
    let M = to_be_bytes w64 d.0.0 in
    let first = to_be_bytes w32 f.0.0 in
    let one = one_more [] bytes N bytes a.0.1 refl ta.parts in
    let two = one_more (N ∷ []) bytes F a.0.1 b.0.1 one tb.parts in
    let three = one_more (N ∷ F ∷ []) bytes M b.0.1 d.0.1 two td.parts in
    let four = one_more (N ∷ F ∷ M ∷ []) bytes first d.0.1 f.0.1 three tf.parts in
    let five = one_more (N ∷ F ∷ M ∷ first ∷ []) bytes (to_be_bytes w32 g.0.0) f.0.1 g.0.1 four tg.parts in
    takes_as (made a.0.0 b.0.0 d.0.0 f.0.0 g.0.0, g.0.1) x g.2
    (record { parts = five; rest = tg.rest; lawful = record { name = ta.lawful; facts = tb.lawful; moment = td.lawful; first = tf.lawful; blocks = tg.lawful } })

record_again : (r : Record) (rest : List ℕ) → IsLawfulRecord r → record_at (record_bytes r ++ rest) ≡ Some (r, rest)
unfolding record_at
record_again r rest h =
    let blocks = to_be_bytes w32 r.extent.blocks ++ rest in
    let first = to_be_bytes w32 r.extent.first ++ blocks in
    let M = to_be_bytes w64 r.moment ++ first in
    ap record_at (concat-onto (counted_text r.name ∷ facts_bytes (facts_in r) ∷ to_be_bytes w64 r.moment ∷ to_be_bytes w32 r.extent.first ∷ to_be_bytes w32 r.extent.blocks ∷ []) rest)
    ∙ rw (
      (text is_name).again r.name (facts_bytes (facts_in r) ++ M) h.name,
      facts.again (facts_in r) M h.facts,
      moment.again r.moment first h.moment,
      number_4.again r.extent.first blocks h.first,
      number_4.again r.extent.blocks rest h.blocks,
    ) refl

pub a_record : IsFormat record_at record_bytes IsLawfulRecord
a_record = record { takes = record_takes; again = record_again }
