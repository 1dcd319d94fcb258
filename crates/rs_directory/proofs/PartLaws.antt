-- A value that is read was written, and a value that was written is read: numbers of pages and entries.
use Rattle.std.proofs.Common.{◌≡◌, ℕ, ◌^◌, ◌<◌, List, [], ◌∷◌, ◌++◌, length, Some, None, refl, ap, ◌∙◌}
use Rattle.std.specs.List.{concat}
use Rattle.std.specs.Int.{w32, to_be_bytes}
use Rattle.rs_record.specs.Reading.{◌>>=◌, piece_at, number_in}
use Rattle.rs_directory.proofs.FromBelow.{AreBytes, Takes, IsFormat, bind_some, takes_as, one_more, concat-onto, piece, piece_read, number_4, number_none, piece_none_of}
use Rattle.rs_page.specs.declared.place.PageRef.{PageRef}
use Rattle.rs_directory.specs.declared.parts.PageCounts.{PageCounts}
use Rattle.rs_directory.specs.Directory.{ref_bytes, IsLawfulRef}
use Rattle.rs_directory.specs.Reading.{counts_at, page_entry_at}

-- ---- numbers of pages

-- three numbers, one after the other
abbrev pub counts_bytes : PageCounts → List ℕ
counts_bytes n = concat (to_be_bytes w32 n.catalogue ∷ to_be_bytes w32 n.changes ∷ to_be_bytes w32 n.published ∷ [])

-- all counts have 32 bits
pub record AreLawfulCounts (n : PageCounts) : Type 0 where
  pub catalogue : n.catalogue < 2 ^ 32
  pub changes : n.changes < 2 ^ 32
  pub published : n.published < 2 ^ 32

counts_takes : (bytes : List ℕ) (x : PageCounts × List ℕ) → AreBytes bytes → counts_at bytes ≡ Some x → Takes counts_bytes AreLawfulCounts bytes x
unfolding counts_at
counts_takes bytes x fits e =
    let made : ℕ → ℕ → ℕ → PageCounts = λ catalogue changes published. record { catalogue = catalogue; changes = changes; published = published } in
    let a = bind_some (number_in w32 bytes) (λ catalogue. number_in w32 catalogue.1 >>= λ changes. number_in w32 changes.1
    >>= λ published. Some (made catalogue.0 changes.0 published.0, published.1)) x e in
    let b = bind_some (number_in w32 a.0.1) (λ changes. number_in w32 changes.1 >>= λ published. Some (made a.0.0 changes.0 published.0, published.1)) x a.2 in
    let d = bind_some (number_in w32 b.0.1) (λ published. Some (made a.0.0 b.0.0 published.0, published.1)) x b.2 in
    let ta = number_4.takes bytes a.0 fits a.1 in
    let tb = number_4.takes a.0.1 b.0 ta.rest b.1 in
    let td = number_4.takes b.0.1 d.0 tb.rest d.1 in
    let A = to_be_bytes w32 a.0.0 in
    let B = to_be_bytes w32 b.0.0 in
    let one = one_more [] bytes A bytes a.0.1 refl ta.parts in
    let two = one_more (A ∷ []) bytes B a.0.1 b.0.1 one tb.parts in
    let three = one_more (A ∷ B ∷ []) bytes (to_be_bytes w32 d.0.0) b.0.1 d.0.1 two td.parts in
    takes_as (made a.0.0 b.0.0 d.0.0, d.0.1) x d.2
    (record { parts = three; rest = td.rest; lawful = record { catalogue = ta.lawful; changes = tb.lawful; published = td.lawful } })

counts_again : (n : PageCounts) (rest : List ℕ) → AreLawfulCounts n → counts_at (counts_bytes n ++ rest) ≡ Some (n, rest)
unfolding counts_at
counts_again n rest lawful =
    let published = to_be_bytes w32 n.published ++ rest in
    let changes = to_be_bytes w32 n.changes ++ published in
    ap counts_at (concat-onto (to_be_bytes w32 n.catalogue ∷ to_be_bytes w32 n.changes ∷ to_be_bytes w32 n.published ∷ []) rest)
    ∙ rw (
      number_4.again n.catalogue changes lawful.catalogue,
      number_4.again n.changes published lawful.changes,
      number_4.again n.published rest lawful.published,
    ) refl

pub counts : IsFormat counts_at counts_bytes AreLawfulCounts
counts = record { takes = counts_takes; again = counts_again }

-- ---- entries

ref_takes : (bytes : List ℕ) (x : PageRef × List ℕ) → AreBytes bytes → page_entry_at bytes ≡ Some x → Takes ref_bytes IsLawfulRef bytes x
unfolding page_entry_at
ref_takes bytes x fits e =
    let made : ℕ → ℕ → ℕ → List ℕ → PageRef =
    λ first blocks len sha256. record { extent = record { first = first; blocks = blocks }; length = len; sha256 = sha256 } in
    let a = bind_some (number_in w32 bytes) (λ first. number_in w32 first.1 >>= λ blocks. number_in w32 blocks.1 >>= λ len. piece_at 32 len.1
    >>= λ sha256. Some (made first.0 blocks.0 len.0 sha256.0, sha256.1)) x e in
    let b = bind_some (number_in w32 a.0.1) (λ blocks. number_in w32 blocks.1 >>= λ len. piece_at 32 len.1
    >>= λ sha256. Some (made a.0.0 blocks.0 len.0 sha256.0, sha256.1)) x a.2 in
    let d = bind_some (number_in w32 b.0.1) (λ len. piece_at 32 len.1 >>= λ sha256. Some (made a.0.0 b.0.0 len.0 sha256.0, sha256.1)) x b.2 in
    let f = bind_some (piece_at 32 d.0.1) (λ sha256. Some (made a.0.0 b.0.0 d.0.0 sha256.0, sha256.1)) x d.2 in
    let ta = number_4.takes bytes a.0 fits a.1 in
    let tb = number_4.takes a.0.1 b.0 ta.rest b.1 in
    let td = number_4.takes b.0.1 d.0 tb.rest d.1 in
    let tf = (piece 32).takes d.0.1 f.0 td.rest f.1 in
    let F = to_be_bytes w32 a.0.0 in
    let B = to_be_bytes w32 b.0.0 in
    let L = to_be_bytes w32 d.0.0 in
    let one = one_more [] bytes F bytes a.0.1 refl ta.parts in
    let two = one_more (F ∷ []) bytes B a.0.1 b.0.1 one tb.parts in
    let three = one_more (F ∷ B ∷ []) bytes L b.0.1 d.0.1 two td.parts in
    let four = one_more (F ∷ B ∷ L ∷ []) bytes f.0.0 d.0.1 f.0.1 three tf.parts in
    takes_as (made a.0.0 b.0.0 d.0.0 f.0.0, f.0.1) x f.2
    (record { parts = four; rest = tf.rest; lawful = record { first = ta.lawful; blocks = tb.lawful; len = td.lawful; sha256 = tf.lawful.length } })

ref_again : (r : PageRef) (rest : List ℕ) → IsLawfulRef r → page_entry_at (ref_bytes r ++ rest) ≡ Some (r, rest)
unfolding page_entry_at
ref_again r rest lawful =
    let sha256 = r.sha256 ++ rest in
    let len = to_be_bytes w32 r.length ++ sha256 in
    let blocks = to_be_bytes w32 r.extent.blocks ++ len in
    ap page_entry_at (concat-onto (to_be_bytes w32 r.extent.first ∷ to_be_bytes w32 r.extent.blocks ∷ to_be_bytes w32 r.length ∷ r.sha256 ∷ []) rest)
    ∙ rw (
      number_4.again r.extent.first blocks lawful.first,
      number_4.again r.extent.blocks len lawful.blocks,
      number_4.again r.length sha256 lawful.len,
      piece_read 32 r.sha256 rest lawful.sha256,
    ) refl

pub ref : IsFormat page_entry_at ref_bytes IsLawfulRef
ref = record { takes = ref_takes; again = ref_again }

-- if no entry is in front, there are too few bytes for one
pub ref_none : (bytes : List ℕ) → AreBytes bytes → page_entry_at bytes ≡ None → length bytes < 44
unfolding page_entry_at
ref_none bytes fits e =
    let made : ℕ → ℕ → ℕ → List ℕ → PageRef =
    λ first blocks len sha256. record { extent = record { first = first; blocks = blocks }; length = len; sha256 = sha256 } in
    number_none 40 bytes (λ first. number_in w32 first.1 >>= λ blocks. number_in w32 blocks.1 >>= λ len. piece_at 32 len.1
    >>= λ sha256. Some (made first.0 blocks.0 len.0 sha256.0, sha256.1)) fits e
    (λ first fits₁ e₁. number_none 36 first.1 (λ blocks. number_in w32 blocks.1 >>= λ len. piece_at 32 len.1
    >>= λ sha256. Some (made first.0 blocks.0 len.0 sha256.0, sha256.1)) fits₁ e₁
    (λ blocks fits₂ e₂. number_none 32 blocks.1 (λ len. piece_at 32 len.1 >>= λ sha256. Some (made first.0 blocks.0 len.0 sha256.0, sha256.1)) fits₂ e₂
    (λ len fits₃ e₃. piece_none_of 32 len.1 (λ sha256. (made first.0 blocks.0 len.0 sha256.0, sha256.1)) e₃)))
