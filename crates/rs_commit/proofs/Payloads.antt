-- The bytes of a root, which follow a gate, and the slots as they are made.
use Rattle.std.proofs.Common.{◌≡◌, ℕ, ◌+◌, ◌-◌, ◌≤◌, List, [], ◌∷◌, ◌++◌, length, take, drop, replicate, get_or, Some, refl, sym, ◌∙◌, ap, subst, arith, length-append, append_assoc}
use Rattle.std.proofs.lemmas.List.{append-nil, take_all, take_at, drop_at, take-take, drop-take, drop-drop, get_or-take, get_or-drop, length-replicate, drop-replicate}
use Rattle.std.proofs.lemmas.Nat.{from_be_bytes-to_be_bytes_4, from_be_bytes-to_be_bytes_8}
use Rattle.std.specs.Int.{from_be_bytes, to_be_bytes, w32, w64}
use Rattle.rs_disk.specs.Medium.{over}
use Rattle.rs_commit.proofs.FromBelow.{over_torn, front_part, back_part}
use Rattle.rs_commit.specs.declared.root.Root.{Root}
use Rattle.rs_commit.specs.declared.slot.Slot.TheVariants.{First, Second}
use Rattle.rs_commit.specs.declared.slot.SlotContent.TheVariants.{Closed, Open}
use Rattle.rs_commit.specs.Slots.{block, field, gate, version, is_known, root_in, content, current, payload_of, written_version, IsLawfulRoot}
use Rattle.rs_commit.specs.Commit.{behind_slots}
use Rattle.rs_commit.specs.Format.{slot_bytes, formatted, fresh}
use Rattle.rs_commit.proofs.Contents.{opened, closed_gate, one_open}

-- A field put after the fields that are already there.
grown : (old new front bytes : List ℕ) (at : ℕ) → take at old ≡ front → length front ≡ at → at + length bytes ≤ length old → new ≡ over old at bytes → take (at + length bytes) new ≡ front ++ bytes
grown old new front bytes at stands long fits are =
    let rest : List ℕ = drop (at + length bytes) old in
    let size : length (front ++ bytes) ≡ at + length bytes = omega (arith, length-append front bytes) in
    let shape : new ≡ (front ++ bytes) ++ rest = are ∙ ap (λ (l : List ℕ). l ++ (bytes ++ rest)) stands ∙ sym (append_assoc front bytes rest) in
    ap (λ (l : List ℕ). take (at + length bytes) l) shape ∙ take_at (front ++ bytes) rest (at + length bytes) size

-- The fields of a root, put one after the other.
pub spelled : (root : Root) (b1 b2 b3 b4 b5 b6 : List ℕ) → IsLawfulRoot root → length b1 ≡ 53 → length b6 ≡ 53 → take 1 b1 ≡ root.version ∷ [] → b2 ≡ over b1 1 (to_be_bytes w64 root.generation)
    → b3 ≡ over b2 9 (to_be_bytes w32 root.directory.first) → b4 ≡ over b3 13 (to_be_bytes w32 root.directory.blocks) → b5 ≡ over b4 17 (to_be_bytes w32 root.length)
    → b6 ≡ over b5 21 root.sha256 → b6 ≡ payload_of root
unfolding payload_of
spelled root b1 b2 b3 b4 b5 b6 lawful s1 s6 t1 e2 e3 e4 e5 e6 =
    let v : List ℕ = root.version ∷ [] in
    let g : List ℕ = to_be_bytes w64 root.generation in
    let f : List ℕ = to_be_bytes w32 root.directory.first in
    let n : List ℕ = to_be_bytes w32 root.directory.blocks in
    let l : List ℕ = to_be_bytes w32 root.length in
    let s2 : length b2 ≡ 53 = ap length e2 ∙ (over_torn b1 1 g (omega arith)).size ∙ s1 in
    let s3 : length b3 ≡ 53 = ap length e3 ∙ (over_torn b2 9 f (omega arith)).size ∙ s2 in
    let s4 : length b4 ≡ 53 = ap length e4 ∙ (over_torn b3 13 n (omega arith)).size ∙ s3 in
    let s5 : length b5 ≡ 53 = ap length e5 ∙ (over_torn b4 17 l (omega arith)).size ∙ s4 in
    let t2 = grown b1 b2 v g 1 t1 refl (omega arith) e2 in
    let t3 = grown b2 b3 (v ++ g) f 9 t2 refl (omega arith) e3 in
    let t4 = grown b3 b4 ((v ++ g) ++ f) n 13 t3 refl (omega arith) e4 in
    let t5 = grown b4 b5 (((v ++ g) ++ f) ++ n) l 17 t4 refl (omega arith) e5 in
    let t6 = grown b5 b6 ((((v ++ g) ++ f) ++ n) ++ l) root.sha256 21 t5 refl (omega (arith, lawful.digest)) e6 in
    let all : 53 ≡ 21 + length root.sha256 = omega (arith, lawful.digest) in
    sym (take_all 53 b6 (omega arith)) ∙ ap (λ (k : ℕ). take k b6) all ∙ t6 ∙ ap (λ (x : List ℕ). ((((v ++ g) ++ f) ++ n) ++ l) ++ x) (sym (append-nil root.sha256))

pub length-payload : (root : Root) → IsLawfulRoot root → length (payload_of root) ≡ 53
unfolding payload_of
length-payload root lawful = omega (arith, length-append root.sha256 [], lawful.digest)

-- a part of the bytes after a gate is a part of the block
part_behind : (bytes : List ℕ) (k n m : ℕ) → n ≤ m → take n (drop k (take (k + m) (drop 1 bytes))) ≡ take n (drop (1 + k) bytes)
part_behind bytes k n m le =
    ap (λ (l : List ℕ). take n l) (drop-take k m (drop 1 bytes)) ∙ take-take n m (drop k (drop 1 bytes)) le ∙ ap (λ (l : List ℕ). take n l) (drop-drop k 1 bytes)

module _ (bytes : List ℕ) (root : Root) (stands : take 53 (drop 1 bytes) ≡ payload_of root) where
  -- a field, by its place among the bytes after the gate
  told : (k n m : ℕ) → k + m ≡ 53 → n ≤ m → field bytes (1 + k) n ≡ take n (drop k (payload_of root))
  told k n m all le = sym (part_behind bytes k n m le) ∙ ap (λ (l : ℕ). take n (drop k (take l (drop 1 bytes)))) all ∙ ap (λ (l : List ℕ). take n (drop k l)) stands

  pub version_told : version bytes ≡ root.version
  unfolding payload_of
  version_told = sym (get_or-take 53 (drop 1 bytes) 0 0 (omega arith) ∙ get_or-drop 1 bytes 0 0) ∙ ap (λ (l : List ℕ). get_or l 0 0) stands

  pub root_told : IsLawfulRoot root → root_in bytes ≡ root
  unfolding root_in payload_of
  root_told lawful =
      let g : from_be_bytes w64 (field bytes 2 8) ≡ root.generation = ap (λ (l : List ℕ). from_be_bytes w64 l) (told 1 8 52 refl (omega arith)) ∙ from_be_bytes-to_be_bytes_8 root.generation lawful.generation in
      let f : from_be_bytes w32 (field bytes 10 4) ≡ root.directory.first = ap (λ (l : List ℕ). from_be_bytes w32 l) (told 9 4 44 refl (omega arith)) ∙ from_be_bytes-to_be_bytes_4 root.directory.first lawful.first in
      let b : from_be_bytes w32 (field bytes 14 4) ≡ root.directory.blocks = ap (λ (l : List ℕ). from_be_bytes w32 l) (told 13 4 40 refl (omega arith)) ∙ from_be_bytes-to_be_bytes_4 root.directory.blocks lawful.blocks in
      let n : from_be_bytes w32 (field bytes 18 4) ≡ root.length = ap (λ (l : List ℕ). from_be_bytes w32 l) (told 17 4 36 refl (omega arith)) ∙ from_be_bytes-to_be_bytes_4 root.length lawful.bytes in
      let s : field bytes 22 32 ≡ root.sha256 = told 21 32 32 refl (omega arith) ∙ take_at root.sha256 [] 32 lawful.digest in
      λ i. record { version = version_told i; generation = g i; directory = record { first = f i; blocks = b i }; length = n i; sha256 = s i }

  -- where they follow an open gate, they hold the root
  pub tells : IsLawfulRoot root → length bytes ≡ 512 → gate bytes ≡ 1 → content bytes ≡ Open root
  tells lawful long one = opened bytes root long one (ap is_known version_told ∙ lawful.version) (root_told lawful)

-- the bytes written for a root read as this root
pub payloads_read : (root : Root) (byte : ℕ) (rest : List ℕ) → IsLawfulRoot root → root_in (byte ∷ (payload_of root ++ rest)) ≡ root
payloads_read root byte rest lawful = root_told (byte ∷ (payload_of root ++ rest)) root (take_at (payload_of root) rest 53 (length-payload root lawful)) lawful

-- the first 54 bytes of a block have its root
pub first_bytes : (bytes : List ℕ) → root_in (take 54 bytes) ≡ root_in bytes
unfolding root_in
first_bytes bytes =
    let part : (at n : ℕ) → at + n ≤ 54 → take n (drop at (take 54 bytes)) ≡ take n (drop at bytes) = λ at n le. front_part 54 at n (take 54 bytes) bytes le (take-take 54 54 bytes (omega arith)) in
    λ i. record {
      version = get_or-take 54 bytes 1 0 (omega arith) i;
      generation = from_be_bytes w64 (part 2 8 (omega arith) i);
      directory = record { first = from_be_bytes w32 (part 10 4 (omega arith) i); blocks = from_be_bytes w32 (part 14 4 (omega arith) i) };
      length = from_be_bytes w32 (part 18 4 (omega arith) i);
      sha256 = part 22 32 (omega arith) i;
    }

pub length-slot_bytes : (byte : ℕ) (payload : List ℕ) → length payload ≤ 511 → length (slot_bytes byte payload) ≡ 512
unfolding slot_bytes
length-slot_bytes byte payload fits = omega (arith, length-append payload (replicate (511 - length payload) 0), length-replicate {A = ℕ} (511 - length payload) 0)

-- zeros with a payload after the first zero are a closed slot
pub closed_made : (payload : List ℕ) → length payload ≤ 511 → over (replicate 512 0) 1 payload ≡ slot_bytes 0 payload
unfolding slot_bytes
closed_made payload fits =
    let left : 512 - (1 + length payload) ≡ 511 - length payload = omega arith in
    ap (λ (rest : List ℕ). 0 ∷ (payload ++ rest)) (drop-replicate (1 + length payload) 512 0 ∙ ap (λ (k : ℕ). replicate k 0) left)

-- a slot that was made has its gate and its payload
gate_before : (byte : ℕ) (payload : List ℕ) → gate (slot_bytes byte payload) ≡ byte
unfolding slot_bytes
gate_before byte payload = refl

pub payload_behind : (byte : ℕ) (payload : List ℕ) → length payload ≡ 53 → take 53 (drop 1 (slot_bytes byte payload)) ≡ payload
unfolding slot_bytes
payload_behind byte payload long = take_at payload (replicate (511 - length payload) 0) 53 long

-- slots that were made have the state as made, for any bytes after them
pub formatted_stands : (root : Root) (rest : List ℕ) → IsLawfulRoot root → current (formatted root ++ rest) ≡ Some (fresh root)
formatted_stands root rest lawful = one_open image First root here there
  where
    one : List ℕ
    one = slot_bytes 1 (payload_of root)

    two : List ℕ
    two = slot_bytes 0 (written_version ∷ [])

    image : List ℕ
    image = formatted root ++ rest

    long : length (payload_of root) ≡ 53
    long = length-payload root lawful

    size : length one ≡ 512
    size = length-slot_bytes 1 (payload_of root) (omega (arith, long))

    first : block image First ≡ one
    first = ap (λ (l : List ℕ). take 512 l) (append_assoc one two rest) ∙ take_at one (two ++ rest) 512 size

    second : block image Second ≡ two
    second =
        ap (λ (l : List ℕ). take 512 (drop 512 l)) (append_assoc one two rest) ∙ ap (λ (l : List ℕ). take 512 l) (drop_at one (two ++ rest) 512 size)
        ∙ take_at two rest 512 (length-slot_bytes 0 (written_version ∷ []) (omega arith))

    here : content (block image First) ≡ Open root
    here = ap content first ∙ tells one root (payload_behind 1 (payload_of root) long) lawful size (gate_before 1 (payload_of root))

    there : content (block image Second) ≡ Closed
    there = ap content second ∙ closed_gate two (gate_before 0 (written_version ∷ []))

-- Formatting writes one block, the other, and then the gate of the first.
pub made : (root : Root) (old one two three : List ℕ) → IsLawfulRoot root → 1024 ≤ length old → one ≡ over old 0 (slot_bytes 0 (payload_of root)) → two ≡ over one 512 (slot_bytes 0 (written_version ∷ []))
    → three ≡ over two 0 (1 ∷ []) → three ≡ formatted root ++ behind_slots old
unfolding slot_bytes
made root old one two three lawful room e1 e2 e3 =
    let tail : List ℕ = payload_of root ++ replicate (511 - length (payload_of root)) 0 in
    let first : List ℕ = 0 ∷ tail in
    let second : List ℕ = slot_bytes 0 (written_version ∷ []) in
    let long : length (payload_of root) ≡ 53 = length-payload root lawful in
    let size1 : length first ≡ 512 = length-slot_bytes 0 (payload_of root) (omega arith) in
    let size2 : length second ≡ 512 = length-slot_bytes 0 (written_version ∷ []) (omega arith) in
    let front : take 512 one ≡ first = ap (λ (l : List ℕ). take 512 l) e1 ∙ take_at first (drop (0 + length first) old) 512 size1 in
    let rest : drop 1024 one ≡ drop 1024 old = ap (λ (l : List ℕ). drop 1024 l) e1 ∙ back_part 512 1024 (over old 0 first) old (omega arith) (subst (λ (k : ℕ). drop (0 + k) (over old 0 first) ≡ drop (0 + k) old) size1 (over_torn old 0 first (omega arith)).after) in
    let back : drop (512 + length second) one ≡ drop 1024 old = ap (λ (k : ℕ). drop (512 + k) one) size2 ∙ rest in
    let both : two ≡ first ++ (second ++ drop 1024 old) = e2 ∙ (λ i. front i ++ (second ++ back i)) in
    e3 ∙ ap (λ (l : List ℕ). 1 ∷ drop 1 l) both ∙ sym (append_assoc (1 ∷ tail) second (drop 1024 old))
