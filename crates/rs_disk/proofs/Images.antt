-- Images of a disk's content within a write and after it, and the bytes outside and within a written range.
use Rattle.std.proofs.Common.{rules, true≢false, ◌≡◌, ◌⊎◌, inl, inr, ℕ, zero, suc, ◌+◌, ◌-◌, ◌<◌, ◌≤◌, Bool, true, false, List, [], ◌∷◌, ◌++◌, length, take, drop, replicate, get_or, refl, sym, ◌∙◌, ap, subst, arith, length-append, length-take, length-drop}
use Rattle.std.proofs.lemmas.List.{length-replicate, places, take-take, drop-take, get_or_at, ext_get_or, get_or_append_left, get_or-append_right, get_or-take, get_or-drop, length-take-le, take_at, drop_at, drop-drop, append_assoc, take-append-drop}
use Rattle.std.proofs.lemmas.Bool.{cases_lt}
use Rattle.rs_disk.specs.Medium.{Medium, IsImage, IsMedium, over, marked, widened, partly_written, written, resting}
use Rattle.rs_disk.specs.Leaves.{Torn, TornFrom}

-- Where all places are settled, no place is unsettled.
pub resting_off : (bytes : List ℕ) (i : ℕ) → get_or (resting bytes).unsettled i false ≡ false
resting_off bytes i = none i (length bytes)
  where
    none : (i n : ℕ) → get_or (replicate n false) i false ≡ false
    none i zero = refl
    none zero (suc n) = refl
    none (suc i) (suc n) = none i n

-- Where all places are settled, the bytes that a read returns are the one image.
pub resting_image : (bytes image : List ℕ) → IsImage (resting bytes) image → image ≡ bytes
resting_image bytes image is = ext_get_or 0 image bytes is.size (λ i lt. is.same i (omega (arith, is.size, lt)) (resting_off bytes i))

pub resting_medium : (size : ℕ) (bytes : List ℕ) → length bytes ≡ size → IsMedium size (resting bytes)
resting_medium size bytes long = record { settled = long; unsettled = length-replicate (length bytes) false ∙ long; image = record { size = refl; same = λ i lt off. refl } }

-- A set of places keeps those outside a range that is marked.
marked_below : (set : List Bool) (at n i : ℕ) → at ≤ length set → i < at → get_or (marked set at n) i false ≡ get_or set i false
marked_below set at n i le lt = search (rules, places)

marked_above : (set : List Bool) (at n i : ℕ) → at + n ≤ length set → at + n ≤ i → get_or (marked set at n) i false ≡ get_or set i false
marked_above set at n i le lt = search (rules, places)

pub length-marked : (set : List Bool) (at n : ℕ) → at + n ≤ length set → length (marked set at n) ≡ length set
length-marked set at n fits =
    omega (arith, length-append (take at set) (replicate n true ++ drop (at + n) set), length-append (replicate n true) (drop (at + n) set), length-take at set, length-drop (at + n) set, length-replicate n true)

-- A place that is not marked after a write lies outside its range, and was not marked.
pub unmarked : (set : List Bool) (at n i : ℕ) → at + n ≤ length set → get_or (marked set at n) i false ≡ false → ((i < at) ⊎ (at + n ≤ i)) × (get_or set i false ≡ false)
unmarked set at n i fits off = elim (cases_lt i at) [
  | inl below ↦ (inl below, sym (marked_below set at n i (omega arith) below) ∙ off)
  | inr le ↦ elim (cases_lt i (at + n)) [
    | inl within ↦ absurd (true≢false (sym (marked_within i le within) ∙ off))
    | inr above ↦ (inr above, sym (marked_above set at n i fits above) ∙ off)
  ]
]
  where
    marked_within : (i : ℕ) → at ≤ i → i < at + n → get_or (marked set at n) i false ≡ true
    marked_within i le within = search (rules, places)

length-over : (old : List ℕ) (at : ℕ) (bytes : List ℕ) → at + length bytes ≤ length old → length (over old at bytes) ≡ length old
length-over old at bytes fits =
    omega (arith, length-append (take at old) (bytes ++ drop (at + length bytes) old), length-append bytes (drop (at + length bytes) old), length-take at old, length-drop (at + length bytes) old)

-- A write tears its range.
pub over_torn : (old : List ℕ) (at : ℕ) (bytes : List ℕ) → at + length bytes ≤ length old → Torn at (length bytes) old (over old at bytes)
over_torn old at bytes fits =
    let front : length (take at old) ≡ at = length-take-le at old (omega arith) in
    record {
      size = length-over old at bytes fits;
      before = take_at (take at old) (bytes ++ drop (at + length bytes) old) at front;
      after = sym (drop-drop (length bytes) at (over old at bytes))
          ∙ ap (λ (l : List ℕ). drop (length bytes) l) (drop_at (take at old) (bytes ++ drop (at + length bytes) old) at front)
          ∙ drop_at bytes (drop (at + length bytes) old) (length bytes) refl;
    }

-- A read of a written range returns the written bytes.
pub over_part : (old : List ℕ) (at : ℕ) (bytes : List ℕ) → at ≤ length old → take (length bytes) (drop at (over old at bytes)) ≡ bytes
over_part old at bytes le =
    ap (λ (l : List ℕ). take (length bytes) l) (drop_at (take at old) (bytes ++ drop (at + length bytes) old) at (length-take-le at old le)) ∙ take_at bytes (drop (at + length bytes) old) (length bytes) refl

pub over_byte : (old : List ℕ) (at byte : ℕ) → at ≤ length old → get_or (over old at (byte ∷ [])) at 0 ≡ byte
over_byte old at byte le = get_or_at (take at old) byte (drop (at + 1) old) 0 at (length-take-le at old le)

-- A write of bytes followed by the bytes already there is a write of the first bytes alone.
pub over_front : (old : List ℕ) (at k : ℕ) (bytes : List ℕ) → at + (length bytes + k) ≤ length old → over old at (bytes ++ take k (drop (at + length bytes) old)) ≡ over old at bytes
over_front old at k bytes fits =
    let rest : List ℕ = drop (at + length bytes) old in
    let long : length (bytes ++ take k rest) ≡ length bytes + k = omega (arith, length-append bytes (take k rest), length-take k rest, length-drop (at + length bytes) old) in
    let tail : drop (at + length (bytes ++ take k rest)) old ≡ drop k rest =
    ap (λ (n : ℕ). drop n old) (let n : at + length (bytes ++ take k rest) ≡ (at + length bytes) + k = omega arith in n) ∙ sym (drop-drop k (at + length bytes) old) in
    ap (λ (l : List ℕ). take at old ++ ((bytes ++ take k rest) ++ l)) tail
    ∙ ap (λ (l : List ℕ). take at old ++ l) (append_assoc bytes (take k rest) (drop k rest) ∙ ap (λ (l : List ℕ). bytes ++ l) (take-append-drop k rest))

take_front : (k n : ℕ) (one two : List ℕ) → k ≤ n → take n one ≡ take n two → take k one ≡ take k two
take_front k n one two le same = sym (take-take k n one le) ∙ ap (λ (l : List ℕ). take k l) same ∙ take-take k n two le

-- Lists with one front have one part within it, and one byte.
pub front_part : (n off len : ℕ) (one two : List ℕ) → off + len ≤ n → take n one ≡ take n two → take len (drop off one) ≡ take len (drop off two)
front_part n off len one two le same =
    sym (drop-take off len one) ∙ ap (λ (l : List ℕ). drop off l) (take_front (off + len) n one two le same) ∙ drop-take off len two

pub front_byte : (n i : ℕ) (one two : List ℕ) → i < n → take n one ≡ take n two → get_or one i 0 ≡ get_or two i 0
front_byte n i one two lt same = sym (get_or-take n one i 0 lt) ∙ ap (λ (l : List ℕ). get_or l i 0) same ∙ get_or-take n two i 0 lt

-- Lists with one back have one back from every later place on.
pub back_part : (n off : ℕ) (one two : List ℕ) → n ≤ off → drop n one ≡ drop n two → drop off one ≡ drop off two
back_part n off one two le same =
    let at : n + (off - n) ≡ off = omega arith in
    let moved : drop (n + (off - n)) one ≡ drop (n + (off - n)) two = sym (drop-drop (off - n) n one) ∙ ap (λ (l : List ℕ). drop (off - n) l) same ∙ drop-drop (off - n) n two in
    subst (λ (k : ℕ). drop k one ≡ drop k two) at moved

-- A list that is torn in a range has its bytes as they were outside it.
pub torn_below : (at n : ℕ) (old new : List ℕ) → Torn at n old new → (i : ℕ) → i < at → get_or new i 0 ≡ get_or old i 0
torn_below at n old new torn i lt = front_byte at i new old lt torn.before

pub torn_above : (at n : ℕ) (old new : List ℕ) → Torn at n old new → (i : ℕ) → at + n ≤ i → get_or new i 0 ≡ get_or old i 0
torn_above at n old new torn i le =
    let here : at + n + (i - (at + n)) ≡ i = omega arith in
    let one : get_or new (at + n + (i - (at + n))) 0 ≡ get_or old (at + n + (i - (at + n))) 0 =
    sym (get_or-drop (at + n) new (i - (at + n)) 0) ∙ ap (λ (l : List ℕ). get_or l (i - (at + n)) 0) torn.after ∙ get_or-drop (at + n) old (i - (at + n)) 0 in
    subst (λ (k : ℕ). get_or new k 0 ≡ get_or old k 0) here one

pub torn_byte : (at n off : ℕ) (old new : List ℕ) → Torn at n old new → (off + 1 ≤ at) ⊎ (at + n ≤ off) → get_or new off 0 ≡ get_or old off 0
torn_byte at n off old new torn (inl le) = torn_below at n old new torn off (omega arith)
torn_byte at n off old new torn (inr le) = torn_above at n old new torn off le

pub torn_part : (at n off len : ℕ) (old new : List ℕ) → Torn at n old new → (off + len ≤ at) ⊎ (at + n ≤ off) → take len (drop off new) ≡ take len (drop off old)
torn_part at n off len old new torn (inl le) = front_part at off len new old le torn.before
torn_part at n off len old new torn (inr le) = ap (λ (l : List ℕ). take len l) (back_part (at + n) off new old le torn.after)

-- A list that is torn in a range is torn in every longer range from the same place.
pub torn_wider : (at k n : ℕ) (old new : List ℕ) → k ≤ n → Torn at k old new → Torn at n old new
torn_wider at k n old new le torn = record { size = torn.size; before = torn.before; after = back_part (at + k) (at + n) new old (omega arith) torn.after }

-- An image within a write is an image from before it, torn in the range.
module _ (m : Medium) (size at n : ℕ) (is : IsMedium size m) (fits : at + n ≤ size) (image : List ℕ) (left : IsImage (widened m at n) image) where
  range : List ℕ
  range = take n (drop at m.settled)

  before : List ℕ
  before = over image at range

  length-range : length range ≡ n
  unfolding range
  length-range = length-take-le n (drop at m.settled) (omega (arith, length-drop at m.settled, is.settled))

  long : at + length range ≤ length image
  long = omega (arith, length-range, left.size, is.settled)

  torn : Torn at n before image
  unfolding before
  torn =
      let t = over_torn image at range long in
      record { size = sym t.size; before = sym t.before; after = sym (subst (λ (k : ℕ). drop (at + k) (over image at range) ≡ drop (at + k) image) length-range t.after) }

  -- at every place of the range the settled byte, elsewhere the image's
  before_at : (i : ℕ) → i < length m.settled → get_or m.unsettled i false ≡ false → get_or before i 0 ≡ get_or m.settled i 0
  unfolding before range
  before_at i lt off = elim (cases_lt i at) [
    | inl below ↦ sym (torn_below at n before image torn i below) ∙ left.same i lt (marked_below m.unsettled at n i (omega (arith, is.unsettled)) below ∙ off)
    | inr le ↦ elim (cases_lt i (at + n)) [
      | inl within ↦ here le within
      | inr above ↦ sym (torn_above at n before image torn i above) ∙ left.same i lt (marked_above m.unsettled at n i (omega (arith, is.unsettled)) above ∙ off)
    ]
  ]
    where
      here : at ≤ i → i < at + n → get_or (over image at range) i 0 ≡ get_or m.settled i 0
      here le within =
          let front : length (take at image) ≡ at = length-take-le at image (omega (arith, long)) in
          let same : at + (i - at) ≡ i = omega arith in
          get_or-append_right (take at image) (range ++ drop (at + length range) image) at i 0 front le
          ∙ get_or_append_left range (drop (at + length range) image) 0 (i - at) (omega (arith, length-range))
          ∙ get_or-take n (drop at m.settled) (i - at) 0 (omega arith)
          ∙ get_or-drop at m.settled (i - at) 0
          ∙ ap (λ (k : ℕ). get_or m.settled k 0) same

  pub torn_from : TornFrom m at n image
  torn_from = (before, record { size = sym torn.size ∙ left.size; same = before_at }, torn)

-- An image from before a write, with any bytes in its range, is an image within the write.
pub image_torn : (m : Medium) (size at n : ℕ) → IsMedium size m → at + n ≤ size → (image : List ℕ) → TornFrom m at n image → IsImage (widened m at n) image
image_torn m size at n is fits image (old, left, torn) =
    record { size = torn.size ∙ left.size; same = λ i lt off. here i lt (unmarked m.unsettled at n i (omega (arith, is.unsettled)) off) }
  where
    here : (i : ℕ) → i < length m.settled → ((i < at) ⊎ (at + n ≤ i)) × (get_or m.unsettled i false ≡ false) → get_or image i 0 ≡ get_or m.settled i 0
    here i lt (inl below, off) = torn_below at n old image torn i below ∙ left.same i lt off
    here i lt (inr above, off) = torn_above at n old image torn i above ∙ left.same i lt off

-- An image from before a write is one within it.
pub image_widened : (m : Medium) (size at n : ℕ) → IsMedium size m → at + n ≤ size → (image : List ℕ) → IsImage m image → IsImage (widened m at n) image
image_widened m size at n is fits image left = image_torn m size at n is fits image (image, left, record { size = refl; before = refl; after = refl })

-- The images after a write are those within it.
pub written_image : (m : Medium) (at : ℕ) (bytes image : List ℕ) → IsImage (written m at bytes) image → IsImage (widened m at (length bytes)) image
written_image m at bytes image left = record { size = left.size; same = left.same }

-- The bytes that a read returns after a write are an image, and all parts keep their size.
pub partly_written_medium : (size : ℕ) (m : Medium) (at n : ℕ) (bytes : List ℕ) → IsMedium size m → at + n ≤ size → length bytes ≤ n → IsMedium size (partly_written m at n bytes)
partly_written_medium size m at n bytes is fits front =
    let torn : Torn at n m.seen (over m.seen at bytes) = torn_wider at (length bytes) n m.seen (over m.seen at bytes) front (over_torn m.seen at bytes (omega (arith, is.settled, is.image.size))) in
    let image : IsImage (widened m at n) (over m.seen at bytes) = image_torn m size at n is fits (over m.seen at bytes) (m.seen, is.image, torn) in
    record {
      settled = is.settled;
      unsettled = length-marked m.unsettled at n (omega (arith, is.unsettled)) ∙ is.unsettled;
      image = record { size = image.size; same = image.same };
    }

pub written_medium : (size : ℕ) (m : Medium) (at : ℕ) (bytes : List ℕ) → IsMedium size m → at + length bytes ≤ size → IsMedium size (written m at bytes)
written_medium size m at bytes is fits = partly_written_medium size m at (length bytes) bytes is fits (omega arith)

-- Where a front is settled, every image has it.
pub settled_front : (m : Medium) (size k : ℕ) → IsMedium size m → k ≤ size → ((i : ℕ) → i < k → get_or m.unsettled i false ≡ false) → (image : List ℕ) → IsImage m image → take k image ≡ take k m.seen
settled_front m size k is le settled image left =
    ext_get_or 0 (take k image) (take k m.seen)
    (omega (arith, length-take k image, length-take k m.seen, left.size, is.image.size))
    (λ i lt. let below : i < k = omega (arith, lt, length-take k image) in here i below)
  where
    here : (i : ℕ) → i < k → get_or (take k image) i 0 ≡ get_or (take k m.seen) i 0
    here i lt =
        let fits : i < length m.settled = omega (arith, is.settled) in
        get_or-take k image i 0 lt ∙ left.same i fits (settled i lt) ∙ sym (is.image.same i fits (settled i lt)) ∙ sym (get_or-take k m.seen i 0 lt)
