-- The image of every choice is an image, and every image is the image of a choice.
use Rattle.std.proofs.Common.{◌≡◌, ℕ, zero, suc, ◌+◌, ◌%◌, ◌<◌, Bool, true, false, List, [], ◌∷◌, ◌++◌, length, drop, get_or, refl, sym, ◌∙◌, ap, arith, length-append, length-drop, true≢false}
use Rattle.std.proofs.lemmas.List.{drop_more}
use Rattle.std.proofs.Math.Nat.{mod-eq_of_lt}
use Rattle.rs_disk.specs.Medium.{Medium, IsImage, IsMedium, filled, image_of}
use Rattle.rs_disk.specs.Laws.{AreBytes}

length-filled : (choice : List ℕ) (k : ℕ) (bytes : List ℕ) (set : List Bool) → length set ≡ length bytes → length (filled choice k bytes set) ≡ length bytes
length-filled choice k [] [] same = refl
length-filled choice k [] (b ∷ set) same = refl
length-filled choice k (byte ∷ bytes) [] same = absurd (omega arith)
length-filled choice k (byte ∷ bytes) (true ∷ set) same = ap suc (length-filled choice (k + 1) bytes set (omega arith))
length-filled choice k (byte ∷ bytes) (false ∷ set) same = ap suc (length-filled choice k bytes set (omega arith))

-- at a place that is not unsettled it holds the settled byte
filled_settled : (choice : List ℕ) (k : ℕ) (bytes : List ℕ) (set : List Bool) (i : ℕ) → i < length bytes → length set ≡ length bytes → get_or set i false ≡ false → get_or (filled choice k bytes set) i 0 ≡ get_or bytes i 0
filled_settled choice k [] set i lt same off = absurd (omega arith)
filled_settled choice k (byte ∷ bytes) [] i lt same off = absurd (omega arith)
filled_settled choice k (byte ∷ bytes) (true ∷ set) zero lt same off = absurd (true≢false off)
filled_settled choice k (byte ∷ bytes) (true ∷ set) (suc i) lt same off = filled_settled choice (k + 1) bytes set i (omega arith) (omega arith) off
filled_settled choice k (byte ∷ bytes) (false ∷ set) zero lt same off = refl
filled_settled choice k (byte ∷ bytes) (false ∷ set) (suc i) lt same off = filled_settled choice k bytes set i (omega arith) (omega arith) off

pub image_of_image : (m : Medium) (size : ℕ) → IsMedium size m → (choice : List ℕ) → IsImage m (image_of choice m)
image_of_image m size is [] = is.image
image_of_image m size is (c ∷ choice) =
    let same : length m.unsettled ≡ length m.settled = is.unsettled ∙ sym is.settled in
    record {
      size = length-filled (c ∷ choice) 0 m.settled m.unsettled same;
      same = λ i lt off. filled_settled (c ∷ choice) 0 m.settled m.unsettled i lt same off;
    }

-- the bytes of an image at the unsettled places
chosen : List ℕ → List Bool → List ℕ
chosen (byte ∷ image) (true ∷ set) = byte ∷ chosen image set
chosen (byte ∷ image) (false ∷ set) = chosen image set
chosen image set = []

-- a byte at hand in a choice is the one that the next unsettled place holds
next_chosen : (choice : List ℕ) (k byte : ℕ) (rest : List ℕ) → drop k choice ≡ byte ∷ rest → (get_or choice (k % length choice) 0 ≡ byte) × (drop (k + 1) choice ≡ rest)
next_chosen choice k byte rest is =
    let within : k < length choice = omega (arith, length-drop k choice, ap length is) in
    let split : get_or choice k 0 ∷ drop (k + 1) choice ≡ byte ∷ rest = sym (drop_more choice k 0 within) ∙ is in
    let first : get_or choice k 0 ≡ byte = cc in
    (ap (λ (n : ℕ). get_or choice n 0) (mod-eq_of_lt within) ∙ first, cc)

-- a choice that begins with an image's bytes at the unsettled places fills them in as the image has them
filled_chosen : (choice extra : List ℕ) (k : ℕ) (image bytes : List ℕ) (set : List Bool) → length set ≡ length bytes → length image ≡ length bytes
    → ((i : ℕ) → i < length bytes → get_or set i false ≡ false → get_or image i 0 ≡ get_or bytes i 0)
    → drop k choice ≡ chosen image set ++ extra → filled choice k bytes set ≡ image
unfolding chosen
filled_chosen choice extra k [] [] [] wide long same at_hand = refl
filled_chosen choice extra k (i ∷ image) [] set wide long same at_hand = absurd (omega arith)
filled_chosen choice extra k image [] (b ∷ set) wide long same at_hand = absurd (omega arith)
filled_chosen choice extra k image (byte ∷ bytes) [] wide long same at_hand = absurd (omega arith)
filled_chosen choice extra k [] (byte ∷ bytes) set wide long same at_hand = absurd (omega arith)
filled_chosen choice extra k (i ∷ image) (byte ∷ bytes) (true ∷ set) wide long same at_hand =
    let next = next_chosen choice k i (chosen image set ++ extra) at_hand in
    let later : filled choice (k + 1) bytes set ≡ image = filled_chosen choice extra (k + 1) image bytes set (omega arith) (omega arith) (λ j lt off. same (suc j) (omega arith) off) next.1 in
    ap (λ (n : ℕ). n ∷ filled choice (k + 1) bytes set) next.0 ∙ ap (λ (l : List ℕ). i ∷ l) later
filled_chosen choice extra k (i ∷ image) (byte ∷ bytes) (false ∷ set) wide long same at_hand =
    let later : filled choice k bytes set ≡ image = filled_chosen choice extra k image bytes set (omega arith) (omega arith) (λ j lt off. same (suc j) (omega arith) off) at_hand in
    ap (λ (n : ℕ). n ∷ filled choice k bytes set) (sym (same 0 (omega arith) refl)) ∙ ap (λ (l : List ℕ). i ∷ l) later

image_of_some : (m : Medium) (choice : List ℕ) → 0 < length choice → image_of choice m ≡ filled choice 0 m.settled m.unsettled
image_of_some m [] some = absurd (omega arith)
image_of_some m (c ∷ choice) some = refl

-- the bytes of an image of bytes are bytes, and so is a 0 after them
chosen_bytes : (image : List ℕ) (set : List Bool) → AreBytes image → AreBytes (chosen image set ++ 0 ∷ [])
unfolding chosen
chosen_bytes [] set bytes zero = omega arith
chosen_bytes [] set bytes (suc i) = omega arith
chosen_bytes (byte ∷ image) [] bytes zero = omega arith
chosen_bytes (byte ∷ image) [] bytes (suc i) = omega arith
chosen_bytes (byte ∷ image) (true ∷ set) bytes zero = bytes 0
chosen_bytes (byte ∷ image) (true ∷ set) bytes (suc i) = chosen_bytes image set (λ j. bytes (suc j)) i
chosen_bytes (byte ∷ image) (false ∷ set) bytes i = chosen_bytes image set (λ j. bytes (suc j)) i

pub image_has_choice : (m : Medium) (size : ℕ) → IsMedium size m → (image : List ℕ) → IsImage m image → AreBytes image → (choice : List ℕ) × AreBytes choice × (image_of choice m ≡ image)
image_has_choice m size is image left bytes =
    let choice : List ℕ = chosen image m.unsettled ++ 0 ∷ [] in
    let same : image_of choice m ≡ image =
    image_of_some m choice (omega (arith, length-append (chosen image m.unsettled) (0 ∷ [])))
    ∙ filled_chosen choice (0 ∷ []) 0 image m.settled m.unsettled (is.unsettled ∙ sym is.settled) left.size left.same refl in
    (choice, chosen_bytes image m.unsettled bytes, same)
