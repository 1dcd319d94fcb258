-- Records that are given other extents.
use Rattle.std.proofs.Common.{◌≡◌, ℕ, Bool, true, false, ◌&&◌, if◌then◌else◌, nat_eq, List, [], ◌∷◌, map, Option, Some, None, refl, sym, ◌∙◌, ap, ap₂, subst, arith}
use Rattle.std.specs.Prelude.{All, IsTrue}
use Rattle.std.specs.List.{AllZip}
use Rattle.std.specs.Ordering.{is_lt}
use Rattle.std.specs.declared.cmp.Ordering.{Ordering}
use Rattle.std.specs.declared.cmp.Ordering.TheVariants.{Less, Equal, Greater}
use Rattle.std.proofs.lemmas.Bool.{and_parts}
use Rattle.std.proofs.lemmas.Bool.Decides.{nat_tests}
use Rattle.std.proofs.lemmas.List.Elements.{All-nil, All-cons, All-head, All-tail}
use Rattle.std.proofs.lemmas.Slice.Zip.{AllZip-long}
use Rattle.rs_body.specs.Blocks.{IsSized}
use Rattle.rs_record.specs.declared.record.Record.{Record}
use Rattle.rs_model.specs.declared.value.Entry.{Entry}
use Rattle.rs_model.specs.Names.{by_bytes, by_order, value_of, is_above, is_ordered}
use Rattle.rs_model.specs.Listed.{entry_of}
use Rattle.rs_catalogue.specs.Catalogue.{AreHeld}
use Rattle.rs_catalogue.specs.Named.{named}
use Rattle.rs_image.specs.Reach.{bodies_of}
use Rattle.rs_image.specs.Whole.{IsSoundRecord}
use Rattle.rs_copy.specs.Laying.{with_extents, IsMoved, extent_beside, as_published}

-- so records are those with these extents
pub moved_is : (rs moved : List Record) → AllZip IsMoved rs moved → moved ≡ with_extents rs (bodies_of moved)
moved_is [] [] all = refl
moved_is [] (m ∷ moved) all = absurd all
moved_is (r ∷ rs) [] all = absurd all
moved_is (r ∷ rs) (m ∷ moved) all = ap₂ (λ (x : Record) (xs : List Record). x ∷ xs) all.0 (moved_is rs moved all.1)

pub published_moved : (held rs : List Record) → AllZip IsMoved rs (map (as_published held) rs)
published_moved held [] = tt
published_moved held (r ∷ rs) = (refl, published_moved held rs)

-- their names are the same
above_moved : (name : List ℕ) (rs moved : List Record) → AllZip IsMoved rs moved → is_above name (named moved) ≡ is_above name (named rs)
above_moved name [] [] all = refl
above_moved name [] (m ∷ moved) all = absurd all
above_moved name (r ∷ rs) [] all = absurd all
above_moved name (r ∷ rs) (m ∷ moved) all =
    let same : m.name ≡ r.name = ap (λ (x : Record). x.name) all.0 in
    ap₂ (λ (a b : Bool). a && b) (ap (λ (n : List ℕ). is_lt (by_bytes name n)) same)
    (ap (λ (n : List ℕ). is_above n (named moved)) same ∙ above_moved r.name rs moved all.1)

ordered_moved : (rs moved : List Record) → AllZip IsMoved rs moved → is_ordered (named moved) ≡ is_ordered (named rs)
ordered_moved [] [] all = refl
ordered_moved [] (m ∷ moved) all = absurd all
ordered_moved (r ∷ rs) [] all = absurd all
ordered_moved (r ∷ rs) (m ∷ moved) all =
    ap (λ (n : List ℕ). is_above n (named moved)) (ap (λ (x : Record). x.name) all.0) ∙ above_moved r.name rs moved all.1

pub held_moved : (rs moved : List Record) → AllZip IsMoved rs moved → AreHeld rs → AreHeld moved
held_moved rs moved all held =
    record {
      ordered = subst (λ (b : Bool). IsTrue b) (sym (ordered_moved rs moved all)) held.ordered;
      room = omega (arith, AllZip-long IsMoved rs moved all, held.room);
    }

-- their entries are the same; only the blocks differ
pub entries_moved : (rs moved : List Record) → AllZip IsMoved rs moved → map entry_of moved ≡ map entry_of rs
entries_moved [] [] all = refl
entries_moved [] (m ∷ moved) all = absurd all
entries_moved (r ∷ rs) [] all = absurd all
entries_moved (r ∷ rs) (m ∷ moved) all =
    ap₂ (λ (e : List ℕ × Entry) (es : List (List ℕ × Entry)). e ∷ es) (ap entry_of all.0) (entries_moved rs moved all.1)

-- they are sound if their extents are of their sizes
abbrev pub IsSizedRecord : Record → Type 0
IsSizedRecord r = IsSized r.extent r.length

sound_one : (low high : ℕ) (r m : Record) → IsMoved r m → IsSizedRecord m → IsSoundRecord low high r → IsSoundRecord low high m
sound_one low high r m moved sized sound =
    let moment : m.moment ≡ r.moment = ap (λ (x : Record). x.moment) moved in
    let long : m.length ≡ r.length = ap (λ (x : Record). x.length) moved in
    record {
      moment = record { after = omega (arith, moment, sound.moment.after); up_to = omega (arith, moment, sound.moment.up_to) };
      body = omega (arith, long, sound.body);
      sized = sized;
    }

pub sound_moved : (low high : ℕ) (rs moved : List Record) → AllZip IsMoved rs moved → All IsSizedRecord moved → All (IsSoundRecord low high) rs → All (IsSoundRecord low high) moved
sound_moved low high [] [] all sized sound = All-nil (IsSoundRecord low high)
sound_moved low high [] (m ∷ moved) all sized sound = absurd all
sound_moved low high (r ∷ rs) [] all sized sound = absurd all
sound_moved low high (r ∷ rs) (m ∷ moved) all sized sound =
    All-cons (IsSoundRecord low high) m moved
    (sound_one low high r m all.0 (All-head IsSizedRecord m moved sized) (All-head (IsSoundRecord low high) r rs sound))
    (sound_moved low high rs moved all.1 (All-tail IsSizedRecord m moved sized) (All-tail (IsSoundRecord low high) r rs sound))

pub sized_among : (low high : ℕ) (rs : List Record) → All (IsSoundRecord low high) rs → All IsSizedRecord rs
sized_among low high [] sound = All-nil IsSizedRecord
sized_among low high (r ∷ rs) sound =
    All-cons IsSizedRecord r rs (All-head (IsSoundRecord low high) r rs sound).sized (sized_among low high rs (All-tail (IsSoundRecord low high) r rs sound))

-- the record of a name is one of the records
by_case : {P : Type 0} (o : Ordering) (x r : Record) (rest : Option Record) → by_order o None (Some x) rest ≡ Some r → (x ≡ r → P) → (rest ≡ Some r → P) → P
by_case Less x r rest found here there = cc
by_case Equal x r rest found here there = here cc
by_case Greater x r rest found here there = there found

found_has : (P : Record → Type 0) (name : List ℕ) (rs : List Record) (r : Record) → value_of name (named rs) ≡ Some r → All P rs → P r
found_has P name [] r found all = cc
found_has P name (x ∷ rs) r found all =
    by_case {P = P r} (by_bytes name x.name) x r (value_of name (named rs)) found
    (λ same. subst P same (All-head P x rs all)) (λ there. found_has P name rs r there (All-tail P x rs all))

-- so a published record gets an extent of its size
same_number : (m n : ℕ) → nat_eq m n ≡ true → m ≡ n
same_number m n is = grind (arith, nat_tests)

sized_test : (held r : Record) (test : Bool) → (test ≡ true → held.length ≡ r.length) → IsSizedRecord held
    → IsSized (if test then held.extent else (record r { extent = extent_beside None r }).extent) r.length
sized_test held r true same sized = subst (λ (n : ℕ). IsSized held.extent n) (same refl) sized
sized_test held r false same sized = (refl, λ none. refl)

sized_beside : (found : Option Record) (r : Record) → ((held : Record) → found ≡ Some held → IsSizedRecord held) → IsSized (extent_beside found r) r.length
sized_beside None r sized = (refl, λ none. refl)
sized_beside (Some held) r sized =
    sized_test held r (nat_eq held.moment r.moment && nat_eq held.length r.length)
    (λ is. same_number held.length r.length (and_parts (nat_eq held.moment r.moment) (nat_eq held.length r.length) is).1) (sized held refl)

pub sized_published : (held rs : List Record) → All IsSizedRecord held → All IsSizedRecord (map (as_published held) rs)
sized_published held [] sized = All-nil IsSizedRecord
sized_published held (r ∷ rs) sized =
    All-cons IsSizedRecord (as_published held r) (map (as_published held) rs)
    (sized_beside (value_of r.name (named held)) r (λ h found. found_has IsSizedRecord r.name held h found sized))
    (sized_published held rs sized)
