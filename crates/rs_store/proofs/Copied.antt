-- The answer of a source to a copy, by the effect of copying its root.
use Rattle.std.proofs.Common.{true≢false, ◌≡◌, ◌⊎◌, inl, inr, ⊎_elim, ℕ, true, false, List, [], ◌∷◌, map, refl, sym, ◌∙◌, ap, arith, Result, Ok, Err}
use Rattle.std.specs.Prelude.{All}
use Rattle.std.proofs.lemmas.List.Elements.{All-nil, All-cons, All-head, All-tail}
use Rattle.rs_disk.specs.Medium.{DiskState, IsMedium}
use Rattle.rs_store.proofs.FromBelow.{reading_none, writing_none, rests, advances}
use Rattle.rs_record.specs.declared.record.Record.{Record}
use Rattle.rs_catalogue.specs.Catalogue.{records_of}
use Rattle.rs_model.specs.declared.value.Held.{Held}
use Rattle.rs_model.specs.State.{Source}
use Rattle.rs_image.specs.StateOfImage.{Tells, held_in}
use Rattle.rs_copy.specs.Copies.{Copies, HasItsBody, calls_for}
use Rattle.rs_copy.specs.declared.copying.Copied.{Copied}
use Rattle.rs_copy.specs.declared.faults.CopyFault.{CopyFault}
use Rattle.rs_copy.specs.declared.faults.CopyFault.TheVariants.{TooSmall, Full, Device, Damaged}
use Rattle.rs_store.specs.declared.copying.CopyRefusal.TheVariants.{Closed, Fault}
use Rattle.rs_store.specs.OnlyReads.{OnlyReads}
use Rattle.rs_store.specs.Shows.{HasItsDigest, calls_for_held}
use Rattle.rs_store.specs.Source.{Stored, Holds, rooted_in, state_of}
use Rattle.rs_store.specs.Copied.{AnswersCopy, IsCopying}
use Rattle.rs_store.proofs.Damaged.{calls_for_records}

-- the fault of a copy is not Closed, and is refused as itself
never_closed : (fault : CopyFault) → Fault fault ≡ Closed → ⊥
never_closed fault is = absurd cc

abbrev refusing : CopyFault → Result Copied CopyFault
refusing fault = Err fault

refused : (fault other : CopyFault) → Fault fault ≡ Fault other → refusing fault ≡ refusing other
refused fault other is = let same : fault ≡ other = cc in ap refusing same

faulted : (fault other : CopyFault) → refusing fault ≡ refusing other → Fault fault ≡ Fault other
faulted fault other is = let same : fault ≡ other = cc in ap (λ (f : CopyFault). Fault f) same

no_fault : (copied : Copied) (fault : CopyFault) → Ok copied ≡ refusing fault → ⊥
no_fault copied fault is = absurd cc

-- if all held resources have their digests, all records have their bodies
bodies_intact : (image : List ℕ) (records : List Record) → All (λ held. HasItsDigest held.1) (map (held_in image) records) → All (HasItsBody image) records
bodies_intact image [] all = All-nil (HasItsBody image)
bodies_intact image (r ∷ records) all =
    let P : List ℕ × Held → Type 0 = λ held. HasItsDigest held.1 in
    All-cons (HasItsBody image) r records
    (All-head P (held_in image r) (map (held_in image) records) all)
    (bodies_intact image records (All-tail P (held_in image r) (map (held_in image) records) all))

module _ {D E : Type 0} (device : D → DiskState) (other : E → DiskState) (old : Stored D) (to : E) where
  -- a closed source is not copied
  pub closed_uncopied : old.is_closed ≡ true → AnswersCopy device other old old to (Err (to, Closed))
  closed_uncopied shut = record {
    refuses = record {
      closed = (λ _. shut, λ _. refl);
      too_small = (λ is. absurd cc, λ is. absurd (true≢false (sym shut ∙ is.0)));
      full = λ is. absurd cc;
      untouched = λ _. refl;
      unread = λ _. refl;
      room = λ met. ⊎_elim (λ is. absurd cc) (λ is. absurd cc) met;
      failed = λ is. absurd cc;
      sound = λ _. (refl, refl);
      damaged = λ is. absurd cc;
    };
    made = tt;
    holds = λ s holds honest. tt;
    meanwhile = record {
      reads_only = record { slots = refl; contents = refl; is_closed = refl; rests = rests (device old.disk) (device old.disk) (reading_none {A = ⊥} (device old.disk) (λ none. none)) };
      once = omega arith;
      advances = advances (other to) (other to) (writing_none {A = ⊥} (other to) (λ none. none));
      stops = record {
        from = (reading_none {A = ⊥} (device old.disk) (λ none. none)).stops;
        to = (writing_none {A = ⊥} (other to) (λ none. none)).stops;
        one = λ rose. refl;
      };
      any_moment = λ s holds honest. absurd (true≢false (sym shut ∙ holds.is_open));
      settled = λ s holds honest cut. absurd (true≢false (sym shut ∙ holds.is_open));
    };
  }

  module _ (medium : (disk : D) → IsMedium (device disk).size (device disk).now) (open_still : old.is_closed ≡ false) (new : Stored D) (only : OnlyReads device old new) (disk : E) where
    tells : (s : Source) → Holds device old s → Tells old.slots.root old.contents (device old.disk).now.seen s
    tells s holds = holds.tells (device old.disk).now.seen (medium old.disk).image

    abbrev Copied_so : Result Copied CopyFault → Type 0
    Copied_so result = Copies (rooted_in device old) (record { from = device old.disk; to = other to }) (record { from = device new.disk; to = other disk }) result

    -- both disks during the copy
    copying : (result : Result Copied CopyFault) → Copied_so result → IsCopying device other old new to disk
    copying result made = record {
      reads_only = only;
      once =
          (let same : calls_for_held (state_of device old).held ≡ calls_for (records_of old.contents.catalogue) = calls_for_records (device old.disk).now.seen (records_of old.contents.catalogue) in
          omega (arith, same, made.once));
      advances = made.advances;
      stops = made.stops;
      any_moment = λ s holds honest. made.any_moment s honest (tells s holds);
      settled = λ s holds honest cut. made.settled s honest (tells s holds) cut;
    }

    -- the copy is complete
    pub copied_so : (copied : Copied) → Copied_so (Ok copied)
        → AnswersCopy device other old new to (Ok (record { disk = disk; slots = copied.slots; contents = copied.contents; is_closed = false }))
    copied_so copied made = record {
      refuses = record {
        closed = (λ none. absurd none, λ shut. absurd (true≢false (sym shut ∙ open_still)));
        too_small = (λ none. absurd none, λ is. absurd (no_fault copied TooSmall (made.too_small.1 is.1)));
        full = λ none. absurd none;
        untouched = λ none. ⊎_elim (λ one. ⊎_elim (λ a. absurd a) (λ b. absurd b) one) (λ b. absurd b) none;
        unread = λ none. ⊎_elim (λ one. ⊎_elim (λ a. absurd a) (λ b. absurd b) one) (λ b. absurd b) none;
        room = λ none. ⊎_elim (λ a. absurd a) (λ b. absurd b) none;
        failed = λ none. absurd none;
        sound = λ _. made.sound (no_fault copied Device);
        damaged = λ none. absurd none;
      };
      made = record {
        generation = made.copied.generation;
        version = made.copied.version;
        slots = made.copied.slots;
        ready = made.copied.ready;
        intact = made.copied.intact;
        lies = record { used = copied.used; lies = made.lies };
      };
      holds = λ s holds honest. record { is_open = refl; ready = made.copied.ready; tells = made.holds s honest (tells s holds) };
      meanwhile = copying (Ok copied) made;
    }

    -- it was refused
    pub refused_so : (fault : CopyFault) → Copied_so (Err fault) → (refusing fault ≡ refusing TooSmall ⊎ refusing fault ≡ refusing Full → disk ≡ to)
        → (refusing fault ≡ refusing TooSmall ⊎ refusing fault ≡ refusing Full → new ≡ old)
        → AnswersCopy device other old new to (Err (disk, Fault fault))
    refused_so fault made untouched unread = record {
      refuses = record {
        closed = (λ is. absurd (never_closed fault is), λ shut. absurd (true≢false (sym shut ∙ open_still)));
        too_small = (
          λ is. (open_still, made.too_small.0 (refused fault TooSmall is)),
          λ is. faulted fault TooSmall (made.too_small.1 is.1),
        );
        full = λ is. made.full (refused fault Full is);
        untouched = λ early. ⊎_elim
            (λ one. ⊎_elim (λ is. absurd (never_closed fault is)) (λ is. untouched (inl (refused fault TooSmall is))) one)
            (λ is. untouched (inr (refused fault Full is))) early;
        unread = λ early. ⊎_elim
            (λ one. ⊎_elim (λ is. absurd (never_closed fault is)) (λ is. unread (inl (refused fault TooSmall is))) one)
            (λ is. unread (inr (refused fault Full is))) early;
        room = λ met. made.room (⊎_elim (λ is. inl (refused fault Device is)) (λ is. inr (refused fault Damaged is)) met);
        failed = λ is. made.failed (refused fault Device is);
        sound = λ not_device. made.sound (λ is. not_device (faulted fault Device is));
        damaged = λ is honest all. made.damaged (refused fault Damaged is) honest (bodies_intact (device old.disk).now.seen (records_of old.contents.catalogue) all);
      };
      made = tt;
      holds = λ s holds honest. tt;
      meanwhile = copying (Err fault) made;
    }
