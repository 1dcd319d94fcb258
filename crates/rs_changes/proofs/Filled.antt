-- Changes, the last of which was filled.
use Rattle.std.proofs.Common.{◌≡◌, ℕ, suc, List, [], ◌∷◌, ◌++◌, length, refl, ap, ◌∙◌, arith}
use Rattle.std.specs.Prelude.{◌&&◌, nat_lt}
use Rattle.rs_fixity.specs.declared.Digests.{Digests}
use Rattle.rs_record.specs.declared.change.Change.{Change}
use Rattle.rs_page.specs.Items.{change_filled}
use Rattle.rs_model.specs.Regular.{is_rising, rises_from}
use Rattle.rs_changes.specs.History.{AreKept}
use Rattle.rs_changes.specs.Filled.{fill_end}

-- the moments rise as they did
rises_end : (digests : Digests) (t : ℕ) (changes : List Change) → rises_from t (fill_end digests changes) ≡ rises_from t changes
rises_end digests t [] = refl
rises_end digests t (x ∷ []) = refl
rises_end digests t (x ∷ y ∷ changes) = ap (λ b. nat_lt t x.moment && b) (rises_end digests x.moment (y ∷ changes))

rising_end : (digests : Digests) (changes : List Change) → is_rising (fill_end digests changes) ≡ is_rising changes
rising_end digests [] = refl
rising_end digests (x ∷ []) = refl
rising_end digests (x ∷ y ∷ changes) = rises_end digests x.moment (y ∷ changes)

length_end : (digests : Digests) (changes : List Change) → length (fill_end digests changes) ≡ length changes
length_end digests [] = refl
length_end digests (x ∷ []) = refl
length_end digests (x ∷ y ∷ changes) = ap suc (length_end digests (y ∷ changes))

pub kept-filled : (digests : Digests) (old new : List Change) → new ≡ fill_end digests old → AreKept old → AreKept new
kept-filled digests old new is kept = record {
  rising = ap is_rising is ∙ (rising_end digests old ∙ kept.rising);
  room = omega (arith, ap length is, length_end digests old, kept.room);
}

filled_behind : (digests : Digests) (before : List Change) (last : Change) → fill_end digests (before ++ last ∷ []) ≡ before ++ change_filled digests last ∷ []
filled_behind digests [] last = refl
filled_behind digests (x ∷ []) last = refl
filled_behind digests (x ∷ y ∷ before) last = ap (λ rest. x ∷ rest) (filled_behind digests (y ∷ before) last)

-- the last change was filled
pub filled_last : (digests : Digests) (old new : List Change) → new ≡ fill_end digests old → (before : List Change) (last : Change) → old ≡ before ++ last ∷ []
    → new ≡ before ++ change_filled digests last ∷ []
filled_last digests old new is before last shape = is ∙ (ap (fill_end digests) shape ∙ filled_behind digests before last)
