-- The images of the second disk while a source is copied to it.
use Rattle.std.proofs.Common.{◌≡◌, ◌⊎◌, inl, inr, ℕ, ◌+◌, ◌*◌, ◌/◌, ◌%◌, ◌<◌, ◌≤◌, true, false, nat_lt, List, take, get_or, None, sym, ◌∙◌, subst, arith, length-take}
use Rattle.std.proofs.lemmas.Bool.Decides.{nat_tests}
use Rattle.std.proofs.lemmas.List.{ext_get_or, get_or-take}
use Rattle.rs_disk.specs.Medium.{DiskState, IsMedium}
use Rattle.rs_disk.specs.Leaves.{Leaves}
use Rattle.rs_copy.proofs.FromBelow.{goes_on, goes_further, weaker, current_stays, tells_behind}
use Rattle.rs_body.specs.Outside.{Keeps, KeptFrom, WritesOutside}
use Rattle.rs_commit.specs.declared.root.Root.{Root}
use Rattle.rs_commit.specs.Slots.{current}
use Rattle.rs_commit.specs.Commit.{SameBehind}
use Rattle.rs_commit.specs.Format.{AreShut, IsAsBefore, NoneOrRoot}
use Rattle.rs_commit.specs.Laws.{ShutTellsNone, ShutStays}
use Rattle.rs_model.specs.State.{Source}
use Rattle.rs_image.specs.declared.contents.Contents.{Contents}
use Rattle.rs_image.specs.StateOfImage.{Tells}
use Rattle.rs_copy.specs.Copies.{NoneOrState}
use Rattle.rs_copy.specs.Copying.{is_slot}

is_low : (b : ℕ) → b < 2 → nat_lt b 2 ≡ true
is_low b lt = grind (arith, nat_tests)

-- blocks 0 and 1 stay if all written blocks lie after them
same_front : {X : Type 0} (old new : List X) (d : X) → ((b i : ℕ) → is_slot b ≡ true → i < 512 → get_or new (512 * b + i) d ≡ get_or old (512 * b + i) d) → (i : ℕ) → i < 1024
    → get_or new i d ≡ get_or old i d
same_front old new d same i lt =
    let place : 512 * (i / 512) + i % 512 ≡ i = omega arith in
    subst (λ k. get_or new k d ≡ get_or old k d) place (same (i / 512) (i % 512) (is_low (i / 512) (omega arith)) (omega arith))

front_kept : (old new : List ℕ) → Keeps is_slot old new → take 1024 new ≡ take 1024 old
front_kept old new keeps = ext_get_or 0 (take 1024 new) (take 1024 old)
    (omega (arith, length-take 1024 new, length-take 1024 old, keeps.size))
    (λ i lt. let below : i < 1024 = omega (arith, lt, length-take 1024 new) in
    get_or-take 1024 new i 0 below ∙ same_front old new 0 keeps.same i below ∙ sym (get_or-take 1024 old i 0 below))

pub turned : (one two : List ℕ) → SameBehind one two → SameBehind two one
turned one two same = record { size = sym same.size; bytes = sym same.bytes }

-- an image has no root, or represents the state, or is as before except for the gates
abbrev pub MayTell : Source → DiskState → List ℕ → Type 0
MayTell s old image = NoneOrState s image ⊎ IsAsBefore old.now image

-- from the third call on an image has no root, or represents the state
abbrev pub OnceShut : Source → DiskState → ℕ → List ℕ → Type 0
OnceShut s old m image = old.calls + 3 ≤ m → NoneOrState s image

-- The content of every image from `old` to `new`, if the slots were shut in between.
pub record TellsMeanwhile (s : Source) (old new : DiskState) : Type 0 where
  pub any : Leaves old new (λ _. MayTell s old)
  pub none : Leaves old new (OnceShut s old)

-- From the moment when the slots are closed no image has a root, until a root is put there.
module _ (none : ShutTellsNone) (old one two : DiskState) (is : IsMedium one.size one.now) (shut : AreShut one.now)
    (closing : Leaves old one (λ _. IsAsBefore old.now)) (calls : one.calls ≡ old.calls + 3) (writing : WritesOutside is_slot one two) where
  none_meanwhile : (image : List ℕ) → KeptFrom is_slot one.now image → current image ≡ None
  none_meanwhile image (e, left, keeps) = current_stays image e (front_kept e image keeps) ∙ none one.now one.size is shut e left

  written_on : (P : ℕ → List ℕ → Type 0) → ((m : ℕ) (image : List ℕ) → m < one.calls → IsAsBefore old.now image → P m image) → ((m : ℕ) (image : List ℕ) → current image ≡ None → P m image)
      → Leaves old two P
  written_on P early late =
      goes_further old one two (λ _. IsAsBefore old.now) P closing early
      (weaker one two (λ _. KeptFrom is_slot one.now) P (λ m image left. late m image (none_meanwhile image left)) writing.leaves)

  pub written : (s : Source) → TellsMeanwhile s old two
  written s = record {
    any = written_on (λ _. MayTell s old) (λ m image before so. inr so) (λ m image none. inl (inl none));
    none = written_on (OnceShut s old) (λ m image before so late. absurd (omega (arith, before, late, calls))) (λ m image none late. inl none);
  }

  pub shut_still : ShutStays → AreShut two.now
  shut_still stays =
      stays one.now two.now (front_kept one.now.seen two.now.seen writing.seen) (same_front one.now.unsettled two.now.unsettled false writing.marks.same) shut

-- From then on every image has no root, or represents the state that the root determines.
pub opened : {old two new : DiskState} (s : Source) (root : Root) (c : Contents) → TellsMeanwhile s old two → Leaves two new (λ _. NoneOrRoot two.now root) → Tells root c two.now.seen s
    → TellsMeanwhile s old new
opened {old} {two} {new} s root c so_far opening tells = record {
  any = goes_on old two new (λ _. MayTell s old) so_far.any (weaker two new (λ _. NoneOrRoot two.now root) (λ _. MayTell s old) (λ m image left. inl (stands image left)) opening);
  none = goes_on old two new (OnceShut s old) so_far.none (weaker two new (λ _. NoneOrRoot two.now root) (OnceShut s old) (λ m image left late. stands image left) opening);
}
  where
    stands : (image : List ℕ) → NoneOrRoot two.now root image → NoneOrState s image
    stands image (inl untold) = inl untold.0
    stands image (inr opened) =
        inr (root, opened.0, (c, tells_behind root c two.now.seen image s (turned image two.now.seen opened.1) tells))
