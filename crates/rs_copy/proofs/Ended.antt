-- How the writing of a copy ends.
use Rattle.std.proofs.Common.{◌≡◌, ◌⊎◌, ◌≤◌, ◌<◌, ◌+◌, ℕ, true, false, IsTrue, nat_lt, List, length, map, Result, Ok, Err, sym, ◌∙◌, ap, subst, arith}
use Rattle.std.specs.Prelude.{All, IsErrOf}
use Rattle.std.specs.Result.{IsErrAnd}
use Rattle.std.proofs.lemmas.Bool.Decides.{nat_tests}
use Rattle.rs_disk.specs.Medium.{Medium, DiskState, IsImage, IsMedium, resting}
use Rattle.rs_disk.specs.Leaves.{Leaves}
use Rattle.rs_disk.specs.Runs.{CallsAtMost, MakesCalls}
use Rattle.rs_copy.proofs.FromBelow.{resting_image, is_behind, keeps_behind, tells_behind, stored_items}
use Rattle.rs_commit.specs.Commit.{SameBehind, WritesSlots}
use Rattle.rs_commit.specs.Format.{AreShut, IsAsBefore}
use Rattle.rs_commit.specs.Laws.{ShutTellsNone, ShutStays}
use Rattle.rs_commit.specs.Slots.{Standing}
use Rattle.rs_model.specs.State.{Source}
use Rattle.rs_page.specs.Items.{record_format}
use Rattle.rs_catalogue.specs.Catalogue.{records_of}
use Rattle.rs_image.specs.declared.contents.Contents.{Contents}
use Rattle.rs_image.specs.Rooted.{rooted, MemoryIsSound}
use Rattle.rs_image.specs.StateOfImage.{Tells, held_in, state_in}
use Rattle.rs_image.specs.Whole.{IsWhole}
use Rattle.rs_copy.specs.declared.faults.CopyFault.{CopyFault}
use Rattle.rs_copy.specs.declared.faults.CopyFault.TheVariants.{Device, Damaged}
use Rattle.rs_copy.specs.declared.laying_out.Layout.{Layout}
use Rattle.rs_copy.specs.Laying.{IsLaidOut, all_stored}
use Rattle.rs_copy.specs.Copies.{Disks, HasItsBody, calls_for}
use Rattle.rs_copy.specs.Copying.{CopiesOnly, CopyStands, IsBehindRoot, IsOfWriting, RunsCopying, WritesCopy, copied_root, is_slot, written_in}
use Rattle.rs_copy.proofs.Handed.{handed_err, told_on}
use Rattle.rs_copy.proofs.Laid.{bodies_among, room}
use Rattle.rs_copy.proofs.Meanwhile.{MayTell, OnceShut, TellsMeanwhile, shut_still, turned, written}
use Rattle.rs_copy.proofs.MovedBodies.{bodies_stay}
use Rattle.rs_copy.proofs.Runs.{copying_as, copying_then, copying_write}
use Rattle.rs_copy.proofs.Told.{tells_copied}
use Rattle.rs_copy.proofs.Whole.{whole_copied, sound_copied}

-- a run that ended before its first sync succeeded
pub not_yet : (old new : DiskState) (P : List ℕ → Type 0) (Q : ℕ → List ℕ → Type 0) → Leaves old new (λ _. P) → new.calls < old.calls + 3
    → Leaves old new (λ m image. old.calls + 3 ≤ m → Q m image)
not_yet old new P Q left short =
    record { later = left.later; before = left.before; each = λ m image from until at late. absurd (omega (arith, until, late, short)) }

-- The effect of a copy that ended in a fault.
pub ends_badly : {S : Type 0} {c : Contents} {l l' : Layout} {old new : Disks} (result : Result Standing CopyFault) (fault : CopyFault) → IsErrAnd result (λ y. y ≡ fault)
    → RunsCopying (IsErrOf {T = S} (Err fault) Device) old new → CallsAtMost (calls_for (records_of c.catalogue)) old.from new.from → IsOfWriting fault
    → (IsErrOf {T = S} (Err fault) Damaged → IsTrue new.from.honest → ¬ All (HasItsBody old.from.now.seen) (records_of c.catalogue))
    → ((s : Source) → IsTrue new.from.honest → state_in old.from.now.seen c ≡ s → Leaves old.to new.to (λ _. MayTell s old.to))
    → ((s : Source) → IsTrue new.from.honest → state_in old.from.now.seen c ≡ s → (old.to.calls + 3 < new.to.calls) ⊎ (new.to.faults ≡ old.to.faults)
    → Leaves old.to new.to (OnceShut s old.to))
    → WritesCopy c l l' old new result
ends_badly (Ok x) fault handed runs once of damaged any settled = absurd handed
ends_badly {S} (Err y) fault handed runs once of damaged any settled =
    record {
      runs = copying_as (told_on {S = S} (Err y) fault Device handed) (handed_err {S = S} (Err y) fault Device handed) runs;
      once = once;
      others = subst IsOfWriting (sym handed) of;
      damaged = λ is. damaged (handed_err {S = S} (Err y) fault Damaged handed is);
      slots = tt;
      ready = tt;
      layout = tt;
      sound = tt;
      intact = tt;
      holds = λ s honest state. tt;
      any_moment = any;
      settled = settled;
    }

-- The content of the second disk after the slots.
module _ (c : Contents) (l : Layout) (size size' : ℕ) (laid : IsLaidOut size c l.contents l.directory l.used) (behind : IsBehindRoot size' c)
    (seen : List ℕ) (long : length seen ≡ size) (stands : CopyStands l.contents l.directory seen) where
  whole_here : IsWhole (length seen) (copied_root l.directory (all_stored l.contents)) (all_stored l.contents)
  whole_here =
      subst (λ (n : ℕ). IsWhole n (copied_root l.directory (all_stored l.contents)) (all_stored l.contents)) (sym long)
      (whole_copied size c l.contents l.directory l.used laid size' behind.root behind.whole stands.listed.long)

  -- once the root is in the first slot, it determines the copied state in every image
  pub told_there : (s : Source) (m : Medium) (new image : List ℕ) → Tells (copied_root l.directory (all_stored l.contents)) (all_stored l.contents) seen s
      → m ≡ resting new → SameBehind m.seen seen → IsImage m image → Tells (copied_root l.directory (all_stored l.contents)) (all_stored l.contents) image s
  told_there s m new image tells made same at =
      let there : image ≡ new = resting_image new image (subst (λ (x : Medium). IsImage x image) made at) in
      let is : image ≡ m.seen = there ∙ sym (ap (λ (x : Medium). x.seen) made) in
      subst (λ (l' : List ℕ). Tells (copied_root l.directory (all_stored l.contents)) (all_stored l.contents) l' s) (sym is)
      (tells_behind (copied_root l.directory (all_stored l.contents)) (all_stored l.contents) seen m.seen s (turned m.seen seen same) tells)

  -- every body has its SHA-256 there
  pub intact_there : (new : List ℕ) → SameBehind new seen → All (HasItsBody seen) (records_of l.contents.catalogue) → All (HasItsBody new) (records_of (all_stored l.contents).catalogue)
  intact_there new same intact =
      let has = room size c l.contents l.directory l.used laid in
      subst (All (HasItsBody new)) (sym (stored_items record_format l.contents.catalogue))
      ((bodies_stay is_behind size (records_of l.contents.catalogue) seen new has.bodies
      (λ b is. high b (has.behind b (bodies_among l.contents l.directory b is))) (keeps_behind seen new (turned new seen same))).1 intact)
    where
      high : (b : ℕ) → nat_lt b 2 ≡ false → is_behind b ≡ true
      high b is = grind (arith, nat_tests)

  pub sound_here : 1024 ≤ size → (n : ℕ) → n ≡ size
      → MemoryIsSound (rooted n (copied_root l.directory (all_stored l.contents)) (all_stored l.contents)) l.used
  sound_here room n is =
      subst (λ (k : ℕ). MemoryIsSound (rooted k (copied_root l.directory (all_stored l.contents)) (all_stored l.contents)) l.used) (sym is)
      (sound_copied size c l.contents l.directory l.used laid size' behind.root behind.whole room stands.listed.long stands.listed.listable)

-- The facts about a copy once everything except its root is written.
pub record Reached (c : Contents) (l : Layout) (old new : Disks) : Type 0 where
  pub runs : RunsCopying ⊥ old new
  pub long : length new.to.now.seen ≡ old.to.size
  pub shut : AreShut new.to.now
  pub meanwhile : (s : Source) → TellsMeanwhile s old.to new.to
  pub told : (s : Source) → IsTrue new.from.honest → state_in old.from.now.seen c ≡ s → Tells (copied_root l.directory (all_stored l.contents)) (all_stored l.contents) new.to.now.seen s

pub reached : {A B : Type 0} {before after old one two : DiskState} (c : Contents) (l : Layout) → ShutTellsNone → ShutStays → IsMedium one.size one.now → IsMedium two.size two.now
    → IsLaidOut old.size c l.contents l.directory l.used → IsBehindRoot before.size c → ¬ A → ¬ B → WritesSlots A old one → MakesCalls 3 A old one
    → Leaves old one (λ _. IsAsBefore old.now) → AreShut one.now
    → CopiesOnly (written_in l.contents l.directory) B (record { from = before; to = one }) (record { from = after; to = two }) → CopyStands l.contents l.directory two.now.seen
    → (IsTrue after.honest → map (held_in two.now.seen) (records_of l.contents.catalogue) ≡ map (held_in before.now.seen) (records_of c.catalogue))
    → Reached c l (record { from = before; to = old }) (record { from = after; to = two })
reached {before = before} {old = old} {one = one} {two = two} c l none stays is_one is_two laid behind well well_too closed calls gates shut copies stands copied =
    let outside = copies.outside is_slot (room old.size c l.contents l.directory l.used laid).behind in
    let long : length two.now.seen ≡ old.size = omega (arith, is_two.image.size, is_two.settled, copies.runs.advances.size, closed.writes.runs.size) in
    record {
      runs = copying_as (λ is. absurd (well_too is)) (λ none. absurd none) (copying_then well (copying_write before old one closed.writes) copies.runs);
      long = long;
      shut = shut_still none old one two is_one shut gates (calls.all well) outside stays;
      meanwhile = written none old one two is_one shut gates (calls.all well) outside;
      told = λ s honest state.
          tells_copied old.size c l.contents l.directory l.used laid before.now.seen two.now.seen s (whole_here c l old.size before.size laid behind two.now.seen long stands) stands (copied honest) state;
    }
