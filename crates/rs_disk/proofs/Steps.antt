-- The images that a run of device calls leaves at a crash within it.
use Rattle.std.proofs.Common.{◌≡◌, inl, inr, ⊎_elim, ℕ, ◌+◌, ◌<◌, ◌≤◌, ◌^◌, List, length, sym, ap, subst, arith, Result, Ok, Err, OnOk, OnErr}
use Rattle.std.proofs.lemmas.Bool.{cases_lt}
use Rattle.rs_disk.specs.Medium.{Medium, DiskState, IsImage, IsMedium, widened, written}
use Rattle.rs_disk.specs.Calls.{CountsCall, Passes, Stays, Writes, Tears, Settles}
use Rattle.rs_disk.specs.Leaves.{Leaves, TornFrom}
use Rattle.rs_disk.proofs.Images.{torn_from, written_image, image_widened, resting_image}

-- before the first call
pub started : (old : DiskState) (P : ℕ → List ℕ → Type 0) → ((image : List ℕ) → IsImage old.now image → P old.calls image) → Leaves old old P
started old P here = record {
  later = omega arith;
  before = λ m image lt left. left;
  each = λ m image ge le left. let at : old.calls ≡ m = omega arith in subst (λ (k : ℕ). P k image) at (here image (left.now ge));
}

-- one run after another
pub goes_on : (old mid new : DiskState) (P : ℕ → List ℕ → Type 0) → Leaves old mid P → Leaves mid new P → Leaves old new P
goes_on old mid new P first then = record {
  later = omega (arith, first.later, then.later);
  before = λ m image lt left. first.before m image lt (then.before m image (omega (arith, first.later)) left);
  each = λ m image ge le left. elim (cases_lt m mid.calls) [
    | inl early ↦ let up : m ≤ mid.calls = omega arith in first.each m image ge up (then.before m image early left)
    | inr late ↦ then.each m image late le left
  ];
}

pub weaker : (old new : DiskState) (P Q : ℕ → List ℕ → Type 0) → ((m : ℕ) (image : List ℕ) → P m image → Q m image) → Leaves old new P → Leaves old new Q
weaker old new P Q from so_far = record {
  later = so_far.later;
  before = so_far.before;
  each = λ m image ge le left. from m image (so_far.each m image ge le left);
}

-- one call
pub one_call : (old new : DiskState) (P : ℕ → List ℕ → Type 0) (held : Medium) → Passes old new held → old.calls ≤ new.calls → new.calls ≤ old.calls + 1
    → ((image : List ℕ) → IsImage held image → P old.calls image) → ((image : List ℕ) → IsImage new.now image → P new.calls image) → Leaves old new P
one_call old new P held passes later next within after = record {
  later = later;
  before = λ m image lt left. record {
    past = λ _. subst (λ (k : Medium). IsImage k image) (passes.past m lt) (left.past (omega (arith, lt, later)));
    now = λ ge. absurd (omega (arith, ge, lt));
  };
  each = λ m image ge le left. elim (cases_lt m new.calls) [
    | inl early ↦
        let at : old.calls ≡ m = omega (arith, ge, le, early, next) in
        let moved : old.calls < new.calls = omega (arith, at, early) in
        let here : IsImage (new.within old.calls) image = subst (λ (k : ℕ). IsImage (new.within k) image) (sym at) (left.past early) in
        subst (λ (k : ℕ). P k image) at (within image (subst (λ (k : Medium). IsImage k image) (passes.this moved) here))
    | inr late ↦
        let at : new.calls ≡ m = omega (arith, late, le) in
        subst (λ (k : ℕ). P k image) at (after image (left.now late))
  ];
}

pub counts_calls : {T E : Type 0} (old new : DiskState) (result : Result T E) → CountsCall old new result → (old.calls ≤ new.calls) × (new.calls ≤ old.calls + 1)
counts_calls old new result counts = elim (cases_lt (old.calls + 1) (2 ^ 64)) [
  | inl more ↦ let one : new.calls ≡ old.calls + 1 = counts.calls more in (omega (arith, one), omega (arith, one))
  | inr last ↦ let none : new.calls ≡ old.calls = ap (λ (d : DiskState). d.calls) (counts.spent last).0 in (omega (arith, none), omega (arith, none))
]

within_write : (old : DiskState) (at n : ℕ) → IsMedium old.size old.now → at + n ≤ old.size → (image : List ℕ) → IsImage (widened old.now at n) image → TornFrom old.now at n image
within_write old at n is fits image left = torn_from old.now old.size at n is fits image left

beside_write : (old : DiskState) (at n : ℕ) → IsMedium old.size old.now → at + n ≤ old.size → (image : List ℕ) → IsImage old.now image → TornFrom old.now at n image
beside_write old at n is fits image left = within_write old at n is fits image (image_widened old.now old.size at n is fits image left)

after_write : (old : DiskState) (at n : ℕ) (any : List ℕ) → length any ≡ n → IsMedium old.size old.now → at + n ≤ old.size → (now : Medium) → now ≡ written old.now at any → (image : List ℕ) → IsImage now image → TornFrom old.now at n image
after_write old at n any same is fits now are image left =
    let at_once : IsImage (widened old.now at (length any)) image = written_image old.now at any image (subst (λ (m : Medium). IsImage m image) are left) in
    within_write old at n is fits image (subst (λ (k : ℕ). IsImage (widened old.now at k) image) same at_once)

failed_write : (old new : DiskState) (at n : ℕ) → IsMedium old.size old.now → at + n ≤ old.size → (old.calls ≤ new.calls) × (new.calls ≤ old.calls + 1) → Tears at n old new → Leaves old new (λ _. TornFrom old.now at n)
failed_write old new at n is fits calls (inl (any, same, wrote)) =
    one_call old new (λ _. TornFrom old.now at n) (widened old.now at (length any)) wrote.passes calls.0 calls.1
    (λ image left. within_write old at n is fits image (subst (λ (k : ℕ). IsImage (widened old.now at k) image) same left))
    (after_write old at n any same is fits new.now wrote.now)
failed_write old new at n is fits calls (inr refused) =
    let after : (image : List ℕ) → IsImage new.now image → TornFrom old.now at n image = λ image left. beside_write old at n is fits image (subst (λ (m : Medium). IsImage m image) refused.now left) in
    ⊎_elim
    (λ passes. one_call old new (λ _. TornFrom old.now at n) old.now passes calls.0 calls.1 (beside_write old at n is fits) after)
    (λ passes. one_call old new (λ _. TornFrom old.now at n) (widened old.now at n) passes calls.0 calls.1 (within_write old at n is fits) after)
    refused.passes

-- a write, whether it succeeded or not
pub write_leaves : {E : Type 0} (old new : DiskState) (at : ℕ) (bytes : List ℕ) (result : Result (Unit {0}) E) → CountsCall old new result → IsMedium old.size old.now → at + length bytes ≤ old.size
    → OnOk result (Writes at bytes old new) → OnErr result (Tears at (length bytes) old new) → Leaves old new (λ _. TornFrom old.now at (length bytes))
write_leaves old new at bytes (Ok x) counts is fits ok err =
    let calls = counts_calls old new (Ok x) counts in
    one_call old new (λ _. TornFrom old.now at (length bytes)) (widened old.now at (length bytes)) ok.passes calls.0 calls.1
    (λ image left. torn_from old.now old.size at (length bytes) is fits image left)
    (λ image left. torn_from old.now old.size at (length bytes) is fits image (written_image old.now at bytes image (subst (λ (m : Medium). IsImage m image) ok.now left)))
write_leaves old new at bytes (Err e) counts is fits ok err = failed_write old new at (length bytes) is fits (counts_calls old new (Err e) counts) err

-- a sync, whether it succeeded or not
pub sync_leaves : {E : Type 0} (old new : DiskState) (P : List ℕ → Type 0) (result : Result (Unit {0}) E) → CountsCall old new result → IsMedium old.size old.now
    → OnOk result (Settles old new) → OnErr result (Stays old new) → ((image : List ℕ) → IsImage old.now image → P image) → Leaves old new (λ _. P)
sync_leaves old new P (Ok x) counts is ok err here =
    let calls = counts_calls old new (Ok x) counts in
    one_call old new (λ _. P) old.now ok.passes calls.0 calls.1 here
    (λ image left. subst P (sym (resting_image old.now.seen image (subst (λ (m : Medium). IsImage m image) ok.now left))) (here old.now.seen is.image))
sync_leaves old new P (Err e) counts is ok err here =
    let calls = counts_calls old new (Err e) counts in
    one_call old new (λ _. P) old.now err.passes calls.0 calls.1 here (λ image left. here image (subst (λ (m : Medium). IsImage m image) err.now left))

-- the images of the content of the disk at the exit
pub exit_images : (old new : DiskState) (P : ℕ → List ℕ → Type 0) → Leaves old new P → (image : List ℕ) → IsImage new.now image → P new.calls image
exit_images old new P so_far image is =
    so_far.each new.calls image so_far.later (omega arith) (record { past = λ lt. absurd (omega (arith, lt)); now = λ _. is })

-- two runs in turn, where the claim on the first changes with the second
pub goes_further : (old mid new : DiskState) (P Q : ℕ → List ℕ → Type 0) → Leaves old mid P → ((m : ℕ) (image : List ℕ) → m < mid.calls → P m image → Q m image) → Leaves mid new Q → Leaves old new Q
goes_further old mid new P Q first from behind = record {
  later = omega (arith, first.later, behind.later);
  before = λ m image lt left. first.before m image lt (behind.before m image (omega (arith, first.later)) left);
  each = λ m image ge le left. elim (cases_lt m mid.calls) [
    | inl early ↦ let up : m ≤ mid.calls = omega arith in from m image early (first.each m image ge up (behind.before m image early left))
    | inr late ↦ behind.each m image late le left
  ];
}

-- an image that is the same, in some sense, as an image at the entry of a run
abbrev pub AsAtEntry : (List ℕ → List ℕ → Type 0) → Medium → List ℕ → Type 0
AsAtEntry Same entry image = (e : List ℕ) × IsImage entry e × Same e image

-- Images that are the same in one sense are the same in a weaker sense.
pub same_weaker : (Same More : List ℕ → List ℕ → Type 0) → ((e image : List ℕ) → More e image → Same e image) → {old new : DiskState} → Leaves old new (λ _. AsAtEntry More old.now) → Leaves old new (λ _. AsAtEntry Same old.now)
same_weaker Same More from {old} {new} leaves =
    weaker old new (λ _. AsAtEntry More old.now) (λ _. AsAtEntry Same old.now) (λ m image is. (is.0, is.1, from is.0 image is.2)) leaves

-- Two runs in turn leave images that are the same as at their entry, if the sense goes on from image to image.
pub same_goes_on : (Same : List ℕ → List ℕ → Type 0) → ((one two three : List ℕ) → Same one two → Same two three → Same one three)
    → {old mid new : DiskState} → Leaves old mid (λ _. AsAtEntry Same old.now) → Leaves mid new (λ _. AsAtEntry Same mid.now) → Leaves old new (λ _. AsAtEntry Same old.now)
same_goes_on Same on {old} {mid} {new} first then =
    goes_on old mid new (λ _. AsAtEntry Same old.now) first
    (weaker mid new (λ _. AsAtEntry Same mid.now) (λ _. AsAtEntry Same old.now)
    (λ m image is. let was = exit_images old mid (λ _. AsAtEntry Same old.now) first is.0 is.1 in (was.0, was.1, on was.0 is.0 image was.2 is.2)) then)
