-- The answer to a put of bytes is the answer to the put that gets them from a reader.
use Rattle.std.proofs.Common.{◌≡◌, ◌⊎◌, inl, inr, ℕ, ◌+◌, ◌-◌, ◌<◌, ◌≤◌, arith, List, [], ◌++◌, length, take, Option, Result, Ok, Err, refl, sym, ◌∙◌, ap, subst}
use Rattle.std.specs.Prelude.{replicate, IfErr, IsErrOf}
use Rattle.std.proofs.Math.Seq.{take-append_seam, take-length}
use Rattle.std.proofs.lemmas.List.{length-append, length-replicate}
use Rattle.rs_disk.specs.Medium.{DiskState}
use Rattle.rs_store.proofs.FromBelow.{writing_as}
use Rattle.rs_model.specs.declared.command.Command.TheVariants.{Put}
use Rattle.rs_model.specs.declared.command.Reply.{Reply}
use Rattle.rs_store.specs.declared.refusal.Refusal.{Refusal}
use Rattle.rs_store.specs.declared.refusal.Refusal.TheVariants.{ReadFault, ShortBody, Device, NoMemory}
use Rattle.rs_store.specs.Source.{Stored}
use Rattle.rs_store.specs.Answered.{Answers}
use Rattle.rs_store.specs.Received.{IsBodyOf, IsLeft, IsCutShort, IsCut, IsStopped, IsLate, MayHaveCome, AnswersFrom, coming_put}

-- a body that begins with as many bytes as it has is these bytes
same_body : (n : ℕ) (came body : List ℕ) → length came ≡ n → IsBodyOf n came body → came ≡ body
same_body n came body whole h =
    let long : length came ≡ length body = whole ∙ sym h.len in
    sym h.front ∙ (ap (λ k. take k body) long ∙ take-length body)

-- the bytes that came, followed by these bytes, are a body
pub begins : (n : ℕ) (came rest : List ℕ) → length came + length rest ≡ n → IsBodyOf n came (came ++ rest)
begins n came rest all = record { len = length-append came rest ∙ all; front = take-append_seam came rest }

-- some body begins with the bytes that came, if it is no shorter
pub begins_one : (n : ℕ) (came : List ℕ) → length came ≤ n → (body : List ℕ) × IsBodyOf n came body
begins_one n came le =
    let rest : List ℕ = replicate (n - length came) 0 in
    (came ++ rest, begins n came rest (omega (arith, length-replicate {A = ℕ} (n - length came) 0)))

-- no byte came, or all of a body
none_or_all : (n : ℕ) (came : List ℕ) → (came ≡ []) ⊎ (length came ≡ n) → length came ≤ n
none_or_all n came (inl none) = rw none (omega arith)
none_or_all n came (inr all) = omega (arith, all)

-- no more bytes came of a refused body than it has
pub may_fit : (n : ℕ) (came : List ℕ) (r : Refusal) → MayHaveCome n came r → length came ≤ n
may_fit n came Device may = may
may_fit n came NoMemory may = none_or_all n came may
may_fit n came refusal may = rw may (omega arith)

-- at any refusal it is possible that no bytes came
pub nothing_came : (n : ℕ) (r : Refusal) → MayHaveCome n [] r
nothing_came n Device = omega arith
nothing_came n NoMemory = inl refl
nothing_came n refusal = refl

-- at a late refusal it is possible that all bytes came
come_late : (n : ℕ) (came : List ℕ) (r : Refusal) → IsLate r → length came ≡ n → MayHaveCome n came r
come_late n came Device late whole = omega (arith, whole)
come_late n came NoMemory late whole = inr whole
come_late n came refusal late whole = absurd late

module _ {D : Type 0} (device : D → DiskState) (old new : Stored D) (name kind : List ℕ) (n now : ℕ) (came : List ℕ) where
  -- a refusal that does not come from a reader
  pub refused_from : (r : Refusal) → (r ≡ ReadFault → ⊥) → (r ≡ ShortBody → ⊥) → MayHaveCome n came r → ((body : List ℕ) → IsBodyOf n came body → Answers device old new (Put name kind body) now (Err r))
      → AnswersFrom device old new (coming_put name kind n now) came (Err r)
  refused_from ReadFault a b fits all = absurd (a refl)
  refused_from ShortBody a b fits all = absurd (b refl)
  refused_from refusal a b fits all = (fits, all)

  -- the same if one body gets this answer
  pub refused_as : (r : Refusal) (body : List ℕ) → IsBodyOf n came body → MayHaveCome n came r → ((body : List ℕ) → IsBodyOf n came body → Answers device old new (Put name kind body) now (Err r))
      → AnswersFrom device old new (coming_put name kind n now) came (Err r)
  refused_as r body is fits all =
      refused_from r (λ same. (all body is).refused ReadFault (ap refusing same)) (λ same. (all body is).refused ShortBody (ap refusing same)) fits all
    where
      refusing : Refusal → Result Reply Refusal
      refusing q = Err q

  -- all of the body came
  pub answered_whole : (result : Result Reply Refusal) → IfErr result IsLate → length came ≡ n → Answers device old new (Put name kind came) now result → AnswersFrom device old new (coming_put name kind n now) came result
  answered_whole (Ok reply) late whole a = (whole, a)
  answered_whole (Err r) late whole a =
      refused_as r came (record { len = whole; front = take-length came }) (come_late n came r late whole)
      (λ body is. subst (λ (bytes : List ℕ). Answers device old new (Put name kind bytes) now (Err r)) (same_body n came body whole is) a)

-- zeros are a body of any length
pub zeros : (n : ℕ) → IsBodyOf n [] (replicate n 0)
zeros n = record { len = length-replicate n 0; front = refl }

-- the effect of NoMemory
pub left_by : {D : Type 0} (device : D → DiskState) (old new : Stored D) (name kind body : List ℕ) (now : ℕ) → Answers device old new (Put name kind body) now (Err NoMemory) → IsLeft device old new
left_by device old new name kind body now a = record {
  unchanged = a.unchanged NoMemory refl (λ (is : NoMemory ≡ Device). absurd cc);
  is_closed = a.stays_open (λ is. absurd cc);
  holds = λ s holds. a.leads s holds;
  runs = writing_as (device old.disk) (device new.disk) (λ is. absurd cc) (λ none. absurd none) a.runs;
}

-- Not all of the body came.
module _ {D : Type 0} (device : D → DiskState) (old new : Stored D) (name kind : List ℕ) (n now : ℕ) (came : List ℕ) (rest : Option (List ℕ)) where
  pub cut_from : (r : Refusal) → (r ≡ Device → ⊥) → IsStopped n rest came r → (length came < n → IsCutShort device old new (coming_put name kind n now) came)
      → AnswersFrom device old new (coming_put name kind n now) came (Err r)
  cut_from ReadFault other cut short = short cut
  cut_from ShortBody other cut short = short cut.0
  cut_from Device other cut short = absurd (other refl)
  cut_from refusal other cut short = absurd cut

-- a cut of the reading is a stop of the receiving
pub cut_stops : (n : ℕ) (rest : Option (List ℕ)) (came : List ℕ) (r : Refusal) → IsCut n rest came r → IsStopped n rest came r
cut_stops n rest came Device cut = absurd cut
cut_stops n rest came r cut = cut

-- and no fault of the device
pub cut_not_device : (n : ℕ) (rest : Option (List ℕ)) (came : List ℕ) (r : Refusal) → IsCut n rest came r → r ≡ Device → ⊥
cut_not_device n rest came ReadFault cut is = absurd cc
cut_not_device n rest came ShortBody cut is = absurd cc
cut_not_device n rest came r cut is = absurd cut

-- a stop of the receiving of a piece is a stop of the receiving of the body, of which more bytes had come
pub stops_behind : (n m : ℕ) (rest : Option (List ℕ)) (front came : List ℕ) (r : Refusal) → length front + m ≤ n → IsStopped m rest came r → IsStopped n rest (front ++ came) r
stops_behind n m rest front came ReadFault fits cut = omega (arith, length-append front came, cut)
stops_behind n m rest front came ShortBody fits cut = (omega (arith, length-append front came, cut.0), cut.1)
stops_behind n m rest front came Device fits cut = omega (arith, length-append front came, cut)
stops_behind n m rest front came r fits cut = absurd cut

-- a refusal is the same one in the place of another result
pub refused_elsewhere : {A B : Type 0} (r s : Refusal) → IsErrOf {T = A} (Err r) s → IsErrOf {T = B} (Err r) s
refused_elsewhere r s e = let is : r ≡ s = cc in ap Err is
