-- The state of a watched reader or writer, as contracts see it. The definitions on bytes take the function that returns
-- them: W.contents of a writer, R.remaining of a reader.
use Rattle.std.specs.Prelude.{◌≡◌, ◌⊎◌, ℕ, ◌+◌, ◌<◌, ◌≤◌, ◌^◌, ◌==◌, Bool, true, not, List, ◌++◌, Option, Result, MatchResult}
use Rattle.std.specs.Result.{IsErr}
use Rattle.std.specs.Io.KnownBytes.{Consumes, Appends}
use Rattle.rs_io.specs.declared.watch.Watched.{Watched}
use Rattle.rs_io.specs.Counted.{IsCounted}

-- the reader or the writer inside
abbrev pub watched : {T : Type 0} → Watched T → T
watched w = w.inner.end

-- the number of calls it has made of the end inside
abbrev pub calls : {T : Type 0} → Watched T → ℕ
calls w = w.inner.calls

-- The number of faults it has answered: in all, and by flushes.
pub record Failures : Type 0 where
  pub all : ℕ
  pub flushes : ℕ

-- its faults so far
abbrev pub failures : {T : Type 0} → Watched T → Failures
failures w = record { all = w.failures; flushes = w.failed_flushes }

-- a call of it has failed, so that every later call fails too
abbrev pub is_broken : {T : Type 0} → Watched T → Bool
is_broken w = not (w.failures == 0)

-- no put was made since its last successful flush
abbrev pub is_flushed : {T : Type 0} → Watched T → Bool
is_flushed w = not w.holds_back

-- the same end, with only the result of `told` in place of the reader or the writer inside
abbrev pub seen_by : {T X : Type 0} → (T → X) → Watched T → Watched X
seen_by told w = record {
  inner = record { end = told w.inner.end; calls = w.inner.calls };
  failures = w.failures;
  failed_flushes = w.failed_flushes;
  holds_back = w.holds_back;
}

-- if it was flushed before, it is flushed after: all bytes put into it in between were flushed as well
abbrev pub StaysFlushed : {T : Type 0} → Watched T → Watched T → Type 0
StaysFlushed old new = is_flushed old ≡ true → is_flushed new ≡ true

-- a call failed in between, or the count of failures has reached its last value
abbrev pub EndFailed : {T : Type 0} → Watched T → Watched T → Type 0
EndFailed old new = ((failures old).all < (failures new).all) ⊎ (2 ^ 64 ≤ (failures new).all + 1)

-- a flush failed in between, or the count of failed flushes has reached its last value
abbrev pub FlushFailed : {T : Type 0} → Watched T → Watched T → Type 0
FlushFailed old new = ((failures old).flushes < (failures new).flushes) ⊎ (2 ^ 64 ≤ (failures new).flushes + 1)

-- a put failed in between, and no flush failed
abbrev pub PutFailed : {T : Type 0} → Watched T → Watched T → Type 0
PutFailed old new = EndFailed old new × ((failures new).flushes ≡ (failures old).flushes)

-- An answer reports an end only if a call of the end failed in between, or the count has reached its last value. If the
-- answer does not report it, no call failed.
pub record TellsEnd {T : Type 0} (told : Type 0) (old new : Watched T) : Type 0 where
  pub failed : told → EndFailed old new
  pub sound : ¬ told → failures new ≡ failures old

-- an end, with the bytes that it has left or holds in place of the reader or the writer inside
abbrev pub End : Type 0
End = Watched (Option (List ℕ))

-- The two ends of a call: the bytes that the reader has left before and after it, and the bytes that the writer holds
-- before and after it.
pub record Ends : Type 0 where
  pub left : End
  pub rest : End
  pub before : End
  pub after : End

abbrev pub ends_of : {R W : Type 0} → (R → Option (List ℕ)) → Watched R → Watched R → (W → Option (List ℕ)) → Watched W → Watched W → Ends
ends_of remaining left rest contents before after = record {
  left = seen_by remaining left;
  rest = seen_by remaining rest;
  before = seen_by contents before;
  after = seen_by contents after;
}

-- it made one call of the end inside, or the count of calls has reached its last value
abbrev pub IsCalledOnce : {T : Type 0} → Watched T → Watched T → Type 0
IsCalledOnce old new = IsCounted old.inner new.inner

-- A call was refused: it answers a fault, and made no call of the end inside.
pub record IsRefused {T X E : Type 0} (old new : Watched T) (result : Result X E) : Type 0 where
  pub failed : IsErr result
  pub untouched : watched new ≡ watched old
  pub not_called : calls new ≡ calls old

-- a writer took these bytes, and no call of it failed in between
abbrev pub Wrote : {W : Type 0} → (W → Option (List ℕ)) → Watched W → Watched W → List ℕ → Type 0
Wrote contents old new bytes = Appends (contents (watched old)) (contents (watched new)) bytes × (failures new ≡ failures old)

-- a put failed within this text: the writer took a beginning of it, and the rest was left out
pub record FailedWithin {W : Type 0} (contents : W → Option (List ℕ)) (old new : Watched W) (text : List ℕ) : Type 0 where
  pub failed : PutFailed old new
  pub part : List ℕ
  pub left_out : List ℕ
  pub bytes_are : part ++ left_out ≡ text
  pub took : Appends (contents (watched old)) (contents (watched new)) part

-- a writer took the first bytes whole, and a put failed then: of this text it took a beginning, and the rest was left out
pub record FailedAfter {W : Type 0} (contents : W → Option (List ℕ)) (old new : Watched W) (first text : List ℕ) : Type 0 where
  pub failed : PutFailed old new
  pub part : List ℕ
  pub left_out : List ℕ
  pub bytes_are : part ++ left_out ≡ text
  pub took : Appends (contents (watched old)) (contents (watched new)) (first ++ part)

-- a writer took this whole text, or failed within it
abbrev pub WritesOut : {W X E : Type 0} → (W → Option (List ℕ)) → Watched W → Watched W → Result X E → List ℕ → Type 0
WritesOut contents old new result text = MatchResult result (λ _. Wrote contents old new text) (λ _. FailedWithin contents old new text)

-- a reader gave these bytes, and no call of it failed in between
abbrev pub Took : {R : Type 0} → (R → Option (List ℕ)) → Watched R → Watched R → List ℕ → Type 0
Took remaining old new bytes = Consumes (remaining (watched old)) (remaining (watched new)) bytes × (failures new ≡ failures old)
