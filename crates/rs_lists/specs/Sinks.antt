-- The texts that a sink takes, and the texts that a meter takes.
use Rattle.std.specs.Prelude.{◌≡◌, ℕ, ◌+◌, ◌<◌, ◌^◌, List, [], ◌++◌, length, Result, OnOk, OnErr}

-- Two texts in a row are one text. The sink took no byte; it took one text after another; it failed within the first;
-- it failed within the second.
pub record IsSink {S : Type 0} (takes fails : S → S → List ℕ → Type 0) : Type 0 where
  pub nothing : (a : S) → takes a a []
  pub more : (a b c : S) (x y : List ℕ) → takes a b x → takes b c y → takes a c (x ++ y)
  pub sooner : (a b : S) (x y : List ℕ) → fails a b x → fails a b (x ++ y)
  pub later : (a b c : S) (x y : List ℕ) → takes a b x → fails b c y → fails a c (x ++ y)

-- a call put this text into a sink, or failed within it
pub record Puts {S X E : Type 0} (takes fails : S → S → List ℕ → Type 0) (old new : S) (result : Result X E) (text : List ℕ) : Type 0 where
  pub took : OnOk result (takes old new text)
  pub failed : OnErr result (fails old new text)

-- a count grows by the length of these bytes, where the sum is below 2^64
pub record CountGrowsBy (before after : ℕ) (bytes : List ℕ) : Type 0 where
  pub exact : before + length bytes < 2 ^ 64 → after ≡ before + length bytes
