use Rattle.std.proofs.Common.{Option, sym, subst, ℕ, List}
use Rattle.std.specs.Prelude.{MatchOption}
use Rattle.rs_extent.specs.declared.Extent.{Extent}
use Rattle.rs_extent.specs.Blocks.{IsFreeRun, IsLowest}
use Rattle.rs_extent.specs.Words.{bit_of, HasNoSetRun, IsLowestRun}
use Rattle.rs_extent.proofs.Bitmaps.{bits_run, lowest_free}
use Rattle.rs_extent.proofs.used.Used.find.Goals as goal

pub returns-in_err-first : goal.returns-in_err-first
returns-in_err-first c =
    let none = subst (λ (l : List ℕ). HasNoSetRun (bit_of l) c.args.blocks) c.deref.ensures.value c.in_err-first.ensures in
    subst (λ (r : Option Extent). MatchOption r ((first : ℕ) → IsFreeRun c.args.self.now first c.args.blocks → ⊥) (IsLowest c.args.self.now c.args.blocks))
    (sym c.from_residual.ensures) (λ first run. none first (bits_run _ _ _ _ first c.args.blocks c.self.invariant c.self.view_is run))

pub returns : goal.returns
returns c =
    lowest_free _ _ _ _ c.in_ok-first.first c.args.blocks c.self.invariant c.self.view_is c.requires
    (subst (λ (l : List ℕ). IsLowestRun (bit_of l) c.args.blocks c.in_ok-first.first) c.deref.ensures.value c.in_ok-first.ensures)
