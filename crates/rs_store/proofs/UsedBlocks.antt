-- The set of used blocks across a commit: the blocks that a plan takes, the blocks that it gives back, and the blocks
-- that are used afterwards.
use Rattle.std.proofs.Common.{true≢false, ◌≡◌, ◌≤◌, ℕ, Bool, true, false, not, ◌&&◌, ◌||◌, List, refl, sym, ◌∙◌, subst, arith}
use Rattle.rs_extent.specs.declared.Extent.{Extent}
use Rattle.rs_extent.specs.Blocks.{is_used}
use Rattle.rs_extent.specs.Extents.{in_some, CanTake, AreTaken, CanGive, AreGiven}
use Rattle.rs_store.proofs.FromBelow.{not_true}
use Rattle.rs_commit.specs.declared.root.Root.{Root}
use Rattle.rs_model.specs.declared.command.Command.{Command}
use Rattle.rs_image.specs.declared.contents.Contents.{Contents}
use Rattle.rs_image.specs.Reach.{is_kept}
use Rattle.rs_image.specs.Whole.{IsWhole}
use Rattle.rs_image.specs.Rooted.{rooted, AreUsed, MemoryIsSound}
use Rattle.rs_plan.specs.declared.plan.Plan.{Plan}
use Rattle.rs_plan.specs.Plans.{places, once_stored, planned_root, IsPlanned}
use Rattle.rs_store.proofs.Stays.{reach_kept}

-- whether a block is used then, by whether it was used (k), was given back (f) and was taken (t)
used_then : (k f t was between then : Bool) → (f ≡ true → then ≡ false) → (f ≡ false → then ≡ between)
    → (t ≡ true → between ≡ true) → (t ≡ false → between ≡ was) → was ≡ k → (f ≡ true → t ≡ false) → then ≡ ((k && not f) || t)
used_then k true true was between then given stays taken left is apart = absurd (true≢false (apart refl))
used_then true true false was between then given stays taken left is apart = given refl
used_then false true false was between then given stays taken left is apart = given refl
used_then true false true was between then given stays taken left is apart = stays refl ∙ taken refl
used_then false false true was between then given stays taken left is apart = stays refl ∙ taken refl
used_then true false false was between then given stays taken left is apart = stays refl ∙ left refl ∙ is
used_then false false false was between then given stays taken left is apart = stays refl ∙ left refl ∙ is

module _ (size : ℕ) (root : Root) (old : Contents) (command : Command) (moment : ℕ) (p : Plan) (used : List Bool)
    (whole : IsWhole size root old) (are : AreUsed (rooted size root old) used) (planned : IsPlanned (rooted size root old) command moment p) where
  -- the blocks that a plan takes are its places
  pub taken_places : p.taken.items ≡ places p
  taken_places = planned.blocks.taken

  -- they are free
  pub can_take : (extents : List Extent) → extents ≡ p.taken.items → CanTake used extents
  can_take extents is =
      subst (λ (es : List Extent). CanTake used es) (sym (is ∙ planned.blocks.taken)) (record {
        apart = planned.apart;
        is_free = λ b here. are.each b (planned.inside b here).1 ∙ planned.free b here;
      })

  -- all given-back blocks are used, and no taken block is among them
  given_kept : (b : ℕ) → in_some p.freed.items b ≡ true → is_kept root old b ≡ true
  given_kept b here = reach_kept root old b (planned.blocks.reached b here)

  given_apart : (b : ℕ) → in_some p.freed.items b ≡ true → in_some (places p) b ≡ false
  given_apart b here = not_true (in_some (places p) b) (λ is. true≢false (sym (given_kept b here) ∙ planned.free b is))

  module _ (mid : List Bool) (taken : AreTaken used mid (places p)) where
    pub can_give : (extents : List Extent) → extents ≡ p.freed.items → CanGive mid extents
    can_give extents is =
        subst (λ (es : List Extent). CanGive mid es) (sym is) (record {
          apart = planned.blocks.apart;
          on_disk = λ b here. let inside = whole.inside b (planned.blocks.reached b here) in omega (arith, inside.1, taken.size, are.blocks);
          are_used = λ b here.
              let inside = whole.inside b (planned.blocks.reached b here) in
              taken.others b (given_apart b here) ∙ are.each b inside.1 ∙ given_kept b here;
        })

    -- then exactly the blocks are used that the next root reaches
    pub used_next : (then : List Bool) → AreGiven mid then p.freed.items → AreUsed (rooted size (planned_root root p) (once_stored p.contents)) then
    used_next then given = record {
      blocks = given.size ∙ taken.size ∙ are.blocks;
      each = λ b lt.
          used_then (is_kept root old b) (in_some p.freed.items b) (in_some (places p) b) (is_used used b) (is_used mid b) (is_used then b)
          (given.after b) (given.others b) (taken.after b) (taken.others b) (are.each b lt) (given_apart b)
          ∙ sym (planned.blocks.next b);
    }

-- The memory after a commit is sound.
pub sound_next : (size size' : ℕ) (root root' : Root) (old c : Contents) (command : Command) (moment : ℕ) (p : Plan) (then : List Bool)
    → size' ≡ size → root' ≡ planned_root root p → c ≡ once_stored p.contents → 1024 ≤ size → IsPlanned (rooted size root old) command moment p
    → AreUsed (rooted size (planned_root root p) (once_stored p.contents)) then → MemoryIsSound (rooted size' root' c) then
sound_next size size' root root' old c command moment p then same at lists room planned used =
    let next : MemoryIsSound (rooted size (planned_root root p) (once_stored p.contents)) then =
    record { rooted = record { room = room; whole = planned.whole; listable = planned.listable }; used = used } in
    subst (λ (n : ℕ). MemoryIsSound (rooted n root' c) then) (sym same)
    (subst (λ (r : Root). MemoryIsSound (rooted size r c) then) (sym at) (subst (λ (l : Contents). MemoryIsSound (rooted size (planned_root root p) l) then) (sym lists) next))
