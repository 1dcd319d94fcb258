use Rattle.std.proofs.Common.{◌≡◌, inr, ℕ, ◌+◌, Bool, List, [], ◌∷◌, ◌++◌, length, refl, sym, ◌∙◌, ap, subst, arith, append_assoc}
use Rattle.std.specs.List.{AllByRecursion}
use Rattle.std.proofs.lemmas.List.{append-nil}
use Rattle.rs_body.specs.Blocks.{blocks_of}
use Rattle.rs_extent.specs.declared.Extent.{Extent}
use Rattle.rs_extent.specs.Extents.{AreTaken}
use Rattle.rs_plan.proofs.FromBelow.{taken_both}
use Rattle.rs_model.specs.declared.command.Item.{Item}
use Rattle.rs_plan.specs.Allowed.{IsShort}
use Rattle.rs_plan.specs.Room.{Takes, HasNoRoom, TakesEach, bodies_kept, bodies_needed}
use Rattle.rs_plan.proofs.Extents.{taken_lowest, pushed}
use Rattle.rs_plan.proofs.planning.grouping.take_bodies.Goals as goal

-- one body more takes its place
module _ (start used next : List Bool) (all left needed : List ℕ) (n : ℕ) (body : Extent) (bodies more_bodies : List Extent) (cut : left ≡ n ∷ needed)
    (takes : Takes used n body next) (pushed_is : more_bodies ≡ bodies ++ body ∷ []) where
  takes_more : ((more : List Extent) (after : List Bool) → TakesEach used left more after → TakesEach start all (bodies ++ more) after)
      → (more : List Extent) (after : List Bool) → TakesEach next needed more after → TakesEach start all (more_bodies ++ more) after
  takes_more each more after others =
      subst (λ (l : List Extent). TakesEach start all l after) (sym (ap (λ (l : List Extent). l ++ more) pushed_is ∙ append_assoc bodies (body ∷ []) more))
      (each (body ∷ more) after (subst (λ (ns : List ℕ). TakesEach used ns (body ∷ more) after) (sym cut) (next, takes, others)))

  full_more : (HasNoRoom used left → HasNoRoom start all) → HasNoRoom next needed → HasNoRoom start all
  full_more full none = full (subst (HasNoRoom used) (sym cut) (inr (next, body, takes, none)))

  taken_more : AreTaken start used bodies → AreTaken start next more_bodies
  taken_more taken = subst (AreTaken start next) (sym pushed_is) (taken_both start used next bodies (body ∷ []) taken (taken_lowest used next n body takes))

pub loop-item-preserved-in-Some-take_lowest : goal.loop-item-preserved-in-Some-take_lowest
loop-item-preserved-in-Some-take_lowest c =
    let inv = c.loop-item.invariant in
    let start = c.args.used.now in
    let used = c.loop-item.used in
    let next = c.take_lowest.new.used in
    let rest = c.loop-item.rest.now in
    let later = c.in-Some.later.now in
    let split : rest ≡ c.in-Some.item.now ∷ later = c.in-Some.ensures.cases.0 in
    let many : length later + 1 ≡ length rest = c.in-Some.ensures.cases.1 in
    let all = bodies_needed (bodies_kept c.args.items.now) in
    let left = bodies_needed (bodies_kept rest) in
    let needed = bodies_needed (bodies_kept later) in
    let n : ℕ = blocks_of c.in-Some-written_length.length in
    let body = c.in-Some-take_lowest.body in
    let bodies = c.loop-item.bodies.items in
    let more_bodies = c.push.new.self.items in
    let takes = c.in-Some-take_lowest.ensures.found in
    let cut : left ≡ n ∷ needed = ap (λ (l : List Item). bodies_needed (bodies_kept l)) split ∙ c.in-Some-written_length.ensures in
    let pushed_is : more_bodies ≡ bodies ++ body ∷ [] =
    pushed c.push.result (bodies ++ body ∷ []) bodies more_bodies (c.push.ensures.succeeds (omega (arith, inv.room, many))) c.push.ensures.items in
    record {
      short = (subst (λ (l : List Item). AllByRecursion IsShort l) split inv.short).1;
      taken = taken_more start used next all left needed n body bodies more_bodies cut takes pushed_is inv.taken;
      room = omega (arith, inv.room, many, c.push.ensures.upper_bound, c.push.ensures.capacity);
      takes = takes_more start used next all left needed n body bodies more_bodies cut takes pushed_is inv.takes;
      full = full_more start used next all left needed n body bodies more_bodies cut takes pushed_is inv.full;
    }

-- no body is left
done_all : (start used : List Bool) (all : List ℕ) (rest : List Item) (bodies : List Extent) → length rest ≡ 0
    → ((more : List Extent) (after : List Bool) → TakesEach used (bodies_needed (bodies_kept rest)) more after → TakesEach start all (bodies ++ more) after)
    → TakesEach start all bodies used
done_all start used all [] bodies none each = subst (λ (l : List Extent). TakesEach start all l used) (append-nil bodies) (each [] used refl)
done_all start used all (item ∷ rest) bodies none each = absurd (omega (arith, none))

pub returns-clause-each : goal.returns-clause-each
returns-clause-each c =
    done_all c.args.used.now c.loop-item.used (bodies_needed (bodies_kept c.args.items.now)) c.loop-item.rest.now c.loop-item.bodies.items c.in_default.ensures.cases
    c.loop-item.invariant.takes
