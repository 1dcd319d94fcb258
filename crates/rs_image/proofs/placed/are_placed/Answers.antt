use Rattle.std.proofs.Common.{true≢false, refl, sym, ap, length, ◌∙◌, arith}
use Rattle.std.proofs.lemmas.List.{length-append}
use Rattle.rs_directory.specs.Directory.{ref_bytes}
use Rattle.rs_image.proofs.FromBelow.{length-ref_bytes}
use Rattle.rs_image.proofs.Named.{none_left, one_seen}
use Rattle.rs_image.proofs.placed.are_placed.Goals as goal

pub returns-then-not-is_placed : goal.returns-then-not-is_placed
returns-then-not-is_placed c pages are =
    let one = one_seen c.args.size pages c.loop-page.rest.now c.in-Some.after.now c.in-Some.page c.in-Some.ensures.some (c.loop-page.invariant pages are) in (
      λ no. absurd (true≢false (sym no)),
      λ all. absurd (true≢false (sym (c.is_placed.ensures.1 (one.0 all)) ∙ c.if-not-is_placed.true)),
    )

pub loop-page-preserved : goal.loop-page-preserved
loop-page-preserved c pages are =
    (one_seen c.args.size pages c.loop-page.rest.now c.in-Some.after.now c.in-Some.page c.in-Some.ensures.some (c.loop-page.invariant pages are)).1
    (c.is_placed.ensures.0 c.if-not-is_placed.false)

pub loop-page-smaller : goal.loop-page-smaller
loop-page-smaller c =
    let first = c.in-Some.ensures.some in
    omega (arith, ap length first.spelled, length-append (ref_bytes c.in-Some.page) c.in-Some.after.now, length-ref_bytes c.in-Some.page first.lawful)

pub returns : goal.returns
returns c pages are = (
  λ yes. none_left c.args.size pages c.loop-page.rest.now c.in_default.ensures.none (c.loop-page.invariant pages are),
  λ all. refl,
)
