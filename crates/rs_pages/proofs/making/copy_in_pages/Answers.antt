use Rattle.std.proofs.Common.{◌≡◌, ◌<◌, ◌≤◌, ◌++◌, ◌∷◌, [], length, map, arith, refl, Result, Ok, Err, List}
use Rattle.std.specs.Prelude.{OnOk}
use Rattle.rs_pages.specs.Rule.{cut_into_pieces_of, touched}
use Rattle.rs_page.specs.Pages.{Page}
use Rattle.rs_pages.proofs.Cut.{cut_step, cut_end}
use Rattle.rs_pages.proofs.making.copy_in_pages.Goals as goal

pub loop-rest-preserved : goal.loop-rest-preserved
loop-rest-preserved g c =
    let rest = c.loop-rest.rest.now in
    let more : 64 < length rest = omega arith in (
      omega (arith, c.split_off_page.ensures.left),
      cut_step 64 (omega arith) (omega arith) c.loop-rest.pages.items (c.args.pages.now.items ++ map touched (cut_into_pieces_of 64 c.args.items.now))
          c.add_copy.new.pages.items rest c.split_off_page.result.0.now c.split_off_page.result.1.now (touched c.split_off_page.result.0.now) more c.split_off_page.ensures.page c.split_off_page.ensures.later
          refl c.in_ok-add_copy.ensures c.loop-rest.invariant.1,
    )

ended : {T A E : Type 0} (r : Result A E) (before all pushed : List (Page T)) (rest : List T) → 1 ≤ length rest → length rest ≤ 64
    → OnOk r (pushed ≡ before ++ touched rest ∷ []) → before ++ map touched (cut_into_pieces_of 64 rest) ≡ all → OnOk r (pushed ≡ all)
ended (Ok x) before all pushed rest some few is so_far = cut_end 64 before all pushed rest (touched rest) some few refl is so_far
ended (Err e) before all pushed rest some few is so_far = tt

pub returns : goal.returns
returns g c =
    ended c.add_copy-2.result c.loop-rest.pages.items (c.args.pages.now.items ++ map touched (cut_into_pieces_of 64 c.args.items.now)) c.add_copy-2.new.pages.items c.loop-rest.rest.now
    c.loop-rest.invariant.0 c.loop-rest-test.false c.add_copy-2.ensures c.loop-rest.invariant.1
