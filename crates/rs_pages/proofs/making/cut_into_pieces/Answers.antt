use Rattle.std.proofs.Common.{◌<◌, ◌≤◌, ◌++◌, ap, length, map, arith}
use Rattle.std.proofs.lemmas.List.{length-drop}
use Rattle.rs_pages.specs.Rule.{cut_into_pieces_of, touched}
use Rattle.rs_pages.proofs.Cut.{is_touched, cut_step, cut_end}
use Rattle.rs_pages.proofs.making.cut_into_pieces.Goals as goal

pub loop-rest-preserved : goal.loop-rest-preserved
loop-rest-preserved g c =
    let rest = c.loop-rest.rest.items in
    let more : 64 < length rest = omega arith in
    let left = c.in_ok-later.ensures.tail in
    let cut = c.in_ok-later.ensures.items in (
      omega (arith, simp length-drop at (ap length left)),
      cut_step c.args.piece c.requires.some c.requires.within c.loop-rest.pages.items (c.args.pages.now.items ++ map touched (cut_into_pieces_of c.args.piece c.args.items.items))
          c.push.new.self.items rest c.split_off.new.self.items c.in_ok-later.later.items c.new.result more cut left
          (is_touched c.new.result c.split_off.new.self.items c.new.ensures.items c.new.ensures.place) c.in_ok-push.ensures.items c.loop-rest.invariant.1,
    )

pub returns : goal.returns
returns g c =
    let rest = c.loop-rest.rest.items in
    let few : length rest ≤ 64 = omega arith in
    cut_end c.args.piece c.loop-rest.pages.items (c.args.pages.now.items ++ map touched (cut_into_pieces_of c.args.piece c.args.items.items)) c.push-2.new.self.items rest c.new-2.result c.loop-rest.invariant.0 few
    (is_touched c.new-2.result rest c.new-2.ensures.items c.new-2.ensures.place) c.in_ok-push-2.ensures.items c.loop-rest.invariant.1
