-- The parts are those that `split` gives.
use Rattle.std.proofs.Common.{◌≡◌, ◌==◌, true, false, [], rules, tests}
use Rattle.std.proofs.lemmas.Iterator.{cases_from_all}
use Rattle.std.proofs.lemmas.Iterator.Splits.{YieldsList-from_slice_split}
use Rattle.rs_record.specs.Name.{is_segment as segment_bytes, segments}
use Rattle.rs_record.proofs.EachPart.{all_is}
use Rattle.rs_record.proofs.name.are_segments.Goals as goal

pub returns : goal.returns
returns c =
    all_is segment_bytes (segments c.args.bytes.now) c.all.result []
    (cases_from_all _ _ _ (λ x. segment_bytes x ≡ true) (λ x. segment_bytes x ≡ false) c.all.ensures.ran
    (YieldsList-from_slice_split _ (λ x. x == 47) c.args.bytes.now c.split.ensures.rest c.split.ensures.done c.split.ensures.closure (λ x b q k. search (rules, tests)))
    (λ x q k. search (rules, tests)) (λ x q k. search (rules, tests)))
