use Rattle.rs_caps.proofs.Walks.{AreLaws}
use Rattle.rs_caps.proofs.Destinations.{destination_mirrors, mirror_was_held}
use Rattle.rs_caps.proofs.laws.destination.destination_mirrors.Goals as goal
use Rattle.rs_caps.proofs.laws.destination.destination_mirrors.Goals.{After-walks_pass_each_count}

laws : After-walks_pass_each_count → AreLaws
laws c =
    record {
      listed_chunks = c.parts_are_chunks.ensures;
      change_chunks = c.parts_are_chunks-2.ensures;
      folds = c.walks_are_folds.ensures;
      lawful = c.walks_stay_lawful.ensures;
      recorded = c.walks_are_catalogued.ensures.recorded;
      held_then = c.walks_are_catalogued.ensures.held_then;
      followed = c.walks_are_catalogued.ensures.kept_followed;
      passed = c.walks_pass_each_count.ensures;
    }

pub returns-clause-mirrored : goal.returns-clause-mirrored
returns-clause-mirrored c = destination_mirrors (laws (goal.at.returns-clause-mirrored c).After-walks_pass_each_count)

pub returns-clause-held : goal.returns-clause-held
returns-clause-held c = mirror_was_held (laws (goal.at.returns-clause-held c).After-walks_pass_each_count)
