use Rattle.rs_caps.proofs.ListsRead.{resources_gathered, changes_gathered, lists_mirror}
use Rattle.rs_caps.proofs.laws.served.lists_read.Goals as goal

pub returns-clause-resources : goal.returns-clause-resources
returns-clause-resources c = resources_gathered c.parts_are_chunks.ensures

pub returns-clause-changes : goal.returns-clause-changes
returns-clause-changes c = changes_gathered c.parts_are_chunks-2.ensures

pub returns-clause-mirrored : goal.returns-clause-mirrored
returns-clause-mirrored c = lists_mirror c.parts_are_chunks.ensures c.parts_are_chunks-2.ensures
