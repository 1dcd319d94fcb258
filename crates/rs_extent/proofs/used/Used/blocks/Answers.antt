use Rattle.std.proofs.Common.{sym}
use Rattle.rs_extent.proofs.Bitmaps.{length-used}
use Rattle.rs_extent.proofs.used.Used.blocks.Goals as goal

pub returns : goal.returns
returns c = sym (length-used _ _ _ c.self.view_is)
