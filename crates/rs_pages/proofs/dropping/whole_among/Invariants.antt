use Rattle.std.proofs.Common.{◌≡◌, drop}
use Rattle.rs_pages.specs.Dropped.{dropped_front}
use Rattle.rs_pages.proofs.dropping.whole_among.Given as goal

abbrev pub invariant-loop-gone : goal.invariant-loop-gone
invariant-loop-gone g l = dropped_front l.initial.more l.pages ≡ dropped_front l.more (drop l.gone l.pages)
