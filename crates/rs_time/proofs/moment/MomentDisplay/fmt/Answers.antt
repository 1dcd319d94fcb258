use Rattle.std.proofs.Common.{subst, sym}
use Rattle.std.specs.Str.{IsUtf8}
use Rattle.rs_time.proofs.MomentTexts.{moment_text-utf8}
use Rattle.rs_time.proofs.moment.MomentDisplay.fmt.Goals as goal

pub unreachable-requires : goal.unreachable-requires
unreachable-requires g c =
    c.in_default.ensures.cases.0 (subst IsUtf8 (sym c.text-bytes.ensures) (moment_text-utf8 c.args.self.now))
