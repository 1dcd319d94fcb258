-- A line with only its length kept.
use Rattle.std.proofs.Common.{arith}
use Rattle.rs_script.specs.declared.line.Kept.TheVariants.{Foreign, Refused}
use Rattle.rs_script.specs.PartialLine.{KeepsLineAs}
use Rattle.rs_script.proofs.ForeignLemmas.{foreign, refused_long}
use Rattle.rs_script.proofs.line.Line.content.Goals as goal

pub returns-in-Foreign : goal.returns-in-Foreign
returns-in-Foreign c = λ raw kept.
    let k : KeepsLineAs c.args.self.now Foreign raw = rw c.in-Foreign.is at kept in
    (omega (arith, c.len.ensures raw k.0), foreign raw c.args.has_break k.1 k.2)

pub returns-in-Refused : goal.returns-in-Refused
returns-in-Refused c = λ raw kept.
    let k : KeepsLineAs c.args.self.now Refused raw = rw c.in-Refused.is at kept in
    (omega (arith, c.if-len-le-LINE_LIMIT-2.true), refused_long raw c.args.has_break k.1)
