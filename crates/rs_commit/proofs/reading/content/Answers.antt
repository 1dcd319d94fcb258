use Rattle.std.proofs.Common.{sym, ◌∙◌}
use Rattle.rs_commit.proofs.Headers.{told, says_closed, says_unknown, says_open}
use Rattle.rs_commit.proofs.reading.content.Goals as goal

pub returns-then-bytes-ne-OPEN : goal.returns-then-bytes-ne-OPEN
returns-then-bytes-ne-OPEN c = λ block long are. says_closed c.args.bytes.now block long are c.if-bytes-ne-OPEN.true

pub returns-then-is_known : goal.returns-then-is_known
returns-then-is_known c =
    let root = c.root_in.ensures in
    let is = told c.root_in.result c.args.bytes.now root.version root.generation root.first root.blocks root.length root.sha256 in
    λ block long are. says_open c.args.bytes.now block long are c.if-bytes-ne-OPEN.false (sym c.is_known.ensures ∙ c.if-is_known.true) c.root_in.result is

pub returns-else-is_known : goal.returns-else-is_known
returns-else-is_known c = λ block long are. says_unknown c.args.bytes.now block long are c.if-bytes-ne-OPEN.false (sym c.is_known.ensures ∙ c.if-is_known.false)
