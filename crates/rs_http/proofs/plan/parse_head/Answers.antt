-- The room is never too small, so every answer but a head means that there is no head.
use Rattle.httparse.specs.Spans.{RequestOverflows}
use Rattle.rs_http.proofs.Room.{never_overflows}
use Rattle.rs_http.proofs.plan.parse_head.Goals as goal

pub returns-in-Err-clause-none : goal.returns-in-Err-clause-none
returns-in-Err-clause-none c =
    let over : RequestOverflows 2731 c.args.head.now = rw c.requires.room at c.in-Err.ensures.no_room in
    never_overflows c.args.head.now c.requires.short over
