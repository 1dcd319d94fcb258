-- The fields so far.
use Rattle.std.proofs.Common.{◌≡◌, map, take, codes}
use Rattle.httparse.specs.Spans.{header_bytes}
use Rattle.rs_http.specs.Fields.{values_of}
use Rattle.rs_http.specs.Checks.{is_continue}
use Rattle.rs_http.proofs.fields.is_continue.Given as goal

abbrev pub invariant-loop-header : goal.invariant-loop-header
invariant-loop-header l = l.found ≡ is_continue (values_of (codes "expect") (map (header_bytes l.head) (take l.header-index l.headers)))
