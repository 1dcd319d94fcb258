-- The fields so far.
use Rattle.std.proofs.Common.{map, take}
use Rattle.httparse.specs.Spans.{header_bytes}
use Rattle.rs_http.specs.Fields.{values_of, LoneIs}
use Rattle.rs_http.proofs.fields.find_lone.Given as goal

abbrev pub invariant-loop-header : goal.invariant-loop-header
invariant-loop-header l = LoneIs l.found (values_of l.name (map (header_bytes l.head) (take l.header-index l.headers)))
