-- 8,192 bytes hold at most 2,730 fields, so the room is never too small.
use Rattle.std.proofs.Common.{ℕ, ◌*◌, ◌<◌, ◌≤◌, List, [], ◌∷◌, length, ap, sym, arith, subst, append-nil, length-append}
use Rattle.std.proofs.lemmas.List.Elements.{All-tail}
use Rattle.std.specs.List.{All, flat_map}
use Rattle.httparse.specs.Grammar.{Field, IsField, LineEnd, crlf, lf, print_end, print_field, print_request, RequestHead, IsRequestHead, ReadsRequest, HasNoRequest}
use Rattle.httparse.specs.Spans.{RequestOverflows}

end_len : (e : LineEnd) → 1 ≤ length (print_end e)
end_len crlf = omega arith
end_len lf = omega arith

field_len : (f : Field) → 0 < length f.name → 3 ≤ length (print_field f)
field_len f h = simp length-append (omega (arith, end_len f.end))

first_is : (P : Field → Type 0) (f : Field) (fields : List Field) → All P (f ∷ fields) → P f
first_is P f fields h = h 0 f (omega arith)

section_len : (fields : List Field) → All IsField fields → 3 * length fields ≤ length (flat_map print_field fields)
section_len [] h = omega arith
section_len (f ∷ fields) h =
    let one : 3 ≤ length (print_field f) = field_len f (first_is IsField f fields h).name.0 in
    let more : 3 * length fields ≤ length (flat_map print_field fields) = section_len fields (All-tail IsField f fields h) in
    omega (arith, one, more, length-append (print_field f) (flat_map print_field fields))

request_len : (h : RequestHead) → IsRequestHead h → 3 * length h.fields ≤ length (print_request h)
unfolding print_request
request_len h is =
    let more : 3 * length h.fields ≤ length (flat_map print_field h.fields) = section_len h.fields is.fields in
    simp length-append (omega (arith, more))

pub fields_fit : (buf : List ℕ) (h : RequestHead) (rest : List ℕ) → length buf ≤ 8192 → ReadsRequest buf h rest → length h.fields ≤ 2731
fields_fit buf h rest le reads =
    let long : 3 * length h.fields ≤ length (print_request h) = request_len h reads.0 in
    omega (arith, long, simp length-append at (ap length reads.1))

pub never_overflows : (buf : List ℕ) → length buf ≤ 8192 → RequestOverflows 2731 buf → HasNoRequest buf
never_overflows buf le over h rest reads =
    let P : List ℕ → Type 0 = λ bytes. ReadsRequest bytes h rest in
    let many : 2731 < length h.fields = over [] h rest (subst P (sym (append-nil buf)) reads) in
    let few : length h.fields ≤ 2731 = fields_fit buf h rest le reads in
    omega arith
