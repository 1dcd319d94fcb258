-- The fields of a head, by name (RFC 9110, section 5).
use Rattle.std.specs.Prelude.{◌≡◌, ℕ, ◌<◌, List, [], ◌∷◌, length, map, filter}
use Rattle.std.specs.Str.{str_eq_ignore_ascii_case}
use Rattle.httparse.specs.Grammar.{RequestHead}
use Rattle.httparse.specs.Spans.{span_bytes, header_bytes, name_and_value}
use Rattle.httparse.specs.declared.spans.HeaderSpan.{HeaderSpan}
use Rattle.httparse.specs.declared.spans.RequestSpans.{RequestSpans}
use Rattle.rs_http.specs.declared.fields.Lone.{Lone}
use Rattle.rs_http.specs.declared.fields.Lone.TheVariants.{Absent, One, Many}

-- the names and the values of fields
abbrev pub Pairs : Type 0
Pairs = List (List ℕ × List ℕ)

-- The parts of a head: its method, its target, the minor number of its version, and its fields, whose values have no
-- spaces and tabs at their ends.
pub record Parts : Type 0 where
  pub method : List ℕ
  pub target : List ℕ
  pub minor : ℕ
  pub fields : Pairs

abbrev pub head_parts : RequestHead → Parts
head_parts h = record { method = h.method; target = h.target; minor = h.minor; fields = map name_and_value h.fields }

-- the parts at these places of a head
abbrev pub head_parts_at : List ℕ → RequestSpans → List HeaderSpan → Parts
head_parts_at head spans headers =
    record {
      method = span_bytes head spans.method;
      target = span_bytes head spans.path;
      minor = spans.version;
      fields = map (header_bytes head) headers;
    }

-- the values of the fields of a name, in order; names are compared without case
abbrev pub values_of : List ℕ → Pairs → List (List ℕ)
values_of name pairs = map (λ pair. pair.1) (filter (λ pair. str_eq_ignore_ascii_case pair.0 name) pairs)

-- the values of the fields of one name: no value, this one, or more
abbrev pub LoneIs : Lone → List (List ℕ) → Type 0
LoneIs Absent values = values ≡ []
LoneIs (One text) values = values ≡ text.now ∷ []
LoneIs Many values = 1 < length values
