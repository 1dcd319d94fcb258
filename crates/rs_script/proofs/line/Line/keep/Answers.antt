-- A line that begins no request, and is longer than any line of one field.
use Rattle.std.proofs.Common.{◌≡◌, ◌++◌, ◌∙◌, ◌+◌, ◌-◌, ◌<◌, ℕ, List, false, length, length-append, slice_index, ap, sym, arith, rules}
use Rattle.std.proofs.lemmas.Grind.{common_steps}
use Rattle.rs_script.specs.Requests.{begins_request}
use Rattle.rs_script.proofs.line.Line.keep.Goals as goal

last_of : (raw run : List ℕ) (last : ℕ) → 0 < length run → last ≡ slice_index run (length run - 1) → last ≡ slice_index (raw ++ run) (length (raw ++ run) - 1)
last_of raw run last some is = grind (arith, common_steps, some, is)

pub returns-then-not-begins_request : goal.returns-then-not-begins_request
returns-then-not-begins_request c = λ raw k.
    let run = c.args.run.now in
    let items : c.extend_from_slice.new.self.items ≡ c.args.self.now.bytes.items ++ run = search rules in
    let whole : c.as_slice.result.now ≡ raw ++ run = c.as_slice.ensures ∙ items ∙ ap (λ z. z ++ run) k.1 in
    let begins : begins_request (raw ++ run) ≡ false = ap begins_request (sym whole) ∙ sym c.begins_request.ensures ∙ c.if-not-begins_request.true in
    let size : c.len.result ≡ length (raw ++ run) = c.len.ensures.value ∙ ap length (items ∙ ap (λ z. z ++ run) k.1) in
    let number : c.args.self.now.count + length run ≡ length (raw ++ run) = simp length-append (ap (λ n. n + length run) k.0.count_is) in (
      record {
        count_is = number;
        last_is = last_of raw run c.args.last c.requires.some c.requires.last;
        fits = omega (arith, c.requires.room, number);
      },
      omega (arith, size),
      begins,
    )
