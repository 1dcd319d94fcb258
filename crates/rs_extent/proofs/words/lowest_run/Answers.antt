use Rattle.std.proofs.Common.{◌≡◌, ◌∙◌, sym, ap, ℕ, ◌+◌, ◌*◌, get_or, arith}
use Rattle.rs_extent.specs.Words.{bit_of}
use Rattle.rs_extent.proofs.Ends.{trailing_ones-all}
use Rattle.rs_extent.proofs.Places.{bit_of-past}
use Rattle.rs_extent.proofs.Scan.{word_of, head_set, head_end, scan_seam, scan_ones, scan_within, scan_passes, scan_ends, scan_same, run_fits}
use Rattle.rs_extent.proofs.words.lowest_run.Goals as goal
use Rattle.rs_extent.proofs.words.lowest_run.Goals.{then-word, else-word+in_default}

pub returns-then-n-run : goal.returns-then-n-run
returns-then-n-run c =
    let range = c.type_inv.words c.loop-i.i in
    let word = word_of c.args.words.now c.loop-i.i (omega arith) in
    scan_seam (bit_of c.args.words.now) c.args.n (64 * c.loop-i.i) c.loop-i.run c.trailing_ones-head.result c.loop-i.invariant (omega arith)
    (λ place from until. head_set (bit_of c.args.words.now) (64 * c.loop-i.i) (get_or c.args.words.now c.loop-i.i 0) place word from (omega arith))

pub overflow_add-run : goal.overflow_add-run
overflow_add-run c =
    let all = trailing_ones-all (get_or c.args.words.now c.loop-i.i 0) (omega arith) in
    omega arith

pub overflow_add-result : goal.overflow_add-result
overflow_add-result c =
    let range = c.type_inv.words c.loop-i.i in
    let lowest = c.in-Some.ensures in
    let room = run_fits (get_or c.args.words.now c.loop-i.i 0) c.args.n c.in-Some.bit (omega arith) c.requires.some lowest.is_run in
    omega arith

pub returns-in-Some : goal.returns-in-Some
returns-in-Some c =
    let range = c.type_inv.words c.loop-i.i in
    let word = word_of c.args.words.now c.loop-i.i (omega arith) in
    let off = head_end (bit_of c.args.words.now) (64 * c.loop-i.i) (get_or c.args.words.now c.loop-i.i 0) word (omega arith) in
    let ends = ap (λ (h : ℕ). bit_of c.args.words.now (64 * c.loop-i.i + h)) c.trailing_ones-head.ensures ∙ off in
    scan_within (bit_of c.args.words.now) c.args.n (64 * c.loop-i.i) c.loop-i.run c.trailing_ones-head.result (get_or c.args.words.now c.loop-i.i 0) c.in-Some.bit
    c.requires.some c.loop-i.invariant word (omega arith) ends c.in-Some.ensures

pub loop-i-preserved : goal.loop-i-preserved
loop-i-preserved c =
    let range = c.type_inv.words c.loop-i.i in
    let word = word_of c.args.words.now c.loop-i.i (omega arith) in
    let step : 64 * c.loop-i.i + 64 ≡ 64 * (c.loop-i.i + 1) = omega arith in
    elim c.if-word.branch [
      | then-word w ↦
          let all = trailing_ones-all (get_or c.args.words.now c.loop-i.i 0) (omega arith) in
          let next = scan_ones (bit_of c.args.words.now) c.args.n (64 * c.loop-i.i) c.loop-i.run c.loop-i.invariant (omega arith)
          (λ place from until. head_set (bit_of c.args.words.now) (64 * c.loop-i.i) (get_or c.args.words.now c.loop-i.i 0) place word from (omega arith)) in
          scan_same (bit_of c.args.words.now) c.args.n _ _ _ _ next step (sym w.run-is)
      | else-word+in_default w ↦
          let off = head_end (bit_of c.args.words.now) (64 * c.loop-i.i) (get_or c.args.words.now c.loop-i.i 0) word (omega arith) in
          let ends = ap (λ (h : ℕ). bit_of c.args.words.now (64 * c.loop-i.i + h)) c.trailing_ones-head.ensures ∙ off in
          let next = scan_passes (bit_of c.args.words.now) c.args.n (64 * c.loop-i.i) c.loop-i.run c.trailing_ones-head.result (get_or c.args.words.now c.loop-i.i 0)
          c.loop-i.invariant word (omega arith) ends (omega arith) w.in_default.ensures in
          scan_same (bit_of c.args.words.now) c.args.n _ _ _ _ next step (sym (w.run-is ∙ w.leading_ones-run.ensures))
    ]

pub returns : goal.returns
returns c = scan_ends (bit_of c.args.words.now) c.args.n (64 * c.loop-i.i) c.loop-i.run c.loop-i.invariant (λ place le. bit_of-past c.args.words.now place (omega arith))
