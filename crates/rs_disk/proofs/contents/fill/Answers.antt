use Rattle.std.specs.declared.alloc.Global.{Global}
use Rattle.std.proofs.Common.{Vec, ◌≡◌, ◌<◌, ◌+◌, ◌∷◌, [], ◌++◌, ◌%◌, ℕ, List, Bool, true, false, get_or, length, drop, sym, ◌∙◌, ap, arith, append_assoc}
use Rattle.std.proofs.lemmas.List.{drop_more}
use Rattle.rs_disk.specs.Medium.{filled}
use Rattle.rs_disk.proofs.contents.fill.Goals as goal
use Rattle.rs_disk.proofs.contents.fill.Goals.{then-unsettled-i+in_ok-push, else-unsettled-i+in_ok-push-2}

at_marked : (choice bytes : List ℕ) (set : List Bool) (k i : ℕ) → i < length bytes → i < length set → get_or set i false ≡ true
    → filled choice k (drop i bytes) (drop i set) ≡ get_or choice (k % length choice) 0 ∷ filled choice (k + 1) (drop (i + 1) bytes) (drop (i + 1) set)
at_marked choice bytes set k i lb ls is =
    (λ j. filled choice k (drop_more bytes i 0 lb j) (drop_more set i false ls j))
    ∙ (λ j. filled choice k (get_or bytes i 0 ∷ drop (i + 1) bytes) (is j ∷ drop (i + 1) set))

at_settled : (choice bytes : List ℕ) (set : List Bool) (k i : ℕ) → i < length bytes → i < length set → get_or set i false ≡ false
    → filled choice k (drop i bytes) (drop i set) ≡ get_or bytes i 0 ∷ filled choice k (drop (i + 1) bytes) (drop (i + 1) set)
at_settled choice bytes set k i lb ls is =
    (λ j. filled choice k (drop_more bytes i 0 lb j) (drop_more set i false ls j))
    ∙ (λ j. filled choice k (get_or bytes i 0 ∷ drop (i + 1) bytes) (is j ∷ drop (i + 1) set))

-- one byte more
more : (choice bytes : List ℕ) (set : List Bool) (image later : Vec ℕ Global) (pushed : List ℕ) (byte k next next_later i : ℕ) → later.items ≡ pushed → pushed ≡ image.items ++ byte ∷ [] → next_later ≡ next
    → filled choice k (drop i bytes) (drop i set) ≡ byte ∷ filled choice next (drop (i + 1) bytes) (drop (i + 1) set)
    → image.items ++ filled choice k (drop i bytes) (drop i set) ≡ filled choice 0 bytes set
    → later.items ++ filled choice next_later (drop (i + 1) bytes) (drop (i + 1) set) ≡ filled choice 0 bytes set
more choice bytes set image later pushed byte k next next_later i same is counts step before =
    let rest : ℕ → List ℕ = λ n. filled choice n (drop (i + 1) bytes) (drop (i + 1) set) in
    ap (λ (l : List ℕ). l ++ rest next_later) (same ∙ is) ∙ ap (λ (n : ℕ). (image.items ++ byte ∷ []) ++ rest n) counts
    ∙ append_assoc image.items (byte ∷ []) (rest next) ∙ ap (λ (l : List ℕ). image.items ++ l) (sym step) ∙ before

pub loop-i-preserved : goal.loop-i-preserved
loop-i-preserved c =
    let lb : c.loop-i.i < length c.args.settled.now = omega arith in
    let ls : c.loop-i.i < length c.args.unsettled.now = omega arith in
    elim c.if-unsettled-i.branch [
      | then-unsettled-i+in_ok-push w ↦ record {
        few = omega (arith, w.next-is);
        rest = more c.args.choice.now c.args.settled.now c.args.unsettled.now c.loop-i.image c.if-unsettled-i.image w.push.new.self.items (get_or c.args.choice.now (c.loop-i.next % length c.args.choice.now) 0) c.loop-i.next (c.loop-i.next + 1) c.if-unsettled-i.next c.loop-i.i
            (ap (λ (v : Vec ℕ Global). v.items) w.image-is) w.in_ok-push.ensures.items w.next-is
            (at_marked c.args.choice.now c.args.settled.now c.args.unsettled.now c.loop-i.next c.loop-i.i lb ls w.if-unsettled-i.true) c.loop-i.invariant.rest;
      }
      | else-unsettled-i+in_ok-push-2 w ↦ record {
        few = omega (arith, w.next-is);
        rest = more c.args.choice.now c.args.settled.now c.args.unsettled.now c.loop-i.image c.if-unsettled-i.image w.push-else-unsettled-i.new.self.items (get_or c.args.settled.now c.loop-i.i 0) c.loop-i.next c.loop-i.next c.if-unsettled-i.next c.loop-i.i
            (ap (λ (v : Vec ℕ Global). v.items) w.image-is) w.in_ok-push-2.ensures.items w.next-is
            (at_settled c.args.choice.now c.args.settled.now c.args.unsettled.now c.loop-i.next c.loop-i.i lb ls w.if-unsettled-i.false) c.loop-i.invariant.rest;
      }
    ]
