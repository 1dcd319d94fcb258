use Rattle.std.proofs.Common.{◌≡◌, List, true, false, ap, sym, ◌∙◌, refl, subst, arith, take}
use Rattle.std.specs.Prelude.{IsTrue}
use Rattle.std.specs.Ordering.{is_lt}
use Rattle.std.proofs.lemmas.List.{take_all}
use Rattle.rs_model.specs.Names.{by_bytes, is_ordered}
use Rattle.rs_page.specs.Pages.{items_of}
use Rattle.rs_pages.specs.Items.{keyed}
use Rattle.rs_pages.proofs.Ascending.{ordered_one, ordered_step, refuted}
use Rattle.rs_pages.proofs.pages.Pages.is_ordered.Goals as goal

pub loop-i-init : goal.loop-i-init
loop-i-init g c = ordered_one g.T.Named.name (items_of c.args.self.now)

pub loop-i-preserved : goal.loop-i-preserved
loop-i-preserved g c =
    let a = c.at.result.now in
    let b = c.at-in-loop-i.result.now in
    let rises : is_lt (by_bytes (g.T.Named.name a) (g.T.Named.name b)) ≡ true =
    ap (λ n. is_lt (by_bytes n (g.T.Named.name b))) (sym c.name.ensures) ∙ ap (λ n. is_lt (by_bytes c.name.result.now n)) (sym c.name-in-loop-i.ensures)
    ∙ ap is_lt (sym c.compare.ensures) ∙ (sym c.is_lt.ensures ∙ c.if-not-is_lt.false) in
    ordered_step g.T.Named.name (items_of c.args.self.now) c.loop-i.i a b c.loop-i.auto.i c.at.ensures c.at-in-loop-i.ensures rises c.loop-i.invariant

pub returns-then-not-is_lt : goal.returns-then-not-is_lt
returns-then-not-is_lt g c =
    let a = c.at.result.now in
    let b = c.at-in-loop-i.result.now in
    let falls : is_lt (by_bytes (g.T.Named.name a) (g.T.Named.name b)) ≡ false =
    ap (λ n. is_lt (by_bytes n (g.T.Named.name b))) (sym c.name.ensures) ∙ ap (λ n. is_lt (by_bytes c.name.result.now n)) (sym c.name-in-loop-i.ensures)
    ∙ ap is_lt (sym c.compare.ensures) ∙ (sym c.is_lt.ensures ∙ c.if-not-is_lt.true) in
    (λ h. cc, λ h. absurd (refuted g.T.Named.name (items_of c.args.self.now) c.loop-i.i a b c.loop-i.auto.i c.at.ensures c.at-in-loop-i.ensures falls h))

pub returns : goal.returns
returns g c =
    let whole : take c.loop-i.i (items_of c.args.self.now) ≡ items_of c.args.self.now = take_all c.loop-i.i (items_of c.args.self.now) (omega (arith, c.len-i-end.ensures.value, c.loop-i-test.false)) in
    (λ _. subst (λ (items : List g.row.T.Denot). IsTrue (is_ordered (keyed g.T.Named.name items))) whole c.loop-i.invariant, λ _. refl)
