use Rattle.std.proofs.Common.{◌≡◌, ℕ, zero, suc, ◌-◌, ◌*◌, List, [], ◌∷◌, length, take, Some, ◌∙◌, ap, arith}
use Rattle.std.specs.Prelude.{slice_get}
use Rattle.rs_record.specs.declared.change.Change.{Change}
use Rattle.rs_record.specs.Changes.{last_moment}
use Rattle.rs_changes.specs.History.{changes_of, part_start}
use Rattle.rs_plan.proofs.planning.dropping.begin_without.Goals as goal

-- the moment of the last of some first changes
last_of_first : (t n : ℕ) (cs : List Change) (c : Change) → slice_get cs n ≡ Some c → c.moment ≡ last_moment t (take (suc n) cs)
last_of_first t n [] c at = cc
last_of_first t zero (x ∷ cs) c at = let same : c ≡ x = cc in ap (λ (y : Change). y.moment) same
last_of_first t (suc n) (x ∷ cs) c at = last_of_first x.moment n cs c at

pub returns-else-dropped-eq0 : goal.returns-else-dropped-eq0
returns-else-dropped-eq0 c =
    let contents = c.args.contents.now in
    let cs : List Change = changes_of contents.history.pages in
    let start : c.part-dropped.result.start ≡ part_start (length cs) contents.header.limit c.args.parts =
    c.part-dropped.ensures.start ∙ ap (λ (limit : ℕ). part_start (length cs) limit c.args.parts) c.items-limit.ensures.value in
    let all : suc (c.part-dropped.result.start - 1) ≡ c.args.parts * contents.header.limit = omega (arith, start, c.requires, c.if-dropped-eq0.false) in
    last_of_first contents.header.begin (c.part-dropped.result.start - 1) cs c.at.result.now c.at.ensures
    ∙ ap (λ (n : ℕ). last_moment contents.header.begin (take n cs)) all
