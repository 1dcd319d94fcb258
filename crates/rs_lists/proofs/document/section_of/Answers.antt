-- A document as a section of its list, by its kind.
use Rattle.std.proofs.Common.{◌≡◌, ◌∙◌, sym, ap, Some, None}
use Rattle.std.specs.Option.{option_map}
use Rattle.rs_lists.specs.Sections.{section_text}
use Rattle.rs_lists.proofs.Documents.{resource_head_is, resource_part_has, resource_part_old, change_head_is, change_part_has, others_absent}
use Rattle.rs_lists.proofs.document.section_of.Goals as goal

pub returns-in-ResourceHead-clause-text : goal.returns-in-ResourceHead-clause-text
returns-in-ResourceHead-clause-text g c = sym (resource_head_is (g.V.View.shown c.args.view.now) c.args.doc c.in-ResourceHead.is)

pub returns-then-publication-number-clause-text : goal.returns-then-publication-number-clause-text
returns-then-publication-number-clause-text g c =
    resource_part_old (g.V.View.shown c.args.view.now) c.args.doc _ _ c.in-ResourcePart.is (λ e. c.if-publication-number.true (e ∙ sym c.number.ensures))

pub returns-in_err-place-in-ResourcePart-clause-text : goal.returns-in_err-place-in-ResourcePart-clause-text
returns-in_err-place-in-ResourcePart-clause-text g c =
    let s = g.V.View.shown c.args.view.now in
    ap (option_map (section_text s)) c.from_residual.ensures
    ∙ resource_part_has s c.args.doc _ _ _ None c.in-ResourcePart.is (c.if-publication-number.false ∙ c.number.ensures) c.resource_parts.ensures c.in_err-place-in-ResourcePart.ensures

pub returns-in_ok-place-in-ResourcePart-clause-text : goal.returns-in_ok-place-in-ResourcePart-clause-text
returns-in_ok-place-in-ResourcePart-clause-text g c =
    resource_part_has (g.V.View.shown c.args.view.now) c.args.doc _ _ _ (Some c.in_ok-place-in-ResourcePart.place) c.in-ResourcePart.is
    (c.if-publication-number.false ∙ c.number.ensures) c.resource_parts.ensures c.in_ok-place-in-ResourcePart.ensures

pub returns-in-ChangeHead-clause-text : goal.returns-in-ChangeHead-clause-text
returns-in-ChangeHead-clause-text g c = sym (change_head_is (g.V.View.shown c.args.view.now) c.args.doc c.in-ChangeHead.is)

pub returns-in_err-place-in-ChangePart-clause-text : goal.returns-in_err-place-in-ChangePart-clause-text
returns-in_err-place-in-ChangePart-clause-text g c =
    let s = g.V.View.shown c.args.view.now in
    ap (option_map (section_text s)) c.from_residual-in_err-place-in-ChangePart.ensures
    ∙ change_part_has s c.args.doc _ _ _ None c.in-ChangePart.is c.change_parts.ensures c.first.ensures c.in_err-place-in-ChangePart.ensures

pub returns-in_ok-place-in-ChangePart-clause-text : goal.returns-in_ok-place-in-ChangePart-clause-text
returns-in_ok-place-in-ChangePart-clause-text g c =
    change_part_has (g.V.View.shown c.args.view.now) c.args.doc _ _ _ (Some c.in_ok-place-in-ChangePart.place) c.in-ChangePart.is
    c.change_parts.ensures c.first.ensures c.in_ok-place-in-ChangePart.ensures

pub returns-in-Description-clause-text : goal.returns-in-Description-clause-text
returns-in-Description-clause-text g c = others_absent (g.V.View.shown c.args.view.now) c.args.doc c.in-Description.is
