use Rattle.std.proofs.Common.{ap, ◌∙◌}
use Rattle.rs_model.specs.State.{Source}
use Rattle.rs_caps.specs.DocumentTexts.{document_text}
use Rattle.rs_caps.specs.Shows.{shown_of}
use Rattle.rs_recovery.proofs.laws.held_sources_show.Goals as goal

pub returns : goal.returns
returns g c source s doc held =
    let seen = (g.D.Disk.state source.disk).now.seen in
    let told = held.tells seen (g.met.D.Disk.holds source.disk).image in
    c.documents_are_of_the_state.ensures seen source.contents doc ∙ ap (λ (t : Source). document_text (shown_of t) doc) told.state
