use Rattle.std.proofs.Common.{◌≡◌, inl, inr, ⊎_elim, refl, ◌∙◌, subst, Result}
use Rattle.rs_image.specs.Rooted.{Rooted}
use Rattle.rs_copy.specs.Copies.{Copies, Disks}
use Rattle.rs_copy.specs.declared.copying.Copied.{Copied}
use Rattle.rs_copy.specs.declared.faults.CopyFault.{CopyFault}
use Rattle.rs_store.specs.OnlyReads.{OnlyReads}
use Rattle.rs_store.specs.Source.{Stored, rooted_in}
use Rattle.rs_store.specs.Copied.{AnswersCopy}
use Rattle.rs_store.proofs.Copied.{copied_so, refused_so}
use Rattle.rs_store.proofs.source.Source.copy_to.Goals.{in-Ok, in-Err}
use Rattle.rs_store.proofs.source.Source.copy_to.Goals as goal

pub returns : goal.returns
returns g c =
    let device = g.D.Disk.state in
    let other = g.E.Disk.state in
    let o : Stored g.row.D.Denot = record { disk = c.self.inside.disk; slots = c.self.inside.slots; contents = c.self.inside.contents; is_closed = c.self.inside.is_closed } in
    let new : Stored g.row.D.Denot = record { disk = c.copy_source.new.from; slots = c.self.inside.slots; contents = c.self.inside.contents; is_closed = c.self.inside.is_closed } in
    let to = c.args.disk in
    let disk = c.copy_source.new.to in
    let before : Disks = record { from = device o.disk; to = other to } in
    let after : Disks = record { from = device new.disk; to = other disk } in
    let here : Copies (rooted_in device o) before after c.copy_source.result =
    subst (λ (r : Rooted). Copies r before after c.copy_source.result) c.rooted_by-rooted.ensures c.copy_source.ensures.copies in
    let only : OnlyReads device o new = record { slots = refl; contents = refl; is_closed = refl; rests = here.rests } in
    subst (λ (s : Stored g.row.D.Denot). AnswersCopy device other s new to c.match-copy_source.result) c.self.view_is
    (elim c.match-copy_source.branch [
      | in-Ok w ↦ rw w.result-is
          (copied_so device other o to g.met.D.Disk.holds c.if-self.false new only disk w.in-Ok.copied
          (subst (λ (r : Result Copied CopyFault). Copies (rooted_in device o) before after r) w.in-Ok.is here))
      | in-Err w ↦ rw w.result-is
          (refused_so device other o to g.met.D.Disk.holds c.if-self.false new only disk w.in-Err.fault
          (subst (λ (r : Result Copied CopyFault). Copies (rooted_in device o) before after r) w.in-Err.is here)
          (λ early. c.copy_source.ensures.untouched (⊎_elim (λ small. inl (w.in-Err.is ∙ small)) (λ full. inr (w.in-Err.is ∙ full)) early))
          (λ early.
          let left : c.copy_source.new.from ≡ c.self.inside.disk = c.copy_source.ensures.unread (⊎_elim (λ small. inl (w.in-Err.is ∙ small)) (λ full. inr (w.in-Err.is ∙ full)) early) in
          λ i. record { disk = left i; slots = c.self.inside.slots; contents = c.self.inside.contents; is_closed = c.self.inside.is_closed }))
    ])
