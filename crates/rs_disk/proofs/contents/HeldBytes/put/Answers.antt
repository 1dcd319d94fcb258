use Rattle.std.proofs.Common.{sym, ◌∙◌, ap, subst, List, ℕ, Bool, ◌≡◌, ◌++◌, length, take, drop, arith}
use Rattle.std.proofs.lemmas.List.{take_at}
use Rattle.rs_disk.specs.Medium.{Medium, IsMedium, over, marked, partly_written}
use Rattle.rs_disk.specs.Contents.{medium_of}
use Rattle.rs_disk.proofs.Images.{partly_written_medium}
use Rattle.rs_disk.proofs.contents.HeldBytes.put.Goals as goal

pub invariant_of-self : goal.invariant_of-self
invariant_of-self c =
    let d = c.args.self.now in
    let bytes = c.write_over.new.bytes in
    let places = c.mark.new.places in
    let seen : take d.seen.len (bytes ++ drop (length bytes) d.seen.items) ≡ over d.seen.items c.args.at c.args.bytes.now =
    take_at bytes (drop (length bytes) d.seen.items) d.seen.len (omega (arith, c.write_over.auto.bytes, c.deref_mut.ensures.len)) ∙ c.write_over.ensures ∙ ap (λ (l : List ℕ). over l c.args.at c.args.bytes.now) c.deref_mut.ensures.value in
    let unsettled : take d.unsettled.len (places ++ drop (length places) d.unsettled.items) ≡ marked d.unsettled.items c.args.at c.args.places =
    take_at places (drop (length places) d.unsettled.items) d.unsettled.len (omega (arith, c.mark.auto.places, c.deref_mut-2.ensures.len)) ∙ c.mark.ensures ∙ ap (λ (l : List Bool). marked l c.args.at c.args.places) c.deref_mut-2.ensures.value in
    let whole : IsMedium (length d.seen.items) (partly_written (medium_of d) c.args.at c.args.places c.args.bytes.now) =
    partly_written_medium (length d.seen.items) (medium_of d) c.args.at c.args.places c.args.bytes.now d.sound c.requires.range c.requires.front in
    let size : length d.seen.items ≡ length (over d.seen.items c.args.at c.args.bytes.now) = omega (arith, whole.settled, whole.image.size) in
    record {
      sound = subst (λ (m : Medium). IsMedium (length m.seen) m) (λ i. record { seen = sym seen i; settled = d.settled.items; unsettled = sym unsettled i })
          (subst (λ (n : ℕ). IsMedium n (partly_written (medium_of d) c.args.at c.args.places c.args.bytes.now)) size whole);
    }
