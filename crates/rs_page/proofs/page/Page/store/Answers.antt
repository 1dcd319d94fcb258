-- The body goes to the blocks that the page was given.
use Rattle.std.proofs.Common.{rules, ◌≡◌, ℕ, [], ◌∷◌, sym, subst}
use Rattle.std.specs.List.{cons_option}
use Rattle.rs_disk.specs.Medium.{DiskState}
use Rattle.rs_extent.specs.declared.Extent.{Extent}
use Rattle.rs_body.specs.Outside.{WritesOnly, WritesPart}
use Rattle.rs_page.proofs.FromBelow.{only_as, part_only}
use Rattle.rs_page.specs.declared.place.Place.{Place}
use Rattle.rs_page.specs.declared.place.Place.TheVariants.{Placed}
use Rattle.rs_page.specs.Pages.{placed_extent}
use Rattle.rs_page.proofs.page.Page.store.Goals as goal

written : {A B : Type 0} (place : Place) (extent : Extent) (n : ℕ) (old new : DiskState) → place ≡ Placed extent → (A → B) → (B → A)
    → WritesPart extent 0 n A old new → WritesOnly (cons_option (placed_extent place) []) B old new
written {A} {B} place extent n old new is to from run =
    subst (λ (p : Place). WritesOnly (cons_option (placed_extent p) []) B old new) (sym is) (only_as (extent ∷ []) old new to from (part_only extent 0 n old new run))

pub returns-clause-writes : goal.returns-clause-writes
returns-clause-writes g c =
    written c.args.self.now.place c.in-Placed.extent _ (g.D.Disk.state c.args.disk.now) (g.D.Disk.state c.write_body.new.disk) (search rules) (search rules) (search rules) c.in_ok-write_body.ensures.writes

pub returns-in_err-write_body-clause-writes : goal.returns-in_err-write_body-clause-writes
returns-in_err-write_body-clause-writes g c =
    written c.args.self.now.place c.in-Placed.extent _ (g.D.Disk.state c.args.disk.now) (g.D.Disk.state c.write_body.new.disk) (search rules) (λ _. search rules) (λ _. search rules) c.in_err-write_body.ensures.writes
