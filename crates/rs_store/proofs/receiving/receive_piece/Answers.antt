use Rattle.std.proofs.lemmas.Result.{err_from_is_err_and}
use Rattle.std.proofs.Common.{true≢false, ◌≡◌, [], ◌∷◌, length, refl, sym, ◌∙◌}
use Rattle.rs_store.proofs.FromBelow.{only_none, only_as, part_only}
use Rattle.rs_io.specs.Watch.{watched}
use Rattle.rs_store.specs.declared.refusal.Refusal.TheVariants.{Device}
use Rattle.rs_store.proofs.Received.{cut_stops, cut_not_device}
use Rattle.rs_store.proofs.receiving.receive_piece.Goals as goal

-- a cut of the reading is no fault of the device
pub returns-in_err-read_into-clause-writes : goal.returns-in_err-read_into-clause-writes
returns-in_err-read_into-clause-writes g c =
    let given = err_from_is_err_and c.from_residual.result c.from_residual.ensures.1 in
    let r = c.in_err-read_into.field-0.0 in
    let cut = c.in_err-read_into.ensures.cut in
    rw (given.1, given.2) (only_none (c.args.extent ∷ []) (g.D.Disk.state c.args.disk.now)
    (λ e. let is : r ≡ Device = cc in absurd (cut_not_device (length c.args.piece.now) (g.R.Read.remaining (watched c.read_into.new.reader)) cut.0 r cut.2 is)))

pub returns-in_err-read_into-clause-stopped : goal.returns-in_err-read_into-clause-stopped
returns-in_err-read_into-clause-stopped g c =
    let given = err_from_is_err_and c.from_residual.result c.from_residual.ensures.1 in
    let r = c.in_err-read_into.field-0.0 in
    let cut = c.in_err-read_into.ensures.cut in
    rw (given.1, given.2) (cut.0, cut.1, cut_stops (length c.args.piece.now) (g.R.Read.remaining (watched c.read_into.new.reader)) cut.0 r cut.2, cut.3)

pub returns-then-is_err-clause-writes : goal.returns-then-is_err-clause-writes
returns-then-is_err-clause-writes g c =
    let old = g.D.Disk.state c.args.disk.now in
    let new = g.D.Disk.state c.write_piece.new.disk in
    only_as (c.args.extent ∷ []) old new (λ _. refl) (λ _. sym c.is_err.ensures.value ∙ c.if-is_err.true) (part_only c.args.extent c.args.at _ old new c.write_piece.ensures.writes)

pub returns-clause-writes : goal.returns-clause-writes
returns-clause-writes g c =
    let old = g.D.Disk.state c.args.disk.now in
    let new = g.D.Disk.state c.write_piece.new.disk in
    only_as (c.args.extent ∷ []) old new (λ is. absurd (true≢false (sym is ∙ sym c.is_err.ensures.value ∙ c.if-is_err.false))) (λ is. absurd cc)
    (part_only c.args.extent c.args.at _ old new c.write_piece.ensures.writes)
