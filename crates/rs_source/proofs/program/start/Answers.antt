-- Device comes only where no earlier refusal applies.
use Rattle.std.proofs.Common.{◌≡◌, ◌<◌, ℕ, sym, subst, IsTrue}
use Rattle.rs_record.specs.Base.{is_base}
use Rattle.rs_directory.specs.Limit.{IsLimit}
use Rattle.rs_image.specs.Reach.{blocks_of_disk}
use Rattle.rs_source.specs.Arguments.{error_of_format}
use Rattle.rs_source.specs.declared.program.ProgramError.TheVariants as errors
use Rattle.rs_source.proofs.Beginning.{device_alone, may_begin}
use Rattle.rs_source.proofs.program.start.Goals as goal

pub returns-clause-device : goal.returns-clause-device
returns-clause-device c = λ is.
    let base = c.args.base.now in
    let limit = c.args.limit in
    let told : error_of_format c.in-Err.fault ≡ errors.Device = cc (c.into.ensures, is) in
    let only = device_alone c.in-Err.fault told in
    may_begin base limit c.args.size
    (λ bad. only.0 (c.in-Err.ensures.bad_base.1 bad))
    (λ bad. only.1 (c.in-Err.ensures.bad_limit.1 bad))
    (λ bad. only.2 (c.in-Err.ensures.too_small.1 (subst (λ (n : ℕ). IsTrue (is_base base) × IsLimit limit × (blocks_of_disk n < 16)) (sym c.in_ok-disk.ensures.size) bad)))
