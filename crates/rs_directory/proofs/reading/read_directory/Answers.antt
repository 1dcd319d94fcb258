-- The meaning of every outcome for the bytes.
use Rattle.std.proofs.Common.{refl, sym, subst, arith}
use Rattle.std.proofs.lemmas.Result.{err_from_is_err_and}
use Rattle.rs_directory.specs.declared.header.Header.{Header}
use Rattle.rs_directory.specs.Directory.{IsDirectory}
use Rattle.rs_directory.proofs.OneDirectory as one
use Rattle.rs_directory.proofs.reading.read_directory.Goals as goal

pub returns-in_default-clause-malformed : goal.returns-in_default-clause-malformed
returns-in_default-clause-malformed c = (λ _. one.no_header _ _ (λ i. omega (arith, c.type_inv.bytes i)) c.in_default.ensures, λ _. refl)

pub returns-in_default-entries_at-clause-malformed : goal.returns-in_default-entries_at-clause-malformed
returns-in_default-entries_at-clause-malformed c =
    (λ _. one.no_entries _ _ (λ i. omega (arith, c.type_inv.bytes i)) _ _ c.in-Some.ensures c.in_default-entries_at.ensures, λ _. refl)

pub returns-in_err-header-clause-malformed : goal.returns-in_err-header-clause-malformed
returns-in_err-header-clause-malformed c =
    let p = err_from_is_err_and c.from_residual.result c.from_residual.ensures.1 in
    rw (p.1, p.2) (
      λ malformed. one.no_base _ _ (λ i. omega (arith, c.type_inv.bytes i)) _ _ c.in-Some.ensures (c.in_err-header.ensures.malformed.0 (cc)),
      λ none.
          let bad = one.bad_base _ _ (λ i. omega (arith, c.type_inv.bytes i)) _ _ _ _ c.in-Some.ensures c.in-Some-entries_at.ensures none in
          cc (c.in_err-header.ensures.malformed.1 bad),
    )

pub lists_of-requires : goal.lists_of-requires
lists_of-requires c = one.size_read _ _ (λ i. omega (arith, c.type_inv.bytes i)) _ _ _ _ c.in-Some.ensures c.in-Some-entries_at.ensures

pub returns-in_default-lists_of-clause-malformed : goal.returns-in_default-lists_of-clause-malformed
returns-in_default-lists_of-clause-malformed c = (
  λ e. absurd cc,
  λ none. absurd
      (one.not_none _ _ (λ i. omega (arith, c.type_inv.bytes i)) _ _ _ _ c.in-Some.ensures c.in-Some-entries_at.ensures c.in_ok-header.ensures.lawful none),
)

pub returns-clause-found : goal.returns-clause-found
returns-clause-found c =
    let catalogue = c.in-Ok.catalogue.items in
    let changes = c.in-Ok.changes.items in
    let published = c.in-Ok.published.items in
    subst (λ (h : Header). IsDirectory c.args.version c.args.bytes.now h catalogue changes published) (sym c.in_ok-header.ensures.value)
    (one.is_directory _ _ (λ i. omega (arith, c.type_inv.bytes i)) _ _ _ _ catalogue changes published c.in-Some.ensures c.in-Some-entries_at.ensures
    c.in_ok-header.ensures.lawful c.in-Ok.ensures)

pub returns-clause-malformed : goal.returns-clause-malformed
returns-clause-malformed c = (
  λ e. absurd cc,
  λ none. absurd
      (one.not_none _ _ (λ i. omega (arith, c.type_inv.bytes i)) _ _ _ _ c.in-Some.ensures c.in-Some-entries_at.ensures c.in_ok-header.ensures.lawful none),
)
