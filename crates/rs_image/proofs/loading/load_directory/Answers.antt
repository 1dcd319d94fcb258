use Rattle.std.proofs.Common.{true≢false, ◌≡◌, length, sym, ap, ◌∙◌, Err}
use Rattle.rs_image.proofs.Found.{size_seen, malformed, body_read, refuses_memory, read_behind, untold, untold_pages, untold_first}
use Rattle.rs_image.proofs.loading.load_directory.Goals as goal

-- the pages of lists that the root describes are placed
pub returns-then-not-names_placed-clause-damaged : goal.returns-then-not-names_placed-clause-damaged
returns-then-not-names_placed-clause-damaged g c is honest =
    let new = g.D.Disk.state c.read_body.new.disk in
    let long : c.size-2.result ≡ length new.now.seen = c.size-2.ensures ∙ size_seen new.size new.now (g.met.D.Disk.holds c.read_body.new.disk) in
    untold_pages c.args.root.now _ new.now.seen c.size-2.result
    (body_read c.args.root.now _ _ c.deref.result.now _ (g.D.Disk.state c.args.disk.now) new c.in_ok-read_body.ensures.body c.deref.ensures.value honest) long
    (λ pages names all. true≢false (sym ((c.names_placed.ensures pages names).1 all) ∙ c.if-not-names_placed.true))

pub returns-in-Err-clause-damaged : goal.returns-in-Err-clause-damaged
returns-in-Err-clause-damaged g c is honest =
    let new = g.D.Disk.state c.read_body.new.disk in
    untold c.args.root.now _ new.now.seen
    (body_read c.args.root.now _ _ c.deref-2.result.now _ (g.D.Disk.state c.args.disk.now) new c.in_ok-read_body.ensures.body c.deref-2.ensures.value honest)
    (c.in-Err.ensures.malformed.0 (ap Err (malformed c.in-Err.fault c.fault_of_fields.result c.fault_of_fields.ensures is)))

-- a history that the root describes can begin with its first part
pub returns-then-not-has_first_part-clause-damaged : goal.returns-then-not-has_first_part-clause-damaged
returns-then-not-has_first_part-clause-damaged g c is honest =
    let new = g.D.Disk.state c.read_body.new.disk in
    untold_first c.args.root.now c.in-Ok.directory new.now.seen c.in-Ok.ensures.found.lawful
    (body_read c.args.root.now _ _ c.deref-2.result.now _ (g.D.Disk.state c.args.disk.now) new c.in_ok-read_body.ensures.body c.deref-2.ensures.value honest
    ∙ c.in-Ok.ensures.found.spelled)
    (λ can. true≢false (sym (c.has_first_part.ensures.1 can) ∙ c.if-not-has_first_part.true))

-- all pages that the bytes name were found placed
pub returns-in-Err-clause-no_memory : goal.returns-in-Err-clause-no_memory
returns-in-Err-clause-no_memory g c is =
    refuses_memory c.args.root.now _ c.deref.result.now _ (g.D.Disk.state c.args.disk.now) (g.D.Disk.state c.read_body.new.disk) c.in_ok-read_body.ensures.body c.deref.ensures.value
    c.size.result c.size-2.result c.size.ensures c.size-2.ensures (c.is_placed.ensures.0 c.if-not-is_placed.false) (λ pages names. (c.names_placed.ensures pages names).0 c.if-not-names_placed.false)

pub returns-clause-found : goal.returns-clause-found
returns-clause-found g c =
    read_behind c.args.root.now _ c.deref.result.now _ (g.D.Disk.state c.args.disk.now) (g.D.Disk.state c.read_body.new.disk) c.in_ok-read_body.ensures.body c.deref.ensures.value
    c.size.result c.size-2.result c.size.ensures c.size-2.ensures (c.is_placed.ensures.0 c.if-not-is_placed.false) (λ pages names. (c.names_placed.ensures pages names).0 c.if-not-names_placed.false)
    c.in-Ok.directory c.deref-2.result.now c.deref-2.ensures.value c.in-Ok.ensures.found (c.has_first_part.ensures.0 c.if-not-has_first_part.false)
