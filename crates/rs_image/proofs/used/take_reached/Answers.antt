use Rattle.rs_image.proofs.Reached.{can_bodies, can_pages, can_directory, taken_all}
use Rattle.rs_image.proofs.used.take_reached.Goals as goal

pub returns-then-not-take_bodies-clause-refused : goal.returns-then-not-take_bodies-clause-refused
returns-then-not-take_bodies-clause-refused c is can =
    c.take_bodies.ensures.refused c.if-not-take_bodies.true (can_bodies c.args.root.now c.args.contents.now c.in_ok-pages.pages.items c.in_ok-pages.ensures c.args.used.now can)

pub returns-then-not-take_pages-clause-refused : goal.returns-then-not-take_pages-clause-refused
returns-then-not-take_pages-clause-refused c is can =
    c.take_pages.ensures.refused c.if-not-take_pages.true (rw c.deref.ensures.value
    (can_pages c.args.root.now c.args.contents.now c.in_ok-pages.pages.items c.in_ok-pages.ensures c.args.used.now _ (c.take_bodies.ensures.taken c.if-not-take_bodies.false) can))

pub returns-clause-taken : goal.returns-clause-taken
returns-clause-taken c is =
    taken_all c.args.root.now c.args.contents.now c.in_ok-pages.pages.items c.in_ok-pages.ensures c.args.used.now c.take_bodies.new.used (c.take_bodies.ensures.taken c.if-not-take_bodies.false)
    c.take_pages.new.used c.take.new.used (rw c.deref.ensures.value at (c.take_pages.ensures.taken c.if-not-take_pages.false)) (c.take.ensures.taken is)

pub returns-clause-refused : goal.returns-clause-refused
returns-clause-refused c is can =
    c.take.ensures.refused is
    (can_directory c.args.root.now c.args.contents.now c.in_ok-pages.pages.items c.in_ok-pages.ensures c.args.used.now c.take_bodies.new.used (c.take_bodies.ensures.taken c.if-not-take_bodies.false)
    c.take_pages.new.used (rw c.deref.ensures.value at (c.take_pages.ensures.taken c.if-not-take_pages.false)) can)
