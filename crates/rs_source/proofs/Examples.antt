-- A computed part of a walk: an event that is lawful.
use Rattle.std.proofs.Common.{[], refl, arith}
use Rattle.std.specs.Prelude.{codes}
use Rattle.rs_model.specs.Walk.{IsLawfulEvent}
use Rattle.rs_model.specs.declared.command.Command.TheVariants.{Put}
use Rattle.rs_model.specs.declared.event.Event.TheVariants.{Tried}

-- a put of no bytes, at the first moment
pub put_is_lawful : IsLawfulEvent (Tried (Put (codes "a") (codes "text/plain") []) 0)
put_is_lawful = (((refl, refl), omega arith), tt)
