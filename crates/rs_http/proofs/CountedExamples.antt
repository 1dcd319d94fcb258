-- The command of a request that counts, computed.
use Rattle.std.proofs.Common.{false, [], ◌∷◌, refl, Ok}
use Rattle.std.specs.Prelude.{codes}
use Rattle.rs_model.specs.declared.command.Command.TheVariants as commands
use Rattle.rs_model.specs.declared.command.Reply.TheVariants.{Created, Deleted}
use Rattle.rs_store.specs.declared.refusal.Refusal.TheVariants.{Device}
use Rattle.rs_http.specs.declared.request.RequestPlan.TheVariants.{Put, Delete}
use Rattle.rs_http.specs.Counted.{Counts}
use Rattle.rs_http.specs.Responses.{replied, refused}

-- a deletion that was accepted
pub deleted_counts : Counts 7 (Ok (Delete (codes "a"))) [] (replied (Deleted 7)) ((commands.Delete (codes "a"), 7) ∷ [])
deleted_counts = refl

-- a put of two bytes that was accepted, and a put in which the device failed after its first byte
pub put_counts : Counts 7 (Ok (Put (codes "a") (codes "text/plain") 2 false)) (1 ∷ 2 ∷ []) (replied (Created 7)) ((commands.Put (codes "a") (codes "text/plain") (1 ∷ 2 ∷ []), 7) ∷ [])
put_counts = (1 ∷ 2 ∷ [], record { len = refl; front = refl }, refl)

pub broken_put_counts : Counts 7 (Ok (Put (codes "a") (codes "text/plain") 2 false)) (1 ∷ []) (refused Device) ((commands.Put (codes "a") (codes "text/plain") (1 ∷ 9 ∷ []), 7) ∷ [])
broken_put_counts = (1 ∷ 9 ∷ [], record { len = refl; front = refl }, refl)
