-- The reported outcomes of the statements of a script, computed: a command comes at the moment that an `at` before it
-- sets, and a `status` that deletes a resource is no `status`.
use Rattle.std.proofs.Common.{◌≡◌, ℕ, List, [], ◌∷◌, Some, None, Result, Ok, Err, refl}
use Rattle.std.specs.Prelude.{codes}
use Rattle.rs_model.specs.declared.command.Command.{Command}
use Rattle.rs_model.specs.declared.command.Command.TheVariants.{Delete, Publish}
use Rattle.rs_model.specs.declared.command.Reply.TheVariants.{Deleted}
use Rattle.rs_store.specs.declared.refusal.Refusal.TheVariants.{Device}
use Rattle.rs_record.specs.Decimal.{number_in}
use Rattle.rs_items.specs.Fields.{fields}
use Rattle.rs_items.specs.Items.{item_of_line}
use Rattle.rs_recovery.specs.Replies.{AnsweredCommand, replies_in}
use Rattle.rs_script.specs.declared.refusal.Refusal.{Refusal}
use Rattle.rs_script.specs.declared.refusal.Refusal.TheVariants as refusals
use Rattle.rs_script.specs.declared.request.Request.{Request}
use Rattle.rs_script.specs.declared.request.Request.TheVariants.{Run, Status}
use Rattle.rs_script.specs.Requests.{request_of}
use Rattle.rs_script.specs.Session.{LineOutcome, moment_set, replied, shown, refused}
use Rattle.rs_script.specs.Statements.{single}
use Rattle.rs_script.specs.Told.{DoneStatement, IsOwnOutcome, IsStatementOutcome, AreDone, commands_of, acks_of}

-- `at 5`, then `delete a`, then a `publish` in which the device fails
abbrev done : List DoneStatement
done =
    record { statement = single (codes "at 5"); got = None; outcome = moment_set }
    ∷ record {
      statement = single (codes "delete a");
      got = Some (record { asked = (Delete (codes "a"), 5); ack = record { reply = Ok (Deleted 5); at_call = 15 } });
      outcome = replied (Deleted 5);
    }
    ∷ record {
      statement = single (codes "publish");
      got = Some (record { asked = (Publish, 5); ack = record { reply = Err Device; at_call = 18 } });
      outcome = refused (refusals.Source Device);
    }
    ∷ []

pub worked_statements : AreDone 0 done
unfolding request_of item_of_line fields number_in
worked_statements = (tt, ((refl, refl, refl), ((refl, refl, refl), tt)))

pub worked_commands : (commands_of done ≡ (Delete (codes "a"), 5) ∷ (Publish, 5) ∷ []) × (replies_in (acks_of done) ≡ Deleted 5 ∷ [])
worked_commands = (refl, refl)

-- a line that asks for no command gives none, whatever is reported
asks_other : (request : Result Request Refusal) (command : Command) → request ≡ Ok Status → request ≡ Ok (Run command) → ⊥
asks_other request command is other = absurd cc

pub status_asks_nothing : (now : ℕ) (got : AnsweredCommand) (outcome : LineOutcome) → IsStatementOutcome (request_of (codes "status")) now (Some got) outcome → ⊥
unfolding request_of fields
status_asks_nothing now got outcome is = asks_other (Ok Status) got.asked.0 refl is.0

-- a `delete` shows no bytes, and its only own outcome is a refusal
pub delete_shows_nothing : (bytes : List ℕ) → IsOwnOutcome (request_of (codes "delete a")) (shown bytes) → ⊥
unfolding request_of item_of_line fields
delete_shows_nothing bytes own = own
