-- The reply to a command, by the change that it made.
use Rattle.std.specs.Prelude.{ℕ}
use Rattle.rs_record.specs.declared.change.Change.{Change}
use Rattle.rs_record.specs.declared.change.What.{What}
use Rattle.rs_record.specs.declared.change.What.TheVariants.{Created, Updated, Deleted}
use Rattle.rs_model.specs.declared.command.Reply.{Reply}
use Rattle.rs_model.specs.declared.command.Reply.TheVariants as replies

-- the reply to a command that did this at a moment
abbrev pub reply_that : What → ℕ → Reply
reply_that Created moment = replies.Created moment
reply_that Updated moment = replies.Updated moment
reply_that Deleted moment = replies.Deleted moment

-- the reply to the command that made a change
abbrev pub reply_of : Change → Reply
reply_of change = reply_that change.what change.moment
