-- The step of a command, runs of commands, and the mirror of a list and the changes after it.
use Rattle.std.specs.Prelude.{ℕ, suc, ◌+◌, ◌*◌, ◌/◌, ◌^◌, Bool, not, ◌&&◌, nat_lt, nat_le, max, List, [], ◌∷◌, ◌++◌, length, take, drop, Option, Some, None, is_some, is_none, Result, Ok, Err, if◌then◌else◌}
use Rattle.rs_time.specs.Moment.{greatest}
use Rattle.rs_record.specs.declared.facts.Facts.{Facts}
use Rattle.rs_record.specs.declared.change.Change.{Change}
use Rattle.rs_record.specs.Changes.{bound, deleted, last_moment}
use Rattle.rs_model.specs.declared.value.Entry.{Entry}
use Rattle.rs_model.specs.declared.command.Item.{Item}
use Rattle.rs_model.specs.declared.command.Item.TheVariants as single
use Rattle.rs_model.specs.declared.command.Command.{Command}
use Rattle.rs_model.specs.declared.command.Command.TheVariants.{Put, Delete, Publish, Group}
use Rattle.rs_model.specs.declared.command.Reply.{Reply}
use Rattle.rs_model.specs.declared.command.Reply.TheVariants as replies
use Rattle.rs_model.specs.declared.command.Refusal.{Refusal}
use Rattle.rs_model.specs.declared.command.Refusal.TheVariants.{BadGroup, TooLong, NotHeld, TooManyResources, TooManyChanges, Exhausted}
use Rattle.rs_model.specs.Names.{Names, value_of, bind, unbind}
use Rattle.rs_record.specs.Limits.{longest_body}
use Rattle.rs_model.specs.State.{Source, facts_of, entries, most_resources, most_changes, most_grouped}

-- the refusal of the first cause that holds
abbrev pub first_cause : List (Bool × Refusal) → Option Refusal
first_cause [] = None
first_cause (c ∷ cs) = if c.0 then Some c.1 else first_cause cs

-- the name is held
abbrev pub is_held : Source → List ℕ → Bool
is_held s name = is_some (value_of name s.held)

-- no moment is left
abbrev pub is_out_of_moments : Source → Bool
is_out_of_moments s = nat_le greatest s.last

-- the number of changes, from the first on, that are not after this moment
abbrev pub passed_by : ℕ → List Change → ℕ
passed_by moment [] = 0
passed_by moment (c ∷ cs) = if nat_le c.moment moment then suc (passed_by moment cs) else 0

-- The number of parts that a publication drops: the full ones whose last change is not after the publication before it.
abbrev pub dropped_parts : Source → ℕ
dropped_parts s = passed_by s.at s.changes / s.limit

-- the number of changes in these parts
abbrev pub dropped_changes : Source → ℕ
dropped_changes s = dropped_parts s * s.limit

-- no number is left for the first part that a publication keeps: never so in a regular state
abbrev pub is_out_of_parts : Source → Bool
is_out_of_parts s = nat_lt greatest (s.first + dropped_parts s)

-- there is no room for one more change
abbrev pub has_all_changes : Source → Bool
has_all_changes s = nat_le most_changes (length s.changes)

-- The causes for which a put is refused, in their order: too long a body, a new name where all resources are held, all
-- changes are kept, no moment is left.
abbrev pub put_causes : Source → List ℕ → List ℕ → List (Bool × Refusal)
put_causes s name bytes =
    (nat_lt longest_body (length bytes), TooLong)
    ∷ (is_none (value_of name s.held) && nat_le most_resources (length s.held), TooManyResources)
    ∷ (has_all_changes s, TooManyChanges) ∷ (is_out_of_moments s, Exhausted) ∷ []

-- The causes of a delete: a name that is not held, then the same causes of changes and moments.
abbrev pub delete_causes : Source → List ℕ → List (Bool × Refusal)
delete_causes s name =
    (is_none (value_of name s.held), NotHeld) ∷ (has_all_changes s, TooManyChanges) ∷ (is_out_of_moments s, Exhausted) ∷ []

-- The causes of a publish: no moment or no number is left, of publications or of parts.
abbrev pub publish_causes : Source → List (Bool × Refusal)
publish_causes s = (is_out_of_moments s, Exhausted) ∷ (nat_le (2 ^ 64) (s.number + 1), Exhausted) ∷ (is_out_of_parts s, Exhausted) ∷ []

-- The causes of an item of a group: those of the command that it would be alone.
abbrev pub item_causes : Source → Item → List (Bool × Refusal)
item_causes s (single.Put name kind bytes) = put_causes s name bytes
item_causes s (single.Delete name) = delete_causes s name

-- the moment of an accepted command that comes at `now`
abbrev pub moment_at : Source → ℕ → ℕ
moment_at s now = max now (s.last + 1)

-- the change that a put appends
abbrev pub put_change : Source → List ℕ → Facts → ℕ → Change
put_change s name facts t = bound name (is_held s name) t facts

-- the state after an accepted put at its moment
abbrev pub after_put : Source → List ℕ → List ℕ → List ℕ → ℕ → Source
after_put s name kind bytes t =
    record s {
      last = t;
      held = bind name (record { bytes = bytes; entry = record { facts = facts_of kind bytes; moment = t } }) s.held;
      changes = s.changes ++ put_change s name (facts_of kind bytes) t ∷ [];
    }

-- the state after an accepted delete at its moment
abbrev pub after_delete : Source → List ℕ → ℕ → Source
after_delete s name t = record s { last = t; held = unbind name s.held; changes = s.changes ++ deleted name t ∷ [] }

-- the state after an item at its moment: the state after the command that it would be alone
abbrev pub after_item : Source → Item → ℕ → Source
after_item s (single.Put name kind bytes) t = after_put s name kind bytes t
after_item s (single.Delete name) t = after_delete s name t

-- the state after these items in their order; all come at `now`, so every item gets a moment of its own
abbrev pub after_items : Source → List Item → ℕ → Source
after_items s [] now = s
after_items s (item ∷ items) now = after_items (after_item s item (moment_at s now)) items now

-- the causes for which items in their order are refused; all come at `now`, and the causes of an item are those in the
-- state after the items before it
abbrev pub items_causes : Source → List Item → ℕ → List (Bool × Refusal)
items_causes s [] now = []
items_causes s (item ∷ items) now = item_causes s item ++ items_causes (after_item s item (moment_at s now)) items now

-- a bad group: it does not have 1 to 16 items
abbrev pub is_bad_group : List Item → Bool
is_bad_group items = not (nat_le 1 (length items) && nat_le (length items) most_grouped)

-- The causes for which a command that comes at `now` is refused, in their order. A group: too many items or none, and
-- then the causes of its items.
abbrev pub causes : Source → Command → ℕ → List (Bool × Refusal)
causes s (Put name kind bytes) now = put_causes s name bytes
causes s (Delete name) now = delete_causes s name
causes s Publish now = publish_causes s
causes s (Group items) now = (is_bad_group items, BadGroup) ∷ items_causes s items now

-- the refusal of the command that comes at `now`, if it is refused
abbrev pub refusal_of : Source → Command → ℕ → Option Refusal
refusal_of s command now = first_cause (causes s command now)

-- the refusal of a put or a delete that the resources allow: all changes are kept, or no moment is left
abbrev pub change_refusal : Source → Option Refusal
change_refusal s = first_cause ((has_all_changes s, TooManyChanges) ∷ (is_out_of_moments s, Exhausted) ∷ [])

-- the state after an accepted command at its moment, which is that of the first item of a group
abbrev pub next_state : Source → Command → ℕ → Source
next_state s (Put name kind bytes) t = after_put s name kind bytes t
next_state s (Delete name) t = after_delete s name t
next_state s Publish t =
    record s {
      last = t;
      number = s.number + 1;
      at = t;
      listed = entries s.held;
      first = s.first + dropped_parts s;
      begin = last_moment s.begin (take (dropped_changes s) s.changes);
      changes = drop (dropped_changes s) s.changes;
    }
next_state s (Group items) t = after_items s items t

-- the reply to an accepted command at its moment
abbrev pub reply_to : Source → Command → ℕ → Reply
reply_to s (Put name kind bytes) t = if is_held s name then replies.Updated t else replies.Created t
reply_to s (Delete name) t = replies.Deleted t
reply_to s Publish t = replies.Published (s.number + 1) t
reply_to s (Group items) t = replies.Grouped (length items) t

-- the next state and the reply, unless there is a refusal
abbrev pub accepted_unless : Option Refusal → Source × Reply → Result (Source × Reply) Refusal
accepted_unless None next = Ok next
accepted_unless (Some refusal) next = Err refusal

-- the answer to a command that comes at `now`
abbrev pub step : Source → Command → ℕ → Result (Source × Reply) Refusal
step s command now =
    let t = moment_at s now in
    accepted_unless (refusal_of s command now) (next_state s command t, reply_to s command t)

-- the state after an answer: the next one, or the same where the command is refused
abbrev pub state_after : Source → Result (Source × Reply) Refusal → Source
state_after s (Ok next) = next.0
state_after s (Err refusal) = s

-- the state after these commands in their order, at the moments at which they come; refused ones are skipped
abbrev pub fold_of : Source → List (Command × ℕ) → Source
fold_of s [] = s
fold_of s (c ∷ commands) = fold_of (state_after s (step s c.0 c.1)) commands

-- the map after a change: the name is bound to its facts and moment, or unbound
abbrev pub applied : Option Facts → Change → Names Entry → Names Entry
applied (Some facts) change m = bind change.name (record { facts = facts; moment = change.moment }) m
applied None change m = unbind change.name m

-- the map after a change that is after this moment
abbrev pub mirror_step : ℕ → Change → Names Entry → Names Entry
mirror_step at change m = if nat_lt at change.moment then applied change.facts change m else m

-- the listed entries, changed in order by every one of these changes that is after the moment of the list
abbrev pub mirror_of : Names Entry → ℕ → List Change → Names Entry
mirror_of listed at [] = listed
mirror_of listed at (change ∷ changes) = mirror_of (mirror_step at change listed) at changes
