-- The exact bytes of every answer.
use Rattle.std.specs.Prelude.{ℕ, List, [], ◌∷◌, ◌++◌, length, codes, flat_map}
use Rattle.std.specs.Fmt.{decimal}
use Rattle.rs_time.specs.Moment.{moment_text}
use Rattle.rs_model.specs.declared.command.Reply.{Reply}
use Rattle.rs_model.specs.declared.command.Reply.TheVariants.{Created, Updated, Deleted, Published, Grouped}
use Rattle.rs_store.specs.Refusals.{refusal_word}
use Rattle.rs_store.specs.declared.reading.Status.{Status}
use Rattle.rs_script.specs.declared.refusal.Refusal.{Refusal}
use Rattle.rs_script.specs.declared.refusal.Refusal.TheVariants.{Line, LongLine, BadMoment, BadGroup, NoSuchDocument, Source}
use Rattle.rs_items.specs.Items.{fault_word}
use Rattle.rs_script.specs.Session.{LineOutcome, moment_set, replied, shown, counted, verified, refused}

-- a moment, and the end of the line
abbrev pub moment_end : ℕ → List ℕ
moment_end t = moment_text t ++ 10 ∷ []

abbrev pub reply_text : Reply → List ℕ
reply_text (Created t) = codes "created " ++ moment_end t
reply_text (Updated t) = codes "updated " ++ moment_end t
reply_text (Deleted t) = codes "deleted " ++ moment_end t
reply_text (Published number t) = (codes "published " ++ (decimal number ++ codes " ")) ++ moment_end t
reply_text (Grouped count t) = (codes "grouped " ++ (decimal count ++ codes " ")) ++ moment_end t

-- the word of a refusal
abbrev pub word_of : Refusal → List ℕ
word_of (Line fault) = fault_word fault
word_of LongLine = codes "LongLine"
word_of BadMoment = codes "BadMoment"
word_of BadGroup = codes "BadGroup"
word_of NoSuchDocument = codes "NoSuchDocument"
word_of (Source refusal) = refusal_word refusal

-- bytes, after their number
abbrev pub shown_text : List ℕ → List ℕ
shown_text bytes = (codes "bytes " ++ (decimal (length bytes) ++ codes "\n")) ++ (bytes ++ 10 ∷ [])

abbrev pub status_text : Status → List ℕ
status_text s =
    codes "resources " ++ (decimal s.resources ++ (codes " changes " ++ (decimal s.changes ++ (codes " publication " ++ (decimal s.publication ++ (codes " last " ++ moment_end s.last))))))

-- one damaged body
abbrev pub damaged_line : List ℕ → List ℕ
damaged_line name = codes "damaged " ++ (name ++ 10 ∷ [])

-- a line for every damaged body, and the number of sound bodies
abbrev pub verified_text : List (List ℕ) → ℕ → List ℕ
verified_text names sound = flat_map damaged_line names ++ (codes "verified " ++ (decimal sound ++ codes "\n"))

-- the answer to an outcome
abbrev pub outcome_text : LineOutcome → List ℕ
outcome_text moment_set = codes "ok\n"
outcome_text (replied reply) = reply_text reply
outcome_text (shown bytes) = shown_text bytes
outcome_text (counted status) = status_text status
outcome_text (verified names sound) = verified_text names sound
outcome_text (refused refusal) = codes "refused " ++ (word_of refusal ++ codes "\n")

-- the answers to outcomes in a row
abbrev pub output_of : List LineOutcome → List ℕ
output_of outcomes = flat_map outcome_text outcomes
