-- The end of the input: its last line, and a group within which it ends.
use Rattle.std.proofs.Common.{◌≡◌, ℕ, ◌<◌, List, [], ◌∷◌, ◌++◌, length, map, Option, Some, None, refl, ap, sym, ◌∙◌, append-nil, arith, subst}
use Rattle.std.specs.Prelude.{Result, Ok, Err, OnOk, OnErr}
use Rattle.rs_disk.specs.Medium.{DiskState}
use Rattle.rs_io.specs.declared.watch.Watched.{Watched}
use Rattle.rs_io.specs.Watch.{Wrote, WritesOut}
use Rattle.rs_store.specs.Source.{Stored}
use Rattle.rs_script.specs.declared.group.Taking.{Taking}
use Rattle.rs_script.specs.declared.refusal.Refusal.TheVariants.{BadGroup}
use Rattle.rs_script.specs.Answers.{outcome_text}
use Rattle.rs_script.specs.Lines.{Splits, script_lines}
use Rattle.rs_items.specs.Lines.{cut_return, last_line}
use Rattle.rs_script.specs.PartialLine.{KeepsLine}
use Rattle.rs_script.specs.Progress.{LinesTaken, Beginning, Stand, stand, session_at, between_at, Progress, Ended, EndsLine, EndsAt, StopsAt}
use Rattle.rs_script.specs.Script.{Transcript, ScriptGives}
use Rattle.rs_script.specs.Session.{ScriptState, refused, unchanged}
use Rattle.rs_script.specs.Statements.{Statement, cut_off, last_statement, IsScript}
use Rattle.rs_script.specs.Taken.{KeepsGroup}
use Rattle.rs_script.proofs.Grouped.{kept_part, none_kept}
use Rattle.rs_script.proofs.Steps.{Takes, Transcript-append, wrote_more, lines_as, lines_then, broke_within, broke_line}

last_line-some : (rest : List ℕ) → 0 < length rest → last_line rest ≡ rest ∷ []
last_line-some [] h = absurd (omega arith)
last_line-some (b ∷ rest) h = refl

-- all statements are whole
all_statements : {D W : Type 0} (device : D → DiskState) (start : ScriptState (Stored D)) (input : List ℕ) (raws : List (List ℕ)) (rest : List ℕ) (here : Stand D W) → Splits input raws rest
    → (t : LinesTaken device start (script_lines raws rest) (between_at here)) → IsScript input (t.whole ++ last_statement t.part)
all_statements device start input raws rest here splits t = record {
  raws = raws;
  rest = rest;
  splits = splits;
  whole = t.whole;
  part = t.part;
  groups = record { all = t.lines_are; each = t.each; partial = kept_part here.pending.between.group t.part t.kept };
  statements_are = refl;
}

-- and no group was cut off
whole_given : {D W : Type 0} (device : D → DiskState) (start : ScriptState (Stored D)) (input : List ℕ) (raws : List (List ℕ)) (rest : List ℕ) (here : Stand D W) → Splits input raws rest
    → here.pending.between.group ≡ None → (t : LinesTaken device start (script_lines raws rest) (between_at here)) → ScriptGives device start input t.outcomes t.commands (session_at here)
whole_given device start input raws rest here splits none t =
    let same : t.whole ++ last_statement t.part ≡ t.whole = ap (λ l. t.whole ++ last_statement l) (none_kept here.pending.between.group t.part none t.kept) ∙ append-nil t.whole in
    (t.whole, subst (λ (l : List Statement). IsScript input l) same (all_statements device start input raws rest here splits t), t.answered)

-- the last line, which no line feed ended, is one line more
abbrev last_taken : {D W : Type 0} (device : D → DiskState) (contents : W → Option (List ℕ)) (begin : Beginning D W) (input : List ℕ) (old new : Stand D W)
    → ((raw : List ℕ) → KeepsLine old.pending.line raw → 0 < length raw) → (p : Progress device contents begin input old)
    → LinesTaken device (between_at old).session (p.taken.part ++ p.rest ∷ []) (between_at new) → LinesTaken device begin.session (script_lines p.raws p.rest) (between_at new)
last_taken device contents begin input old new some p e =
    lines_then device begin.session (map cut_return p.raws) (script_lines p.raws p.rest) p.rest (between_at old) (between_at new)
    (ap (λ l. map cut_return p.raws ++ l) (last_line-some p.rest (some p.rest p.kept))) p.taken e

pub last_ok : {T E D W : Type 0} (device : D → DiskState) (contents : W → Option (List ℕ)) (r : Result T E) (old new : Stand D W)
    → ((raw : List ℕ) → KeepsLine old.pending.line raw → 0 < length raw)
    → Takes device contents r old.pending.line (λ raw. raw) old new → OnOk r (EndsLine device contents old new)
last_ok device contents (Err e) old new some given = tt
last_ok device contents (Ok x) old new some given = λ begin input p.
    let e = given p.rest p.kept p.taken.part p.taken.kept in
    record {
      raws = p.raws;
      rest = p.rest;
      splits = p.splits;
      taken = last_taken device contents begin input old new some p e.0;
      written = wrote_more contents begin.writer old.writer new.writer p.taken.outcomes e.0.outcomes p.written e.2;
    }

pub last_err : {T E D W : Type 0} (device : D → DiskState) (contents : W → Option (List ℕ)) (r : Result T E) (old new : Stand D W)
    → ((raw : List ℕ) → KeepsLine old.pending.line raw → 0 < length raw)
    → Takes device contents r old.pending.line (λ raw. raw) old new → OnErr r (new.pending.between.group ≡ None) → OnErr r (StopsAt device contents old new)
last_err device contents (Ok x) old new some given stopped = tt
last_err device contents (Err e) old new some given stopped = λ begin input p.
    let e = given p.rest p.kept p.taken.part p.taken.kept in
    let all = last_taken device contents begin input old new some p e.0 in
    let none = none_kept new.pending.between.group e.0.part stopped e.0.kept in (
      all.outcomes,
      all.commands,
      whole_given device begin.session input p.raws p.rest new p.splits stopped all,
      broke_line device contents p.taken.part p.rest (between_at old).session (between_at new) begin.writer old.writer new.writer p.taken.outcomes e.0 none e.1 p.written e.2,
    )

-- the input ended right after a line feed, or is empty
pub last_none : {D W : Type 0} (device : D → DiskState) (contents : W → Option (List ℕ)) (here : Stand D W) → ((raw : List ℕ) → KeepsLine here.pending.line raw → raw ≡ [])
    → EndsLine device contents here here
last_none device contents here none = λ begin input p. record {
  raws = p.raws;
  rest = p.rest;
  splits = p.splits;
  taken = lines_as device begin.session (map cut_return p.raws) (script_lines p.raws p.rest) (between_at here)
      (ap (λ (l : List ℕ). script_lines p.raws l) (none p.rest p.kept) ∙ append-nil (map cut_return p.raws)) p.taken;
  written = p.written;
}

-- no group was cut off
pub end_whole : {D W : Type 0} (device : D → DiskState) (contents : W → Option (List ℕ)) (old new : Stand D W) → new.pending.between.group ≡ None
    → EndsLine device contents old new → EndsAt device contents old new
end_whole device contents old new none ends = λ begin input p.
    let e = ends begin input p in
    (e.taken.outcomes, e.taken.commands, whole_given device begin.session input e.raws e.rest new e.splits none e.taken, e.written)

cut_group : (group : Option Taking) (taking : Taking) (part : List (List ℕ)) → group ≡ Some taking → KeepsGroup group part → last_statement part ≡ cut_off ∷ []
cut_group None taking part is k = absurd cc
cut_group (Some kept) taking part is k = ap last_statement k.2

-- the group that was cut off is refused
cut_answered : {D : Type 0} (device : D → DiskState) (now : ScriptState (Stored D)) → Transcript device now (cut_off ∷ []) (refused BadGroup ∷ []) [] now
cut_answered device now = (unchanged now (refused BadGroup), [], [], refl, refl, refl, (refl, refl, refl))

cut_given : {D W : Type 0} (device : D → DiskState) (contents : W → Option (List ℕ)) (begin : Beginning D W) (input : List ℕ) (here : Stand D W) (taking : Taking) → here.pending.between.group ≡ Some taking
    → (e : Ended device contents begin input here) → ScriptGives device begin.session input (e.taken.outcomes ++ refused BadGroup ∷ []) (e.taken.commands ++ []) (session_at here)
cut_given device contents begin input here taking is e =
    let t = e.taken in (
      t.whole ++ cut_off ∷ [],
      subst (λ (l : List Statement). IsScript input (t.whole ++ l)) (cut_group here.pending.between.group taking t.part is t.kept) (all_statements device begin.session input e.raws e.rest here e.splits t),
      Transcript-append device t.whole (cut_off ∷ []) begin.session t.outcomes t.commands (session_at here) (refused BadGroup ∷ []) [] (session_at here) t.answered (cut_answered device (session_at here)),
    )

pub cut_ok : {T E D W : Type 0} (device : D → DiskState) (contents : W → Option (List ℕ)) (r : Result T E) (old mid : Stand D W) (writer : Watched W) (taking : Taking) → mid.pending.between.group ≡ Some taking
    → EndsLine device contents old mid → WritesOut contents mid.writer writer r (outcome_text (refused BadGroup)) → OnOk r (EndsAt device contents old (stand mid.pending mid.source writer))
cut_ok device contents (Err x) old mid writer taking is ends w = tt
cut_ok device contents (Ok x) old mid writer taking is ends w = λ begin input p.
    let e = ends begin input p in (
      e.taken.outcomes ++ refused BadGroup ∷ [],
      e.taken.commands ++ [],
      cut_given device contents begin input mid taking is e,
      wrote_more contents begin.writer mid.writer writer e.taken.outcomes (refused BadGroup ∷ []) e.written
          (subst (λ (text : List ℕ). Wrote contents mid.writer writer text) (sym (append-nil (outcome_text (refused BadGroup)))) w),
    )

pub cut_err : {T E D W : Type 0} (device : D → DiskState) (contents : W → Option (List ℕ)) (r : Result T E) (old mid : Stand D W) (writer : Watched W) (taking : Taking) → mid.pending.between.group ≡ Some taking
    → EndsLine device contents old mid → WritesOut contents mid.writer writer r (outcome_text (refused BadGroup)) → OnErr r (StopsAt device contents old (stand mid.pending mid.source writer))
cut_err device contents (Ok x) old mid writer taking is ends w = tt
cut_err device contents (Err x) old mid writer taking is ends w = λ begin input p.
    let e = ends begin input p in (
      e.taken.outcomes ++ refused BadGroup ∷ [],
      e.taken.commands ++ [],
      cut_given device contents begin input mid taking is e,
      broke_within contents begin.writer mid.writer writer e.taken.outcomes (refused BadGroup) e.written w,
    )
