-- One more run of bytes, one more line, and the input when no more is read.
use Rattle.std.proofs.Common.{◌≡◌, ◌≢◌, ℕ, ◌+◌, ◌*◌, ◌≤◌, List, [], ◌∷◌, ◌++◌, length, take, drop, map, Option, None, refl, ap, sym, ◌∙◌, append_assoc, append-nil, arith, subst, inl, inr, length-append, length-take}
use Rattle.std.proofs.lemmas.Grind.{common_steps, flat_map-append}
use Rattle.std.proofs.lemmas.List.{map-append, take-map, drop-map, take-append-drop}
use Rattle.std.proofs.lemmas.List.Elements.{All-append, All-take, All-drop}
use Rattle.std.proofs.Math.Seq.{take-append_seam, drop-append_seam}
use Rattle.std.specs.List.{All, flat_map}
use Rattle.std.specs.Prelude.{Result, Ok, Err, OnOk, OnErr}
use Rattle.std.specs.Io.KnownBytes.{Consumes, Keeps as KnownKeeps}
use Rattle.std.proofs.KnownBytes.{Appends-kept, Consumes-trans}
use Rattle.rs_disk.specs.Medium.{DiskState}
use Rattle.rs_io.specs.declared.watch.Watched.{Watched}
use Rattle.rs_io.specs.Watch.{watched, failures, FlushFailed, Wrote, FailedWithin, WritesOut}
use Rattle.rs_script.proofs.FromBelow.{wrote_nothing, wrote_then, failed_after, failed_same}
use Rattle.rs_model.specs.declared.command.Command.{Command}
use Rattle.rs_store.specs.Source.{Stored}
use Rattle.rs_script.specs.declared.line.Line.{Line}
use Rattle.rs_script.specs.Answers.{outcome_text, output_of}
use Rattle.rs_script.specs.PartialLine.{KeepsLine}
use Rattle.rs_script.specs.declared.group.Taking.{Taking}
use Rattle.rs_script.specs.Lines.{Splits, HasNoBreak, with_break}
use Rattle.rs_items.specs.Lines.{cut_return}
use Rattle.rs_script.specs.Progress.{Between, LinesTaken, TakesLine, Beginning, Stand, stand, between_at, Progress, Gave, ComesTo, StopsBy}
use Rattle.rs_script.specs.Statements.{Statement, statement_lines, IsWholeStatement, AreWholeStatements, IsUnfinished, IsPart, Groups}
use Rattle.rs_script.specs.Taken.{KeepsGroup}
use Rattle.rs_script.proofs.Grouped.{kept_part, none_kept, more_lines, whole_lines, whole_script}
use Rattle.rs_script.specs.Broken.{BreaksLast, BreaksAfter}
use Rattle.rs_script.specs.Script.{Transcript, ScriptGives, Ran, ScriptsRecover, ScriptsMakeWalks}
use Rattle.rs_script.specs.Session.{ScriptState, script_state, LineOutcome}

-- the statements are answered, and then more of them
pub Transcript-append : {D : Type 0} (device : D → DiskState) (first more : List Statement) (old : ScriptState (Stored D)) (outcomes : List LineOutcome) (commands : List (Command × ℕ)) (mid : ScriptState (Stored D))
    (others : List LineOutcome) (later : List (Command × ℕ)) (new : ScriptState (Stored D)) → Transcript device old first outcomes commands mid → Transcript device mid more others later new
    → Transcript device old (first ++ more) (outcomes ++ others) (commands ++ later) new
Transcript-append {D = D} device [] more old outcomes commands mid others later new h g =
    let O : List LineOutcome → Type 0 = λ o. Transcript device old more (o ++ others) (commands ++ later) new in
    let C : List (Command × ℕ) → Type 0 = λ c. Transcript device old more others (c ++ later) new in
    let S : ScriptState (Stored D) → Type 0 = λ s. Transcript device s more others later new in
    subst O (sym h.0) (subst C (sym h.1) (subst S h.2 g))
Transcript-append device (statement ∷ first) more old outcomes commands mid others later new h g = (
  h.0,
  h.1 ++ others,
  h.2 ++ later,
  h.3,
  ap (λ z. z ++ others) h.4,
  ap (λ z. z ++ later) h.5 ∙ append_assoc h.0.commands h.2 later,
  Transcript-append device first more h.0.session h.1 h.2 mid others later new h.6 g,
)

-- the answers to more outcomes
pub output-append : (outcomes more : List LineOutcome) → output_of (outcomes ++ more) ≡ output_of outcomes ++ output_of more
output-append outcomes more = flat_map-append outcome_text outcomes more

pub Splits-run : (input : List ℕ) (raws : List (List ℕ)) (rest run : List ℕ) → HasNoBreak run
    → Splits input raws rest → Splits (input ++ run) raws (rest ++ run)
Splits-run input raws rest run h s = record {
  whole = ap (λ z. z ++ run) s.whole ∙ append_assoc (flat_map with_break raws) rest run;
  each = s.each;
  partial = All-append (λ b. b ≢ 10) rest run s.partial h;
}

pub Splits-break : (input : List ℕ) (raws : List (List ℕ)) (rest run : List ℕ) → HasNoBreak run
    → Splits input raws rest → Splits (input ++ with_break run) (raws ++ (rest ++ run) ∷ []) []
Splits-break input raws rest run h s =
    let p = All-append (λ b. b ≢ 10) rest run s.partial h in
    record {
      whole = grind (arith, common_steps, s.whole);
      each = grind (arith, common_steps, s.each, p);
      partial = grind (arith, common_steps);
    }

-- the answers to more statements are written after the earlier ones
pub wrote_more : {W : Type 0} (contents : W → Option (List ℕ)) (a b c : Watched W) (outcomes more : List LineOutcome)
    → Wrote contents a b (output_of outcomes) → Wrote contents b c (output_of more) → Wrote contents a c (output_of (outcomes ++ more))
wrote_more contents a b c outcomes more first second =
    subst (λ (text : List ℕ). Wrote contents a c text) (sym (output-append outcomes more)) (wrote_then contents a b c (output_of outcomes) (output_of more) first second)

-- the same lines were taken, written another way
abbrev pub lines_as : {D : Type 0} (device : D → DiskState) (start : ScriptState (Stored D)) (lines all : List (List ℕ)) (here : Between D) → all ≡ lines
    → LinesTaken device start lines here → LinesTaken device start all here
lines_as device start lines all here is t = record {
  whole = t.whole;
  part = t.part;
  outcomes = t.outcomes;
  commands = t.commands;
  lines_are = is ∙ t.lines_are;
  each = t.each;
  kept = t.kept;
  answered = t.answered;
}

-- and then one more line
abbrev pub lines_then : {D : Type 0} (device : D → DiskState) (start : ScriptState (Stored D)) (lines all : List (List ℕ)) (line : List ℕ) (mid here : Between D) → all ≡ lines ++ line ∷ []
    → (t : LinesTaken device start lines mid) → LinesTaken device mid.session (t.part ++ line ∷ []) here → LinesTaken device start all here
lines_then device start lines all line mid here is t e = record {
  whole = t.whole ++ e.whole;
  part = e.part;
  outcomes = t.outcomes ++ e.outcomes;
  commands = t.commands ++ e.commands;
  lines_are = is ∙ more_lines lines t.part e.part line t.whole e.whole t.lines_are e.lines_are;
  each = All-append IsWholeStatement t.whole e.whole t.each e.each;
  kept = e.kept;
  answered = Transcript-append device t.whole e.whole start t.outcomes t.commands mid.session e.outcomes e.commands here.session t.answered e.answered;
}

-- more bytes of the line
pub Progress-run : {D W : Type 0} (device : D → DiskState) (contents : W → Option (List ℕ)) (begin : Beginning D W) (input : List ℕ) (here : Stand D W) (run : List ℕ) (next : Line)
    → HasNoBreak run → ((raw : List ℕ) → KeepsLine here.pending.line raw → KeepsLine next (raw ++ run)) → Progress device contents begin input here
    → Progress device contents begin (input ++ run) (stand (record { between = here.pending.between; line = next }) here.source here.writer)
Progress-run device contents begin input here run next h k p = record {
  raws = p.raws;
  rest = p.rest ++ run;
  splits = Splits-run input p.raws p.rest run h p.splits;
  kept = k p.rest p.kept;
  taken = p.taken;
  written = p.written;
}

pub on_err : {T E P : Type 0} (r : Result T E) → P → OnErr r P
on_err (Ok x) p = tt
on_err (Err e) p = p

-- a line was taken from the bytes that are kept
abbrev pub Takes : {T E D W : Type 0} → (D → DiskState) → (W → Option (List ℕ)) → Result T E → Line → (List ℕ → List ℕ) → Stand D W → Stand D W → Type 0
Takes device contents r line cut old new =
    (raw : List ℕ) → KeepsLine line raw → TakesLine device (between_at old) (cut raw) (between_at new) (λ text. WritesOut contents old.writer new.writer r text)

-- a line feed has come, and the answer is written
pub take_ok : {T E D W : Type 0} (device : D → DiskState) (contents : W → Option (List ℕ)) (r : Result T E) (mid : Line) (old new : Stand D W) (run : List ℕ)
    → ((raw : List ℕ) → KeepsLine old.pending.line raw → KeepsLine mid (raw ++ run)) → Takes device contents r mid cut_return old new
    → KeepsLine new.pending.line [] → OnOk r (HasNoBreak run → ComesTo device contents old new (with_break run))
take_ok device contents (Err e) mid old new run k given fresh = tt
take_ok device contents (Ok x) mid old new run k given fresh = λ h begin input p.
    let raw = p.rest ++ run in
    let e = given raw (k p.rest p.kept) p.taken.part p.taken.kept in
    record {
      raws = p.raws ++ raw ∷ [];
      rest = [];
      splits = Splits-break input p.raws p.rest run h p.splits;
      kept = fresh;
      taken = lines_then device begin.session (map cut_return p.raws) (map cut_return (p.raws ++ raw ∷ [])) (cut_return raw) (between_at old) (between_at new)
          (map-append cut_return p.raws (raw ∷ [])) p.taken e.0;
      written = wrote_more contents begin.writer old.writer new.writer p.taken.outcomes e.0.outcomes p.written e.2;
    }

-- the writer took all answers but the last, and failed in a write of that one
pub broke_within : {W : Type 0} (contents : W → Option (List ℕ)) (a b c : Watched W) (outcomes : List LineOutcome) (last : LineOutcome)
    → Wrote contents a b (output_of outcomes) → FailedWithin contents b c (outcome_text last) → BreaksLast contents a c (outcomes ++ last ∷ [])
broke_within contents a b c outcomes last wrote failed = record {
  whole = outcomes;
  last = last;
  outcomes_are = refl;
  failed = failed_after contents a b c (output_of outcomes) (outcome_text last) wrote failed;
}

-- if the calls before it did not fail, a failed flush is the fault of the whole run
later_flush_fault : {W : Type 0} (a b c : Watched W) → failures b ≡ failures a → FlushFailed b c → FlushFailed a c
later_flush_fault a b c same (inl rose) = inl (omega (arith, ap (λ f. f.flushes) same, rose))
later_flush_fault a b c same (inr last) = inr last

-- the writer took all answers, and a flush failed
pub broke_after : {W : Type 0} (contents : W → Option (List ℕ)) (a b c : Watched W) (outcomes : List LineOutcome)
    → Wrote contents a b (output_of outcomes) → KnownKeeps (contents (watched b)) (contents (watched c)) → FlushFailed b c → (failures c).all ≤ (failures b).all + 1
    → BreaksAfter contents a c outcomes
broke_after contents a b c outcomes wrote kept failed once = record {
  took = Appends-kept (contents (watched a)) (contents (watched b)) (contents (watched c)) (output_of outcomes) wrote.0 kept;
  failed = later_flush_fault a b c wrote.1 failed;
  once = omega (arith, ap (λ f. f.all) wrote.1, once);
}

has_line : (begun : List (List ℕ)) (line : List ℕ) → begun ++ line ∷ [] ≡ [] → ⊥
has_line [] line e = cc
has_line (first ∷ begun) line e = cc

-- one statement was answered, if its lines have come whole
one_answered : {D : Type 0} (device : D → DiskState) (begun : List (List ℕ)) (line : List ℕ) (whole : List Statement) (part : List (List ℕ)) (old : ScriptState (Stored D)) (outcomes : List LineOutcome)
    (commands : List (Command × ℕ)) (new : ScriptState (Stored D)) → begun ++ line ∷ [] ≡ flat_map statement_lines whole ++ part → part ≡ []
    → Transcript device old whole outcomes commands new → length outcomes ≤ 1 → (last : LineOutcome) × (outcomes ≡ last ∷ [])
one_answered device begun line [] part old outcomes commands new lines none answered few = absurd (has_line begun line (lines ∙ none))
one_answered device begun line (statement ∷ whole) part old outcomes commands new lines none answered few =
    (answered.0.outcome, answered.4 ∙ ap (λ l. answered.0.outcome ∷ l) (no_others answered.0.outcome answered.1 (subst (λ (l : List LineOutcome). length l ≤ 1) answered.4 few)))
  where
    no_others : (first : LineOutcome) (more : List LineOutcome) → length (first ∷ more) ≤ 1 → more ≡ []
    no_others first [] few = refl
    no_others first (second ∷ more) few = absurd (omega (arith, few))

-- and the writer failed within its answer
pub broke_line : {D W : Type 0} (device : D → DiskState) (contents : W → Option (List ℕ)) (begun : List (List ℕ)) (line : List ℕ) (old : ScriptState (Stored D)) (here : Between D) (a b c : Watched W)
    (outcomes : List LineOutcome) → (e : LinesTaken device old (begun ++ line ∷ []) here) → e.part ≡ [] → length e.outcomes ≤ 1 → Wrote contents a b (output_of outcomes)
    → FailedWithin contents b c (output_of e.outcomes) → BreaksLast contents a c (outcomes ++ e.outcomes)
broke_line device contents begun line old here a b c outcomes e none few wrote failed =
    let one = one_answered device begun line e.whole e.part old e.outcomes e.commands here.session e.lines_are none e.answered few in
    let P : List LineOutcome → Type 0 = λ l. BreaksLast contents a c (outcomes ++ l) in
    let text : output_of e.outcomes ≡ outcome_text one.0 = ap output_of one.1 ∙ append-nil (outcome_text one.0) in
    subst P (sym one.1) (broke_within contents a b c outcomes one.0 wrote (failed_same contents b c (output_of e.outcomes) (outcome_text one.0) failed text))

-- and the answer is not written
pub take_err : {T E D W : Type 0} (device : D → DiskState) (contents : W → Option (List ℕ)) (r : Result T E) (mid : Line) (old new : Stand D W) (run : List ℕ)
    → ((raw : List ℕ) → KeepsLine old.pending.line raw → KeepsLine mid (raw ++ run)) → Takes device contents r mid cut_return old new
    → OnErr r (new.pending.between.group ≡ None) → OnErr r (HasNoBreak run → StopsBy device contents old new (with_break run))
take_err device contents (Ok x) mid old new run k given stopped = tt
take_err device contents (Err e) mid old new run k given stopped = λ h begin input p.
    let raw = p.rest ++ run in
    let e = given raw (k p.rest p.kept) p.taken.part p.taken.kept in
    let raws = p.raws ++ raw ∷ [] in
    let none = none_kept new.pending.between.group e.0.part stopped e.0.kept in
    let all = lines_then device begin.session (map cut_return p.raws) (map cut_return raws) (cut_return raw) (between_at old) (between_at new) (map-append cut_return p.raws (raw ∷ [])) p.taken e.0 in
    let splits = Splits-break input p.raws p.rest run h p.splits in
    let groups = whole_lines raws all.whole all.part all.lines_are none all.each in (
      (
        all.outcomes,
        all.commands,
        (all.whole, whole_script (input ++ with_break run) raws all.whole splits groups, all.answered),
        broke_line device contents p.taken.part (cut_return raw) (between_at old).session (between_at new) begin.writer old.writer new.writer p.taken.outcomes e.0 none e.1 p.written e.2,
      ),
      (raws, all.whole, splits, groups),
    )

-- no bytes came, and no bytes were written
pub Progress-none : {D W : Type 0} (device : D → DiskState) (contents : W → Option (List ℕ)) (here : Stand D W) (source : Stored D) → here.source ≡ source → here.pending.between.moment ≡ 0
    → here.pending.between.group ≡ None → KeepsLine here.pending.line [] → Progress device contents (record { session = script_state source 0; writer = here.writer }) [] here
Progress-none device contents here source same now none k = record {
  raws = [];
  rest = [];
  splits = record { whole = refl; each = grind (arith, common_steps); partial = grind (arith, common_steps) };
  kept = k;
  taken = record {
    whole = [];
    part = [];
    outcomes = [];
    commands = [];
    lines_are = refl;
    each = grind (arith, common_steps);
    kept = subst (λ (g : Option Taking). KeepsGroup g []) (sym none) refl;
    answered = (refl, refl, ap (λ s. script_state s here.pending.between.moment) same ∙ ap (script_state source) now);
  };
  written = wrote_nothing contents here.writer;
}

-- the writer was flushed
pub Progress-kept : {D W : Type 0} (device : D → DiskState) (contents : W → Option (List ℕ)) (begin : Beginning D W) (input : List ℕ) (here : Stand D W) (writer : Watched W)
    → KnownKeeps (contents (watched here.writer)) (contents (watched writer)) → failures writer ≡ failures here.writer → Progress device contents begin input here
    → Progress device contents begin input (stand here.pending here.source writer)
Progress-kept device contents begin input here writer k sound p = record {
  raws = p.raws;
  rest = p.rest;
  splits = p.splits;
  kept = p.kept;
  taken = p.taken;
  written = (
    Appends-kept (contents (watched begin.writer)) (contents (watched here.writer)) (contents (watched writer)) (output_of p.taken.outcomes) p.written.0 k,
    sound ∙ p.written.1,
  );
}

-- a script that ran on a source, from the moment 0 on
abbrev pub ran_of : {D : Type 0} (device : D → DiskState) → ScriptsRecover device × ScriptsMakeWalks device → (old new : Stored D) (input : List ℕ) (outcomes : List LineOutcome) (commands : List (Command × ℕ)) (last : ℕ)
    → ScriptGives device (script_state old 0) input outcomes commands (script_state new last) → Ran device old new
ran_of device laws old new input outcomes commands last gives = record {
  input = input;
  outcomes = outcomes;
  commands = commands;
  last = last;
  gives = gives;
  recovers = laws.0 (script_state old 0) (script_state new last) input outcomes commands gives;
  walks = laws.1 (script_state old 0) (script_state new last) input outcomes commands gives;
}

-- the lines of the first statements, and those of the part after them
first_lines : (raws : List (List ℕ)) (a b : List (List ℕ)) → map cut_return raws ≡ a ++ b → map cut_return (take (length a) raws) ≡ a
first_lines raws a b e = sym (take-map cut_return (length a) raws) ∙ ap (take (length a)) e ∙ take-append_seam a b

last_lines : (raws : List (List ℕ)) (a b : List (List ℕ)) → map cut_return raws ≡ a ++ b → map cut_return (drop (length a) raws) ≡ b
last_lines raws a b e = sym (drop-map cut_return (length a) raws) ∙ ap (drop (length a)) e ∙ drop-append_seam a b

raws_whole : (raws : List (List ℕ)) → All HasNoBreak raws → Splits (flat_map with_break raws) raws []
raws_whole raws each = record { whole = sym (append-nil (flat_map with_break raws)); each = each; partial = grind (arith, common_steps) }

-- the whole statements that came, and the part of one after them
pub Progress-whole : {D W : Type 0} (device : D → DiskState) (contents : W → Option (List ℕ)) → ScriptsRecover device × ScriptsMakeWalks device → (start : Stored D) (before : Watched W)
    (input : List ℕ) (here : Stand D W) → Progress device contents (record { session = script_state start 0; writer = before }) input here
    → (ran : Ran device start here.source) × (part : List ℕ) × (input ≡ ran.input ++ part) × AreWholeStatements ran.input × IsUnfinished part
    × Wrote contents before here.writer (output_of ran.outcomes)
Progress-whole device contents laws start before input here p =
    let t = p.taken in
    let n = length (flat_map statement_lines t.whole) in
    let raws = take n p.raws in
    let behind = drop n p.raws in
    let front = flat_map with_break raws in
    let part = flat_map with_break behind ++ p.rest in
    let cut : input ≡ front ++ part =
    p.splits.whole ∙ ap (λ l. flat_map with_break l ++ p.rest) (sym (take-append-drop n p.raws))
    ∙ ap (λ z. z ++ p.rest) (flat_map-append with_break raws behind) ∙ append_assoc front (flat_map with_break behind) p.rest in
    let splits : Splits front raws [] = raws_whole raws (All-take HasNoBreak n p.raws p.splits.each) in
    let groups : Groups (map cut_return raws) t.whole [] =
    whole_lines raws t.whole [] (first_lines p.raws (flat_map statement_lines t.whole) t.part t.lines_are ∙ sym (append-nil (flat_map statement_lines t.whole))) refl t.each in
    let gives : ScriptGives device (script_state start 0) front t.outcomes t.commands (script_state here.source here.pending.between.moment) =
    (t.whole, whole_script front raws t.whole splits groups, t.answered) in
    let rest : Splits part behind p.rest = record { whole = refl; each = All-drop HasNoBreak n p.raws p.splits.each; partial = p.splits.partial } in
    let unfinished : IsPart (map cut_return behind) =
    subst IsPart (sym (last_lines p.raws (flat_map statement_lines t.whole) t.part t.lines_are)) (kept_part here.pending.between.group t.part t.kept) in (
      ran_of device laws start here.source front t.outcomes t.commands here.pending.between.moment gives,
      part,
      cut,
      (raws, t.whole, splits, groups),
      (behind, p.rest, rest, unfinished),
      p.written,
    )

-- the last read gave no byte
pub Consumes-end : (r s t : Option (List ℕ)) (input buf : List ℕ) (n : ℕ) → n ≡ 0 → Consumes r s input → Consumes s t (take n buf) → Consumes r t input
Consumes-end r s t input buf n e h k =
    let Q : List ℕ → Type 0 = λ bytes. Consumes r t bytes in
    subst Q (ap (λ m. input ++ take m buf) e ∙ append-nil input) (Consumes-trans r s t input (take n buf) h k)

-- a piece whose front was used
pub Gave-front : (r s t : Option (List ℕ)) (input piece used tail : List ℕ) → piece ≡ used ++ tail
    → Consumes r s input → Consumes s t piece → Gave r t (input ++ used)
Gave-front r s t input piece used tail e h k =
    let Q : List ℕ → Type 0 = λ bytes. Consumes r t bytes in
    (tail, subst Q (ap (λ z. input ++ z) e ∙ sym (append_assoc input used tail)) (Consumes-trans r s t input piece h k))

-- a piece has at least one byte
pub count_more : (counter n : ℕ) (input buf : List ℕ) → counter ≤ length input → (n ≡ 0 → ⊥) → n ≤ length buf
    → counter + 1 ≤ length (input ++ take n buf)
count_more counter n input buf le some fits = simp length-append (omega (arith, length-take n buf))

-- and no more bytes than the buffer has
pub no_more : (counter n : ℕ) (input buf : List ℕ) → length input ≤ counter * 65536 → n ≤ length buf → length buf ≡ 65536
    → length (input ++ take n buf) ≤ (counter + 1) * 65536
no_more counter n input buf le fits room = simp length-append (omega (arith, length-take n buf, le, fits, room))
