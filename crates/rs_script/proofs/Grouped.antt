-- Lines make statements in one way.
use Rattle.std.proofs.Common.{◌≡◌, ℕ, ◌+◌, ◌<◌, List, [], ◌∷◌, ◌++◌, length, map, Option, Some, None, refl, ap, sym, ◌∙◌, subst, arith, append_assoc, append-nil, length-append}
use Rattle.std.proofs.lemmas.List.Elements.{All-head, All-tail}
use Rattle.std.proofs.lemmas.Grind.{flat_map-append}
use Rattle.std.specs.List.{All, flat_map}
use Rattle.rs_script.specs.declared.group.Taking.{Taking}
use Rattle.rs_script.specs.Lines.{Splits, script_lines}
use Rattle.rs_items.specs.Lines.{cut_return}
use Rattle.rs_script.specs.Statements.{Statement, single, grouped, cut_off, group_size, statement_lines, IsWholeStatement, IsPart, Groups, last_statement, IsScript}
use Rattle.rs_script.specs.Taken.{KeepsGroup}
use Rattle.rs_script.proofs.Cut.{Splits-once}

-- without a group no lines are kept
pub none_kept : (group : Option Taking) (part : List (List ℕ)) → group ≡ None → KeepsGroup group part → part ≡ []
none_kept None part is k = k
none_kept (Some taking) part is k = absurd cc

-- the kept lines of a group are a part of one
pub kept_part : (group : Option Taking) (part : List (List ℕ)) → KeepsGroup group part → IsPart part
kept_part None part k = subst IsPart (sym k) tt
kept_part (Some taking) part (first, lines, is, size, items) =
    subst IsPart (sym is) (length lines + taking.later + 1, size, omega arith)

no_size : (n : ℕ) → Some n ≡ None → ⊥
no_size n e = cc

fewer : (m n size : ℕ) → Some size ≡ Some m → m + n < size → ⊥
fewer m n size e h = let same : size ≡ m = cc in absurd (omega (arith, same, h))

-- a part of a group is no whole statement
no_whole : (statement : Statement) (more part : List (List ℕ)) → IsWholeStatement statement → IsPart part → part ≡ statement_lines statement ++ more → ⊥
no_whole (single line) more [] w p e = cc
no_whole (single line) more (first ∷ lines) w p e =
    let same : first ≡ line = cc in
    no_size p.0 (sym p.1 ∙ ap group_size same ∙ w)
no_whole (grouped first lines) more [] w p e = cc
no_whole (grouped first lines) more (other ∷ others) w p e =
    let same : other ≡ first = cc in
    let tails : others ≡ lines ++ more = cc in
    let size : Some p.0 ≡ Some (length lines) = sym p.1 ∙ ap group_size same ∙ w in
    let less : length (lines ++ more) < p.0 = subst (λ (l : List (List ℕ)). length l < p.0) tails p.2 in
    fewer (length lines) (length more) p.0 size (subst (λ (n : ℕ). n < p.0) (length-append lines more) less)
no_whole cut_off more part w p e = absurd w

-- lists of one length at the front of the same are the same
same_front : (a b x y : List (List ℕ)) → length a ≡ length b → a ++ x ≡ b ++ y → (a ≡ b) × (x ≡ y)
same_front [] [] x y h e = (refl, e)
same_front [] (c ∷ b) x y h e = absurd (omega (arith, h))
same_front (c ∷ a) [] x y h e = absurd (omega (arith, h))
same_front (c ∷ a) (d ∷ b) x y h e =
    let more : a ++ x ≡ b ++ y = cc in
    let same = same_front a b x y (omega (arith, h)) more in
    let tails : a ≡ b = same.0 in
    (cc, same.1)

-- the first statement is the same, and so is the rest
first_once : (statement other : Statement) (x y : List (List ℕ)) → IsWholeStatement statement → IsWholeStatement other
    → statement_lines statement ++ x ≡ statement_lines other ++ y → (statement ≡ other) × (x ≡ y)
first_once (single line) (single other) x y w v e = let same : line ≡ other = cc in (ap single same, cc)
first_once (single line) (grouped first lines) x y w v e =
    let same : line ≡ first = cc in
    absurd (no_size (length lines) (sym v ∙ ap group_size (sym same) ∙ w))
first_once (grouped first lines) (single line) x y w v e =
    let same : first ≡ line = cc in
    absurd (no_size (length lines) (sym w ∙ ap group_size same ∙ v))
first_once (grouped first lines) (grouped other others) x y w v e =
    let same : first ≡ other = cc in
    let size : Some (length lines) ≡ Some (length others) = sym w ∙ ap group_size same ∙ v in
    let number : length lines ≡ length others = cc in
    let tails : lines ++ x ≡ others ++ y = cc in
    let rest = same_front lines others x y number tails in
    (ap (λ f. grouped f lines) same ∙ ap (grouped other) rest.0, rest.1)
first_once cut_off other x y w v e = absurd w
first_once statement cut_off x y w v e = absurd v

opened : (statement : Statement) (statements : List Statement) (part : List (List ℕ))
    → flat_map statement_lines (statement ∷ statements) ++ part ≡ statement_lines statement ++ (flat_map statement_lines statements ++ part)
opened statement statements part = append_assoc (statement_lines statement) (flat_map statement_lines statements) part

group_once : (whole others : List Statement) (part tail : List (List ℕ)) → All IsWholeStatement whole → All IsWholeStatement others → IsPart part → IsPart tail
    → flat_map statement_lines whole ++ part ≡ flat_map statement_lines others ++ tail → (whole ≡ others) × (part ≡ tail)
group_once [] [] part tail h k n m e = (refl, e)
group_once [] (o ∷ os) part tail h k n m e =
    absurd (no_whole o (flat_map statement_lines os ++ tail) part (All-head IsWholeStatement o os k) n (e ∙ opened o os tail))
group_once (w ∷ ws) [] part tail h k n m e =
    absurd (no_whole w (flat_map statement_lines ws ++ part) tail (All-head IsWholeStatement w ws h) m (sym e ∙ opened w ws part))
group_once (w ∷ ws) (o ∷ os) part tail h k n m e =
    let first = first_once w o (flat_map statement_lines ws ++ part) (flat_map statement_lines os ++ tail) (All-head IsWholeStatement w ws h) (All-head IsWholeStatement o os k)
    (sym (opened w ws part) ∙ e ∙ opened o os tail) in
    let more = group_once ws os part tail (All-tail IsWholeStatement w ws h) (All-tail IsWholeStatement o os k) n m first.1 in
    (ap (λ z. z ∷ ws) first.0 ∙ ap (λ z. o ∷ z) more.0, more.1)

pub IsScript-once : (input : List ℕ) (statements others : List Statement) → IsScript input statements → IsScript input others → statements ≡ others
IsScript-once input statements others s t =
    let cut = Splits-once input s.raws t.raws s.rest t.rest s.splits t.splits in
    let lines : script_lines s.raws s.rest ≡ script_lines t.raws t.rest =
    ap (λ raws. script_lines raws s.rest) cut.0 ∙ ap (script_lines t.raws) cut.1 in
    let same = group_once s.whole t.whole s.part t.part s.groups.each t.groups.each s.groups.partial t.groups.partial
    (sym s.groups.all ∙ lines ∙ t.groups.all) in
    s.statements_are ∙ ap (λ whole. whole ++ last_statement s.part) same.0 ∙ ap (λ part. t.whole ++ last_statement part) same.1 ∙ sym t.statements_are

-- one more line, with the statement that it ends
pub more_lines : (lines part left : List (List ℕ)) (line : List ℕ) (whole more : List Statement) → lines ≡ flat_map statement_lines whole ++ part
    → part ++ line ∷ [] ≡ flat_map statement_lines more ++ left → lines ++ line ∷ [] ≡ flat_map statement_lines (whole ++ more) ++ left
more_lines lines part left line whole more e k =
    ap (λ z. z ++ line ∷ []) e ∙ append_assoc (flat_map statement_lines whole) part (line ∷ [])
    ∙ ap (λ z. flat_map statement_lines whole ++ z) k ∙ sym (append_assoc (flat_map statement_lines whole) (flat_map statement_lines more) left)
    ∙ ap (λ z. z ++ left) (sym (flat_map-append statement_lines whole more))

-- all lines are those of whole statements
pub whole_lines : (raws : List (List ℕ)) (whole : List Statement) (part : List (List ℕ)) → map cut_return raws ≡ flat_map statement_lines whole ++ part
    → part ≡ [] → All IsWholeStatement whole → Groups (map cut_return raws) whole []
whole_lines raws whole part e none each = record {
  all = e ∙ ap (λ z. flat_map statement_lines whole ++ z) none;
  each = each;
  partial = tt;
}

-- an input of whole statements is these
pub whole_script : (input : List ℕ) (raws : List (List ℕ)) (whole : List Statement) → Splits input raws [] → Groups (map cut_return raws) whole []
    → IsScript input whole
whole_script input raws whole splits groups = record {
  raws = raws;
  rest = [];
  splits = splits;
  whole = whole;
  part = [];
  groups = record { all = append-nil (map cut_return raws) ∙ groups.all; each = groups.each; partial = tt };
  statements_are = sym (append-nil whole);
}
