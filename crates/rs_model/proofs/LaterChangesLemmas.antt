-- The changes of a state after commands.
use Rattle.std.proofs.Common.{◌≡◌, ℕ, ◌+◌, ◌-◌, ◌*◌, ◌≤◌, List, [], ◌∷◌, ◌++◌, length, take, drop, refl, sym, ap, ◌∙◌, arith, Option, Some, None, append_assoc, append-nil, zero-mul, length-append, length-drop}
use Rattle.std.proofs.lemmas.List.{drop-append-le, take-append-le, drop-drop, drop_all}
use Rattle.std.proofs.Math.Seq.{drop-append_seam, take-add}
use Rattle.rs_record.specs.Changes.{last_moment}
use Rattle.rs_record.specs.declared.change.Change.{Change}
use Rattle.rs_model.specs.declared.command.Command.{Command}
use Rattle.rs_model.specs.declared.command.Command.TheVariants.{Put, Delete, Publish, Group}
use Rattle.rs_model.specs.declared.command.Item.{Item}
use Rattle.rs_model.specs.declared.command.Item.TheVariants as single
use Rattle.rs_model.specs.declared.command.Refusal.{Refusal}
use Rattle.rs_model.specs.declared.command.Reply.{Reply}
use Rattle.rs_model.specs.LaterChanges.{gone_between, KeepsChanges}
use Rattle.rs_model.specs.State.{Source}
use Rattle.rs_model.specs.Step.{step, state_after, fold_of, next_state, accepted_unless, refusal_of, reply_to, moment_at, after_items, dropped_parts, dropped_changes}
use Rattle.rs_model.proofs.DropLemmas.{last_joined, dropped_within}
use Rattle.rs_model.proofs.ItemLemmas.{AppendTo, items_append}

-- the number of changes that are gone
keeps_by : (n : ℕ) (s : Source) (more : List Change) (t : Source) → t.limit ≡ s.limit → s.first ≤ t.first → gone_between s t ≡ n
    → n ≤ length (s.changes ++ more) → t.changes ≡ drop n (s.changes ++ more) → t.begin ≡ last_moment s.begin (take n (s.changes ++ more))
    → KeepsChanges s more t
keeps_by n s more t limit first e within changes begin =
    record {
      limit = limit;
      first = first;
      within = rw e within;
      changes = changes ∙ ap (λ k. drop k (s.changes ++ more)) (sym e);
      begin = begin ∙ ap (λ k. last_moment s.begin (take k (s.changes ++ more))) (sym e);
    }

none_gone : (first limit : ℕ) → (first - first) * limit ≡ 0
none_gone first limit = let none : first - first ≡ 0 = omega arith in ap (λ n. n * limit) none ∙ zero-mul limit

-- no change is dropped
adds : (s : Source) (more : List Change) (t : Source) → t.limit ≡ s.limit → t.first ≡ s.first → t.changes ≡ s.changes ++ more → t.begin ≡ s.begin
    → KeepsChanges s more t
adds s more t limit first changes begin =
    keeps_by 0 s more t limit (omega (arith, first)) (ap (λ n. (n - s.first) * s.limit) first ∙ none_gone s.first s.limit) (omega arith) changes begin

pub itself : (s : Source) → KeepsChanges s [] s
itself s = adds s [] s refl refl (sym (append-nil s.changes)) refl

-- the changes of one state, and of a later one, and of one that is later still
gone_joined : (first next last limit other : ℕ) → other ≡ limit → first ≤ next → next ≤ last
    → (last - first) * limit ≡ (next - first) * limit + (last - next) * other
gone_joined first next last limit other e a b =
    let split : last - first ≡ (next - first) + (last - next) = omega arith in
    ap (λ n. n * limit) split ∙ grind (arith, e)

pub joined : (s t u : Source) (a b : List Change) → KeepsChanges s a t → KeepsChanges t b u → KeepsChanges s (a ++ b) u
joined s t u a b h k =
    let m : ℕ = gone_between s t in
    let n : ℕ = gone_between t u in
    let all : List Change = s.changes ++ a in
    let same : all ++ b ≡ s.changes ++ (a ++ b) = append_assoc s.changes a b in
    let left : t.changes ++ b ≡ drop m (all ++ b) = ap (λ l. l ++ b) h.changes ∙ sym (drop-append-le m all b h.within) in
    let first_gone : take m (all ++ b) ≡ take m all = take-append-le m all b h.within in
    let gone : gone_between s u ≡ m + n = gone_joined s.first t.first u.first s.limit t.limit h.limit h.first k.first in
    let few : n ≤ length all - m + length b = omega (arith, k.within, ap length h.changes, length-drop m all, length-append t.changes b) in
    keeps_by (m + n) s (a ++ b) u (k.limit ∙ h.limit) (omega (arith, h.first, k.first)) gone
    (omega (arith, few, h.within, length-append all b, ap length same))
    (k.changes ∙ ap (drop n) left ∙ drop-drop n m (all ++ b) ∙ ap (drop (m + n)) same)
    (k.begin ∙ ap (λ l. last_moment t.begin (take n l)) left
    ∙ ap (λ low. last_moment low (take n (drop m (all ++ b)))) (h.begin ∙ ap (last_moment s.begin) (sym first_gone))
    ∙ sym (last_joined s.begin (take m (all ++ b)) (take n (drop m (all ++ b))))
    ∙ ap (last_moment s.begin) (sym (take-add m n (all ++ b)) ∙ ap (take (m + n)) same))

-- A state and the one after at most one command, with the changes past the earlier ones.
pub record IsNext (s t : Source) : Type 0 where
  pub more : List Change
  pub recorded : drop (length s.changes) t.changes ≡ more
  pub kept : KeepsChanges s more t

pub none_more : (s : Source) → IsNext s s
none_more s = record { more = []; recorded = drop_all (length s.changes) s.changes (omega arith); kept = itself s }

-- items in turn
items_more : (s : Source) (items : List Item) (now : ℕ) → IsNext s (after_items s items now)
items_more s items now =
    let all : AppendTo s items (after_items s items now) = items_append s items now in
    record {
      more = all.made;
      recorded = ap (drop (length s.changes)) all.changes ∙ drop-append_seam s.changes all.made;
      kept = adds s all.made (after_items s items now) all.limit all.first all.changes all.begin;
    }

-- a publish records no change
pub none_published : (s : Source) (t : ℕ) → drop (length s.changes) (next_state s Publish t).changes ≡ []
none_published s t =
    let n : ℕ = dropped_changes s in
    drop_all (length s.changes) (drop n s.changes) (omega (arith, length-drop n s.changes))

publish_more : (s : Source) (t : ℕ) → IsNext s (next_state s Publish t)
publish_more s t =
    let n : ℕ = dropped_changes s in
    let next : Source = next_state s Publish t in
    let grown : s.first + dropped_parts s - s.first ≡ dropped_parts s = omega arith in
    let same : s.changes ≡ s.changes ++ [] = sym (append-nil s.changes) in
    record {
      more = [];
      recorded = none_published s t;
      kept = keeps_by n s [] next refl (omega arith) (ap (λ k. k * s.limit) grown) (omega (arith, dropped_within s, ap length same))
          (ap (drop n) same) (ap (λ l. last_moment s.begin (take n l)) same);
    }

-- a command: a put or a delete is one item at its moment
next_more : (s : Source) (command : Command) (now : ℕ) → IsNext s (next_state s command (moment_at s now))
next_more s (Put name kind bytes) now = items_more s (single.Put name kind bytes ∷ []) now
next_more s (Delete name) now = items_more s (single.Delete name ∷ []) now
next_more s Publish now = publish_more s (moment_at s now)
next_more s (Group items) now = items_more s items (moment_at s now)

unless_refused : (s : Source) (o : Option Refusal) (next : Source × Reply) → IsNext s next.0 → IsNext s (state_after s (accepted_unless o next))
unless_refused s None next h = h
unless_refused s (Some refusal) next h = none_more s

pub step_more : (s : Source) (command : Command) (now : ℕ) → IsNext s (state_after s (step s command now))
step_more s command now =
    let t : ℕ = moment_at s now in
    unless_refused s (refusal_of s command now) (next_state s command t, reply_to s command t) (next_more s command now)

pub fold_keeps : (s : Source) (commands : List (Command × ℕ)) → (more : List Change) × KeepsChanges s more (fold_of s commands)
fold_keeps s [] = ([], itself s)
fold_keeps s (c ∷ commands) =
    let next : Source = state_after s (step s c.0 c.1) in
    let one : IsNext s next = step_more s c.0 c.1 in
    let rest : (more : List Change) × KeepsChanges next more (fold_of next commands) = fold_keeps next commands in
    (one.more ++ rest.0, joined s next (fold_of next commands) one.more rest.0 one.kept rest.1)
