-- The rules that lists keep after a command, wherever their pages lie.
use Rattle.std.proofs.Common.{◌≡◌, ℕ, ◌-◌, ◌<◌, ◌≤◌, List, [], ◌∷◌, ◌++◌, length, max, Option, Some, refl, sym, ◌∙◌, ap, subst, arith}
use Rattle.std.specs.Prelude.{All, MatchOption, IfSome, slice_get}
use Rattle.std.proofs.lemmas.List.{length-append}
use Rattle.std.proofs.lemmas.List.Elements.{All-push, All-weaker}
use Rattle.rs_time.specs.Moment.{IsMoment}
use Rattle.rs_commit.specs.declared.root.Root.{Root}
use Rattle.rs_record.specs.declared.record.Record.{Record}
use Rattle.rs_record.specs.declared.change.Change.{Change}
use Rattle.rs_catalogue.specs.Catalogue.{records_of}
use Rattle.rs_changes.specs.History.{changes_of, last_of}
use Rattle.rs_record.specs.Limits.{longest_body}
use Rattle.rs_page.specs.Pages.{Page}
use Rattle.rs_directory.specs.declared.header.Header.{Header}
use Rattle.rs_directory.specs.Directory.{IsLawfulHeader, written_format}
use Rattle.rs_image.specs.declared.contents.Contents.{Contents}
use Rattle.rs_image.specs.Whole.{IsWhole, IsSoundRecord, IsSoundChange, AreMoments}

-- The rules that lists keep, without those of their records.
pub record KeepsRules (c : Contents) : Type 0 where
  pub header : IsLawfulHeader written_format c.header
  pub moments : AreMoments c.header c
  pub number : c.history.first ≡ c.header.first
  pub changes : All (IsSoundChange c.header.begin c.header.last) (changes_of c.history.pages)
  pub listed : All (IsSoundRecord c.header.start c.header.at) (records_of c.published)

-- up to a later moment
pub later_record : (low high more : ℕ) (r : Record) → high ≤ more → IsSoundRecord low high r → IsSoundRecord low more r
later_record low high more r le sound = record { moment = record { after = sound.moment.after; up_to = omega (arith, sound.moment.up_to) }; body = sound.body; sized = sound.sized }

later_change : (low high more : ℕ) (c : Change) → high ≤ more → IsSoundChange low high c → IsSoundChange low more c
later_change low high more c le sound = record { moment = record { after = sound.moment.after; up_to = omega (arith, sound.moment.up_to) }; body = sound.body }

pub later_records : (low high more : ℕ) (rs : List Record) → high ≤ more → All (IsSoundRecord low high) rs → All (IsSoundRecord low more) rs
later_records low high more rs le all = All-weaker (IsSoundRecord low high) (IsSoundRecord low more) (λ r sound. later_record low high more r le sound) rs all

pub later_changes : (low high more : ℕ) (cs : List Change) → high ≤ more → All (IsSoundChange low high) cs → All (IsSoundChange low more) cs
later_changes low high more cs le all = All-weaker (IsSoundChange low high) (IsSoundChange low more) (λ c sound. later_change low high more c le sound) cs all

-- the last change is the one at the end
at_end : (changes : List Change) (c : Change) → slice_get (changes ++ c ∷ []) (length changes) ≡ Some c
at_end [] c = refl
at_end (x ∷ changes) c = at_end changes c

pub last_pushed : (changes : List Change) (c : Change) → last_of (changes ++ c ∷ []) ≡ Some c
last_pushed changes c =
    let place : length (changes ++ c ∷ []) - 1 ≡ length changes = omega (arith, length-append changes (c ∷ [])) in
    ap (λ (n : ℕ). slice_get (changes ++ c ∷ []) n) place ∙ at_end changes c

-- the moments after a change
moments_after : (old c : Contents) (change : Change) (moment : ℕ) → AreMoments old.header old → old.header.last < moment → change.moment ≡ moment
    → changes_of c.history.pages ≡ changes_of old.history.pages ++ change ∷ [] → AreMoments (record old.header { last = moment }) c
moments_after old c change moment moments later here changes = record {
  start = moments.start;
  at = omega (arith, moments.at);
  last = subst (λ (o : Option Change). MatchOption o (moment ≡ old.header.at) (λ x. moment ≡ max old.header.at x.moment))
      (sym (ap last_of changes ∙ last_pushed (changes_of old.history.pages) change)) (omega (arith, here, moments.at));
  kept = moments.kept;
  history = record { begun = moments.history.begun; first = moments.history.first; none_dropped = moments.history.none_dropped };
}

-- a header whose last command came at this moment
lawful_at : (h : Header) (version moment : ℕ) → IsLawfulHeader version h → IsMoment moment → IsLawfulHeader written_format (record h { last = moment })
lawful_at h version moment lawful is = record {
  base = lawful.base;
  low = lawful.low;
  high = lawful.high;
  start = lawful.start;
  last = is;
  number = lawful.number;
  at = lawful.at;
  first = lawful.first;
  begin = lawful.begin;
  untold = λ one. absurd (omega arith);
}

-- the rules that the lists of a root keep
pub rules_of : (size : ℕ) (root : Root) (old : Contents) → IsWhole size root old → IsLawfulHeader root.version old.header → KeepsRules old
rules_of size root old whole lawful = record {
  header = lawful_at old.header root.version old.header.last lawful lawful.last;
  moments = whole.moments;
  number = whole.number;
  changes = whole.changes;
  listed = whole.listed;
}

-- The rules after a change of one name.
pub changed : (old c : Contents) (change : Change) (moment : ℕ) → KeepsRules old → IsMoment moment → old.header.last < moment → change.moment ≡ moment
    → IfSome change.facts (λ facts. facts.length ≤ longest_body) → c.header ≡ record old.header { last = moment } → c.history.first ≡ old.history.first
    → changes_of c.history.pages ≡ changes_of old.history.pages ++ change ∷ [] → c.published ≡ old.published → KeepsRules c
changed old c change moment rules is later here long header first changes published =
    let h : Header = record old.header { last = moment } in
    let begin : old.header.begin < moment = omega (arith, rules.moments.kept, rules.moments.at) in
    let sound : IsSoundChange old.header.begin moment change = record { moment = record { after = omega (arith, here); up_to = omega (arith, here) }; body = long } in
    let all : All (IsSoundChange old.header.begin moment) (changes_of c.history.pages) =
    subst (All (IsSoundChange old.header.begin moment)) (sym changes)
    (All-push (IsSoundChange old.header.begin moment) (changes_of old.history.pages) change
    (later_changes old.header.begin old.header.last moment (changes_of old.history.pages) (omega arith) rules.changes) sound) in
    let listed : All (IsSoundRecord old.header.start old.header.at) (records_of c.published) =
    subst (λ (pages : List (Page Record)). All (IsSoundRecord old.header.start old.header.at) (records_of pages)) (sym published) rules.listed in
    record {
      header = subst (IsLawfulHeader written_format) (sym header) (lawful_at old.header written_format moment rules.header is);
      moments = subst (λ (h : Header). AreMoments h c) (sym header) (moments_after old c change moment rules.moments later here changes);
      number = first ∙ rules.number ∙ sym (ap (λ (h : Header). h.first) header);
      changes = subst (λ (h : Header). All (IsSoundChange h.begin h.last) (changes_of c.history.pages)) (sym header) all;
      listed = subst (λ (h : Header). All (IsSoundRecord h.start h.at) (records_of c.published)) (sym header) listed;
    }
