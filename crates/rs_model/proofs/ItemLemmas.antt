-- The states that items leave, one after another.
use Rattle.std.proofs.Common.{◌≡◌, ℕ, suc, zero, ◌+◌, ◌<◌, List, [], ◌∷◌, ◌++◌, length, take, refl, sym, ap, ◌∙◌, arith, append_assoc, append-nil, length-append}
use Rattle.std.proofs.lemmas.List.{take_all}
use Rattle.std.proofs.Math.Seq.{take-append_seam}
use Rattle.rs_record.specs.Changes.{deleted}
use Rattle.rs_record.specs.declared.change.Change.{Change}
use Rattle.rs_model.specs.declared.command.Item.{Item}
use Rattle.rs_model.specs.declared.command.Item.TheVariants as single
use Rattle.rs_model.specs.State.{Source, facts_of}
use Rattle.rs_model.specs.Step.{moment_at, put_change, after_item, after_items}

-- the change that an item makes
abbrev pub change_of : Source → Item → ℕ → Change
change_of s (single.Put name kind bytes) t = put_change s name (facts_of kind bytes) t
change_of s (single.Delete name) t = deleted name t

pub item_changes : (s : Source) (item : Item) (t : ℕ) → (after_item s item t).changes ≡ s.changes ++ change_of s item t ∷ []
item_changes s (single.Put name kind bytes) t = refl
item_changes s (single.Delete name) t = refl

pub change_moment : (s : Source) (item : Item) (t : ℕ) → (change_of s item t).moment ≡ t
change_moment s (single.Put name kind bytes) t = refl
change_moment s (single.Delete name) t = refl

pub item_last : (s : Source) (item : Item) (t : ℕ) → (after_item s item t).last ≡ t
item_last s (single.Put name kind bytes) t = refl
item_last s (single.Delete name) t = refl

item_limit : (s : Source) (item : Item) (t : ℕ) → (after_item s item t).limit ≡ s.limit
item_limit s (single.Put name kind bytes) t = refl
item_limit s (single.Delete name) t = refl

item_first : (s : Source) (item : Item) (t : ℕ) → (after_item s item t).first ≡ s.first
item_first s (single.Put name kind bytes) t = refl
item_first s (single.Delete name) t = refl

item_begin : (s : Source) (item : Item) (t : ℕ) → (after_item s item t).begin ≡ s.begin
item_begin s (single.Put name kind bytes) t = refl
item_begin s (single.Delete name) t = refl

one_changed : (s : Source) (item : Item) (t : ℕ) → length (after_item s item t).changes ≡ length s.changes + 1
one_changed s item t = omega (arith, ap length (item_changes s item t), length-append s.changes (change_of s item t ∷ []))

-- Items in turn keep a property that every item at a later moment keeps.
pub kept_in_turn : (P : Source → Type 0) → ((s : Source) (item : Item) (t : ℕ) → P s → s.last < t → P (after_item s item t))
    → (s : Source) (items : List Item) (now : ℕ) → P s → P (after_items s items now)
kept_in_turn P keeps s [] now p = p
kept_in_turn P keeps s (item ∷ items) now p =
    let t : ℕ = moment_at s now in
    kept_in_turn P keeps (after_item s item t) items now (keeps s item t p (omega arith))

pub after-append : (s : Source) (a b : List Item) (now : ℕ) → after_items s (a ++ b) now ≡ after_items (after_items s a now) b now
after-append s [] b now = refl
after-append s (item ∷ a) b now = after-append (after_item s item (moment_at s now)) a b now

pub none_left : (items : List Item) → length items ≡ 0 → items ≡ []
none_left [] h = refl
none_left (item ∷ items) h = absurd (omega arith)

-- Items in turn append one change per item.
pub record AppendTo (s : Source) (items : List Item) (t : Source) : Type 0 where
  pub made : List Change
  pub count : length made ≡ length items
  pub changes : t.changes ≡ s.changes ++ made
  pub limit : t.limit ≡ s.limit
  pub first : t.first ≡ s.first
  pub begin : t.begin ≡ s.begin

one_more : (s : Source) (item : Item) (items : List Item) (t : ℕ) (u : Source) → AppendTo (after_item s item t) items u → AppendTo s (item ∷ items) u
one_more s item items t u rest =
    let c : Change = change_of s item t in
    record {
      made = c ∷ rest.made;
      count = ap suc rest.count;
      changes = rest.changes ∙ ap (λ l. l ++ rest.made) (item_changes s item t) ∙ append_assoc s.changes (c ∷ []) rest.made;
      limit = rest.limit ∙ item_limit s item t;
      first = rest.first ∙ item_first s item t;
      begin = rest.begin ∙ item_begin s item t;
    }

pub items_append : (s : Source) (items : List Item) (now : ℕ) → AppendTo s items (after_items s items now)
items_append s [] now = record { made = []; count = refl; changes = sym (append-nil s.changes); limit = refl; first = refl; begin = refl }
items_append s (item ∷ items) now =
    let t : ℕ = moment_at s now in
    let next : Source = after_item s item t in
    one_more s item items t (after_items next items now) (items_append next items now)

pub items_make : (s : Source) (items : List Item) (now : ℕ)
    → (made : List Change) × (length made ≡ length items) × ((after_items s items now).changes ≡ s.changes ++ made)
items_make s items now = let all : AppendTo s items (after_items s items now) = items_append s items now in (all.made, all.count, all.changes)

-- the first items make the first changes
pub front_changes : (s : Source) (items : List Item) (now k : ℕ)
    → (after_items s (take k items) now).changes ≡ take (length s.changes + k) (after_items s items now).changes
front_changes s [] now zero = sym (take_all (length s.changes + 0) s.changes (omega arith))
front_changes s [] now (suc k) = sym (take_all (length s.changes + suc k) s.changes (omega arith))
front_changes s (item ∷ items) now zero =
    let all : AppendTo s (item ∷ items) (after_items s (item ∷ items) now) = items_append s (item ∷ items) now in
    let same : length s.changes + 0 ≡ length s.changes = omega arith in
    sym (ap (λ n. take n (after_items s (item ∷ items) now).changes) same ∙ ap (take (length s.changes)) all.changes ∙ take-append_seam s.changes all.made)
front_changes s (item ∷ items) now (suc k) =
    let next : Source = after_item s item (moment_at s now) in
    let same : length next.changes + k ≡ length s.changes + suc k = omega (arith, one_changed s item (moment_at s now)) in
    front_changes next items now k ∙ ap (λ n. take n (after_items next items now).changes) same

-- two moments at which a command would be accepted at the same one
pub next_same : (s : Source) (item : Item) (a b : ℕ) → moment_at s a ≡ moment_at s b
    → moment_at (after_item s item (moment_at s a)) a ≡ moment_at (after_item s item (moment_at s a)) b
next_same s item a b h =
    let last : (after_item s item (moment_at s a)).last ≡ moment_at s a = item_last s item (moment_at s a) in
    omega (arith, last, h)

pub same_states : (s : Source) (items : List Item) (a b : ℕ) → moment_at s a ≡ moment_at s b → after_items s items a ≡ after_items s items b
same_states s [] a b h = refl
same_states s (item ∷ items) a b h =
    same_states (after_item s item (moment_at s a)) items a b (next_same s item a b h)
    ∙ ap (λ t. after_items (after_item s item t) items b) h

pub accepted_again : (s : Source) (now : ℕ) → moment_at s (moment_at s now) ≡ moment_at s now
accepted_again s now = omega arith
