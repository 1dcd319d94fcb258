-- The lines of items, in the pieces that are put.
use Rattle.std.proofs.Common.{◌≡◌, ℕ, suc, zero, ◌+◌, get_or, map, take, List, [], ◌∷◌, ◌++◌, refl, sym, ap, ◌∙◌, Option, Some, None}
use Rattle.std.specs.Prelude.{codes, slice_get, IsTrue}
use Rattle.std.specs.List.{concat}
use Rattle.std.specs.Fmt.{decimal}
use Rattle.rs_time.specs.Moment.{moment_text}
use Rattle.rs_fixity.specs.HashText.{hash_text_of}
use Rattle.rs_record.specs.Base.{is_base}
use Rattle.rs_record.specs.declared.facts.Facts.{Facts}
use Rattle.rs_record.specs.declared.record.Record.{Record}
use Rattle.rs_record.specs.declared.change.Change.{Change}
use Rattle.rs_record.specs.Changes.{last_moment}
use Rattle.rs_lists.specs.Escape.{escape}
use Rattle.rs_lists.specs.Shown.{Shown}
use Rattle.rs_lists.specs.Text.{line, resource_line, change_line, what_text, location_parts, lastmod_parts, some_facts_parts, resource_entry, change_entry, until_parts, until_of, from_of, change_part_path}
use Rattle.rs_lists.proofs.Plain.{escape-uri}
use Rattle.rs_lists.proofs.Lines.{resource_path_pieces, change_path_pieces}

-- the line of an item that was found at its place
pub item_line : {A : Type 0} (f : List ℕ → A → List ℕ) (b base : List ℕ) (xs : List A) (i : ℕ) (x : A) → b ≡ base → slice_get xs i ≡ Some x → line (f b x) ≡ line (get_or (map (f base) xs) i [])
item_line f b base xs i x e h = ap (λ y. line (f y x)) e ∙ ap line (found (f base) xs i x h)
  where
    found : {A : Type 0} (f : A → List ℕ) (xs : List A) (i : ℕ) (x : A) → slice_get xs i ≡ Some x → f x ≡ get_or (map f xs) i []
    found f [] i x h = cc
    found f (y ∷ xs) zero x h = let e : y ≡ x = cc in ap f (sym e)
    found f (y ∷ xs) (suc i) x h = found f xs i x h

-- the text after the URI in the line of a resource
resource_rest : Record → List ℕ → List ℕ
resource_rest r kind =
    concat (codes "</loc><lastmod>" ∷ moment_text r.moment ∷ codes "</lastmod><rs:md hash=\"" ∷ hash_text_of r.digests ∷ codes "\" length=\"" ∷ decimal r.length ∷ codes "\" type=\"" ∷ escape kind ∷ codes "\"/></url>" ∷ [])

pub resource_pieces : (base : List ℕ) (r : Record) (b n k : List ℕ) → IsTrue (is_base base) → b ≡ base → n ≡ r.name → k ≡ r.kind
    → line (codes "<url><loc>" ++ (b ++ (codes "/resource/" ++ (escape n ++ (codes "</loc><lastmod>" ++ (moment_text r.moment ++ (codes "</lastmod><rs:md hash=\"" ++ (hash_text_of r.digests ++ (codes "\" length=\"" ++ (decimal r.length ++ (codes "\" type=\"" ++ (escape k ++ (codes "\"/></url>" ++ [])))))))))))))
    ≡ line (resource_line base r)
unfolding resource_rest
resource_pieces base r b n k h p q s =
    rw (p, q, s) (ap (λ x. line (codes "<url><loc>" ++ x)) (sym (escape-uri base r.name (resource_rest r r.kind) h)))

pub resource_entry_pieces : (s : Shown) (k : ℕ) (b : List ℕ) (n t : ℕ) → b ≡ s.base → n ≡ s.number → t ≡ s.at
    → line (codes "<sitemap><loc>" ++ (b ++ (codes "/resourcelist/" ++ (decimal n ++ (codes "/" ++ (decimal k ++ (codes ".xml</loc><rs:md at=\"" ++ (moment_text t ++ (codes "\"/></sitemap>" ++ [])))))))))
    ≡ line (resource_entry s k)
resource_entry_pieces s k b n t p q r =
    rw (p, q, r) (ap (λ x. line (codes "<sitemap><loc>" ++ x)) (resource_path_pieces s.base (codes "</loc><rs:md at=\"" ++ (moment_text s.at ++ (codes "\"/></sitemap>" ++ []))) s.number k))

-- the moment of the last of some changes
pub last_moment-take : (t : ℕ) (changes : List Change) (n : ℕ) (c : Change) → slice_get changes n ≡ Some c → last_moment t (take (suc n) changes) ≡ c.moment
last_moment-take t [] n c h = cc
last_moment-take t (x ∷ changes) zero c h = let e : x ≡ c = cc in ap (λ (y : Change). y.moment) e
last_moment-take t (x ∷ changes) (suc n) c h = last_moment-take x.moment changes n c h

-- the text after the URI in the line of a change that created or updated a resource
bound_rest : Change → Facts → List ℕ → List ℕ → List ℕ
bound_rest c f word kind =
    concat (codes "</loc><lastmod>" ∷ moment_text c.moment ∷ codes "</lastmod><rs:md change=\"" ∷ word ∷ codes "\" datetime=\"" ∷ moment_text c.moment ∷ codes "\" hash=\"" ∷ hash_text_of f.digests ∷ codes "\" length=\"" ∷ decimal f.length ∷ codes "\" type=\"" ∷ escape kind ∷ codes "\"/></url>" ∷ [])

-- the line of a change that has these facts
unfoldable pub change_line_with : List ℕ → Change → Option Facts → List ℕ
change_line_with base c facts =
    concat (location_parts base c.name ++ lastmod_parts facts c.moment ++ (codes "<rs:md change=\"" ∷ what_text c.what ∷ codes "\" datetime=\"" ∷ moment_text c.moment ∷ codes "\"" ∷ []) ++ some_facts_parts facts ++ codes "/></url>" ∷ [])

pub bound_pieces : (base : List ℕ) (c : Change) (f : Facts) (b n w k : List ℕ) → IsTrue (is_base base) → c.facts ≡ Some f → b ≡ base → n ≡ c.name → w ≡ what_text c.what → k ≡ f.kind
    → line (codes "<url><loc>" ++ (b ++ (codes "/resource/" ++ (escape n ++ (codes "</loc><lastmod>" ++ (moment_text c.moment ++ (codes "</lastmod><rs:md change=\"" ++ (w ++ (codes "\" datetime=\"" ++ (moment_text c.moment ++ (codes "\" hash=\"" ++ (hash_text_of f.digests ++ (codes "\" length=\"" ++ (decimal f.length ++ (codes "\" type=\"" ++ (escape k ++ (codes "\"/></url>" ++ [])))))))))))))))))
    ≡ line (change_line base c)
unfolding bound_rest change_line_with
bound_pieces base c f b n w k h e p q r s =
    rw (p, q, r, s) (ap (λ x. line (codes "<url><loc>" ++ x)) (sym (escape-uri base c.name (bound_rest c f (what_text c.what) f.kind) h)))
    ∙ ap (λ x. line (change_line_with base c x)) (sym e)

-- the text after the URI in the line of a change that deleted a resource
unbound_rest : Change → List ℕ → List ℕ
unbound_rest c word = concat (codes "</loc><rs:md change=\"" ∷ word ∷ codes "\" datetime=\"" ∷ moment_text c.moment ∷ codes "\"/></url>" ∷ [])

pub unbound_pieces : (base : List ℕ) (c : Change) (b n w : List ℕ) → IsTrue (is_base base) → c.facts ≡ None → b ≡ base → n ≡ c.name → w ≡ what_text c.what
    → line (codes "<url><loc>" ++ (b ++ (codes "/resource/" ++ (escape n ++ (codes "</loc><rs:md change=\"" ++ (w ++ (codes "\" datetime=\"" ++ (moment_text c.moment ++ (codes "\"/></url>" ++ [])))))))))
    ≡ line (change_line base c)
unfolding unbound_rest change_line_with
unbound_pieces base c b n w h e p q r =
    rw (p, q, r) (ap (λ x. line (codes "<url><loc>" ++ x)) (sym (escape-uri base c.name (unbound_rest c (what_text c.what)) h)))
    ∙ ap (λ x. line (change_line_with base c x)) (sym e)

-- the line of a part of the Change List that is open or closed
change_entry_with : List ℕ → ℕ → ℕ → Option ℕ → List ℕ
change_entry_with base number from until =
    concat (codes "<sitemap><loc>" ∷ (base ++ change_part_path number) ∷ codes "</loc><rs:md from=\"" ∷ moment_text from ∷ codes "\"" ∷ until_parts until ++ codes "/></sitemap>" ∷ [])

change_entry_same : (s : Shown) (k : ℕ) (b : List ℕ) (number from : ℕ) (until : Option ℕ) → b ≡ s.base → number ≡ s.first + k → from ≡ from_of s k → until ≡ until_of s k
    → line (change_entry_with b number from until) ≡ line (change_entry s k)
unfolding change_entry_with
change_entry_same s k b number from until p q r t = rw (p, q, r, t) refl

pub open_entry_pieces : (s : Shown) (k : ℕ) (b : List ℕ) (number from : ℕ) → b ≡ s.base → number ≡ s.first + k → from ≡ from_of s k → None ≡ until_of s k
    → line (codes "<sitemap><loc>" ++ (b ++ (codes "/changelist/" ++ (decimal number ++ (codes ".xml</loc><rs:md from=\"" ++ (moment_text from ++ (codes "\"/></sitemap>" ++ [])))))))
    ≡ line (change_entry s k)
unfolding change_entry_with
open_entry_pieces s k b number from p q r t =
    ap (λ x. line (codes "<sitemap><loc>" ++ x)) (change_path_pieces b (codes "</loc><rs:md from=\"" ++ (moment_text from ++ (codes "\"/></sitemap>" ++ []))) number)
    ∙ change_entry_same s k b number from None p q r t

pub closed_entry_pieces : (s : Shown) (k : ℕ) (b : List ℕ) (number from until : ℕ) → b ≡ s.base → number ≡ s.first + k → from ≡ from_of s k → Some until ≡ until_of s k
    → line (codes "<sitemap><loc>" ++ (b ++ (codes "/changelist/" ++ (decimal number ++ (codes ".xml</loc><rs:md from=\"" ++ (moment_text from ++ (codes "\" until=\"" ++ (moment_text until ++ (codes "\"/></sitemap>" ++ [])))))))))
    ≡ line (change_entry s k)
unfolding change_entry_with
closed_entry_pieces s k b number from until p q r t =
    ap (λ x. line (codes "<sitemap><loc>" ++ x)) (change_path_pieces b (codes "</loc><rs:md from=\"" ++ (moment_text from ++ (codes "\" until=\"" ++ (moment_text until ++ (codes "\"/></sitemap>" ++ []))))) number)
    ∙ change_entry_same s k b number from (Some until) p q r t
