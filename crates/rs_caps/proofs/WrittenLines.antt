-- Every line of a list or an index is one line: it has no line feed.
use Rattle.std.proofs.Common.{ℕ, ◌+◌, ◌<◌, ◌^◌, List, [], ◌∷◌, ◌++◌, refl, arith, Option, Some, None, Bool, true, false}
use Rattle.std.specs.Prelude.{codes, IsTrue, ◌&&◌, not, ◌==◌}
use Rattle.std.specs.List.{list_all, concat}
use Rattle.std.specs.Fmt.{decimal}
use Rattle.rs_time.specs.Moment.{moment_text}
use Rattle.rs_fixity.specs.Cut.{lacks}
use Rattle.rs_fixity.specs.HashText.{hash_text_of}
use Rattle.rs_record.specs.Base.{is_base, uri}
use Rattle.rs_record.specs.Name.{is_name}
use Rattle.rs_record.specs.Changes.{binding, bound, deleted}
use Rattle.rs_record.specs.Format.{facts_in}
use Rattle.rs_record.specs.declared.facts.Facts.{Facts}
use Rattle.rs_record.specs.declared.record.Record.{Record}
use Rattle.rs_record.specs.declared.change.Change.{Change}
use Rattle.rs_caps.proofs.FromBelow.{base_clean}
use Rattle.rs_lists.specs.Escape.{escape}
use Rattle.rs_lists.specs.Shown.{Shown}
use Rattle.rs_lists.specs.Text.{resource_line, change_line, resource_md, change_md, resource_entry, change_entry, resource_part_path, change_part_path, link_line, from_of, until_of, until_parts, what_text, location_parts, facts_parts, lastmod_parts, some_facts_parts}
use Rattle.rs_model.specs.Lawful.{AreFacts, IsChange}
use Rattle.rs_caps.proofs.Lines.{IsLine, onto}
use Rattle.rs_caps.proofs.Clean.{IsClean, lacks_mark, joined_pass, concat_passes, number_clean, moment_clean, hash_clean, uri_clean, kind_clean, resource_part_path_clean, change_part_path_clean}
use Rattle.rs_caps.proofs.ChangeKinds.{by_kind}

-- a piece that is clean, before pieces that have no line feed
clean : (piece : List ℕ) (rest : Bool) → IsClean piece → IsTrue rest → IsTrue (lacks 10 piece && rest)
clean piece rest h k = onto piece rest (lacks_mark 10 refl piece h) k

moment : (t : ℕ) (rest : Bool) → IsTrue rest → IsTrue (lacks 10 (moment_text t) && rest)
moment t rest k = clean (moment_text t) rest (moment_clean t) k

pieces_line : (pieces : List (List ℕ)) → IsTrue (list_all (lacks 10) pieces) → IsLine (concat pieces)
pieces_line pieces h = concat_passes (λ c. not (c == 10)) pieces h

facts_pieces : (f : Facts) → AreFacts f → IsTrue (list_all (lacks 10) (facts_parts f ++ codes "/></url>" ∷ []))
facts_pieces f h =
    let few : f.length < 2 ^ 32 = h.length in
    clean (hash_text_of f.digests) _ (hash_clean f.digests)
    (clean (decimal f.length) _ (number_clean f.length (omega arith)) (clean (escape f.kind) _ (kind_clean f.kind h.kind) refl))

pub resource_is_line : (base : List ℕ) (r : Record) → IsTrue (is_base base) → IsTrue (is_name r.name)
    → AreFacts (facts_in r) → IsLine (resource_line base r)
resource_is_line base r b n f =
    pieces_line
    (location_parts base r.name ++ (codes "<lastmod>" ∷ moment_text r.moment ∷ codes "</lastmod><rs:md" ∷ []) ++ facts_parts
    (facts_in r) ++ codes "/></url>" ∷ [])
    (clean (escape (uri base r.name)) _ (uri_clean base r.name b n) (moment r.moment _ (facts_pieces (facts_in r) f)))

word_pieces : (again : Bool) (rest : Bool) → IsTrue rest → IsTrue (lacks 10 (what_text (binding again)) && rest)
word_pieces true rest k = k
word_pieces false rest k = k

bound_is_line : (base name : List ℕ) (again : Bool) (t : ℕ) (f : Facts) → IsTrue (is_base base) → IsTrue (is_name name)
    → AreFacts f → IsLine (change_line base (bound name again t f))
bound_is_line base name again t f b n k =
    pieces_line
    (location_parts base name ++ lastmod_parts (Some f) t
    ++ (codes "<rs:md change=\"" ∷ what_text (binding again) ∷ codes "\" datetime=\"" ∷ moment_text t ∷ codes "\"" ∷ [])
    ++ some_facts_parts (Some f) ++ codes "/></url>" ∷ [])
    (clean (escape (uri base name)) _ (uri_clean base name b n) (moment t _ (word_pieces again _ (moment t _ (facts_pieces f k)))))

deleted_is_line : (base name : List ℕ) (t : ℕ) → IsTrue (is_base base) → IsTrue (is_name name) → IsLine (change_line base (deleted name t))
deleted_is_line base name t b n =
    pieces_line
    (location_parts base name ++ lastmod_parts None t
    ++ (codes "<rs:md change=\"" ∷ codes "deleted" ∷ codes "\" datetime=\"" ∷ moment_text t ∷ codes "\"" ∷ [])
    ++ some_facts_parts None ++ codes "/></url>" ∷ [])
    (clean (escape (uri base name)) _ (uri_clean base name b n) (moment t _ refl))

pub change_is_line : (base : List ℕ) (c : Change) → IsTrue (is_base base) → IsChange c → IsLine (change_line base c)
change_is_line base c b =
    by_kind (λ c. IsChange c → IsLine (change_line base c)) (λ name again moment f h. bound_is_line base name again moment f b h.name h.facts)
    (λ name moment h. deleted_is_line base name moment b h.name) c

until_pieces : (until : Option ℕ) (end : List ℕ) → IsLine end → IsTrue (list_all (lacks 10) (until_parts until ++ end ∷ []))
until_pieces None end h = onto end true h refl
until_pieces (Some t) end h = moment t _ (onto end true h refl)

pub resource_md_is_line : (at : ℕ) → IsLine (resource_md at)
resource_md_is_line at = pieces_line (codes "<rs:md capability=\"resourcelist\" at=\"" ∷ moment_text at ∷ codes "\"/>" ∷ [])
    (moment at _ refl)

pub change_md_is_line : (start : ℕ) (until : Option ℕ) → IsLine (change_md start until)
change_md_is_line start until =
    pieces_line (codes "<rs:md capability=\"changelist\" from=\"" ∷ moment_text start ∷ codes "\"" ∷ until_parts until ++ codes "/>" ∷ [])
    (moment start _ (until_pieces until (codes "/>") refl))

pub resource_entry_is_line : (s : Shown) (k : ℕ) → IsTrue (is_base s.base) → s.number < 2 ^ 64 → k < 2 ^ 64 → IsLine (resource_entry s k)
resource_entry_is_line s k b p h =
    let path : List ℕ = resource_part_path s.number k in
    pieces_line (codes "<sitemap><loc>" ∷ (s.base ++ path) ∷ codes "</loc><rs:md at=\"" ∷ moment_text s.at ∷ codes "\"/></sitemap>" ∷ [])
    (clean (s.base ++ path) _ (joined_pass _ s.base path (base_clean s.base b) (resource_part_path_clean s.number k p h))
    (moment s.at _ refl))

pub change_entry_is_line : (s : Shown) (k : ℕ) → IsTrue (is_base s.base) → s.first + k < 2 ^ 64 → IsLine (change_entry s k)
change_entry_is_line s k b h =
    let path : List ℕ = change_part_path (s.first + k) in
    pieces_line (codes "<sitemap><loc>" ∷ (s.base ++ path) ∷ codes "</loc><rs:md from=\"" ∷ moment_text (from_of s k) ∷ codes "\""
    ∷ until_parts (until_of s k) ++ codes "/></sitemap>" ∷ [])
    (clean (s.base ++ path) _ (joined_pass _ s.base path (base_clean s.base b) (change_part_path_clean (s.first + k) h))
    (moment (from_of s k) _ (until_pieces (until_of s k) (codes "/></sitemap>") refl)))

pub link_is_line : (relation base path : List ℕ) → IsLine relation → IsTrue (is_base base) → IsLine path
    → IsLine (link_line relation base path)
link_is_line relation base path r b p =
    pieces_line (codes "<rs:ln rel=\"" ∷ relation ∷ codes "\" href=\"" ∷ base ∷ path ∷ codes "\"/>" ∷ [])
    (onto relation _ r (clean base _ (base_clean base b) (onto path _ p refl)))
