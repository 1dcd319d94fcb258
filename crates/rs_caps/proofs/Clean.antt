-- No written value has one of the marks at which a reader cuts: the line feed, `"` and `<`.
use Rattle.std.proofs.Common.{◌≡◌, ℕ, ◌<◌, ◌^◌, List, [], ◌∷◌, ◌++◌, refl, ◌∙◌, arith, Bool, true, false, cond}
use Rattle.std.specs.Prelude.{codes, IsTrue, ◌==◌, ◌&&◌, not}
use Rattle.std.specs.Cmp.{first_so, second_so}
use Rattle.std.specs.List.{list_all, concat}
use Rattle.std.specs.Fmt.{decimal}
use Rattle.std.proofs.lemmas.Bool.Decides.{nat_tests}
use Rattle.std.proofs.lemmas.List.Folds.{list_all-append}
use Rattle.rs_time.specs.Moment.{moment_text, is_moment_byte}
use Rattle.rs_caps.proofs.FromBelow.{moment_text-bytes, lacks_by, hash_text-passes, name_clean, base_clean, media_type_lacks}
use Rattle.rs_fixity.specs.Cut.{lacks}
use Rattle.rs_fixity.specs.HashText.{hash_text_of}
use Rattle.rs_fixity.specs.declared.Digests.{Digests}
use Rattle.rs_record.specs.Name.{is_name}
use Rattle.rs_record.specs.MediaType.{is_media_type}
use Rattle.rs_record.specs.Base.{is_base, uri}
use Rattle.rs_record.specs.CleanBytes.{is_clean}
use Rattle.rs_lists.specs.Escape.{escaped, escape}
use Rattle.rs_lists.specs.Text.{resource_part_path, change_part_path}
use Rattle.rs_record.specs.Bytes.{is_digit}
use Rattle.rs_caps.proofs.Numbers.{decimal-digits}
use Rattle.rs_caps.proofs.Steps.{all_pass}

-- no byte is a line feed, `"` or `<`
abbrev pub IsClean : List ℕ → Type 0
IsClean text = list_all is_clean text ≡ true

pub lacks_mark : (mark : ℕ) → is_clean mark ≡ false → (text : List ℕ) → IsClean text → IsTrue (lacks mark text)
lacks_mark mark e text h = lacks_by is_clean mark e text h

pub joined_pass : (p : ℕ → Bool) (a b : List ℕ) → list_all p a ≡ true → list_all p b ≡ true → list_all p (a ++ b) ≡ true
joined_pass p a b h k = list_all-append p a b ∙ (λ i. h i && k i)

pub concat_passes : (p : ℕ → Bool) (pieces : List (List ℕ)) → list_all (list_all p) pieces ≡ true → list_all p (concat pieces) ≡ true
concat_passes p [] h = refl
concat_passes p (a ∷ pieces) h = joined_pass p a (concat pieces) (first_so (list_all p a) _ h)
    (concat_passes p pieces (second_so (list_all p a) _ h))

-- a byte that passes a test which the marks fail is none of them
clean_byte : (a b d : Bool) (p : ℕ → Bool) (c : ℕ) → (c == 10) ≡ a → (c == 34) ≡ b → (c == 60) ≡ d → p 10 ≡ false → p 34 ≡ false
    → p 60 ≡ false → p c ≡ true
    → (not a && not b && not d) ≡ true
clean_byte true b d p c e f g x y z h = let is : c ≡ 10 = grind (arith, nat_tests) in cc
clean_byte false true d p c e f g x y z h = let is : c ≡ 34 = grind (arith, nat_tests) in cc
clean_byte false false true p c e f g x y z h = let is : c ≡ 60 = grind (arith, nat_tests) in cc
clean_byte false false false p c e f g x y z h = refl

clean_by : (p : ℕ → Bool) → p 10 ≡ false → p 34 ≡ false → p 60 ≡ false → (text : List ℕ) → list_all p text ≡ true → IsClean text
clean_by p a b d text h = all_pass p is_clean (λ c k. clean_byte _ _ _ p c refl refl refl a b d k) text h

pub number_clean : (n : ℕ) → n < 2 ^ 64 → IsClean (decimal n)
number_clean n h = clean_by is_digit refl refl refl (decimal n) (decimal-digits n h)

pub number_lacks : (mark n : ℕ) → is_digit mark ≡ false → n < 2 ^ 64 → IsTrue (lacks mark (decimal n))
number_lacks mark n e h = lacks_by is_digit mark e (decimal n) (decimal-digits n h)

pub moment_clean : (t : ℕ) → IsClean (moment_text t)
moment_clean t = clean_by is_moment_byte refl refl refl (moment_text t) (moment_text-bytes t)

pub hash_clean : (d : Digests) → IsClean (hash_text_of d)
hash_clean d = hash_text-passes is_clean refl refl refl refl d

-- escaped text
clean_when : (a b d : Bool) → not a ≡ true → b ≡ false → d ≡ false → (not a && not b && not d && true) ≡ true
clean_when a b d h e f = λ i. h i && not (e i) && not (f i) && true

escaped_clean : (c : ℕ) (a b d e f : Bool) → not (c == 10) ≡ true → (c == 34) ≡ d → (c == 60) ≡ f
    → IsClean (cond a (codes "&amp;")
    (cond b (codes "&apos;") (cond d (codes "&quot;") (cond e (codes "&gt;") (cond f (codes "&lt;") (c ∷ []))))))
escaped_clean c true b d e f h p q = refl
escaped_clean c false true d e f h p q = refl
escaped_clean c false false true e f h p q = refl
escaped_clean c false false false true f h p q = refl
escaped_clean c false false false false true h p q = refl
escaped_clean c false false false false false h p q = clean_when (c == 10) (c == 34) (c == 60) h p q

escape_clean : (text : List ℕ) → IsTrue (lacks 10 text) → IsClean (escape text)
escape_clean [] h = refl
escape_clean (c ∷ text) h =
    joined_pass is_clean (escaped c) (escape text)
    (escaped_clean c (c == 38) (c == 39) (c == 34) (c == 62) (c == 60) (first_so (not (c == 10)) (lacks 10 text) h) refl refl)
    (escape_clean text (second_so (not (c == 10)) (lacks 10 text) h))

pub kind_clean : (kind : List ℕ) → IsTrue (is_media_type kind) → IsClean (escape kind)
kind_clean kind h = escape_clean kind (media_type_lacks kind h)

pub uri_clean : (base name : List ℕ) → IsTrue (is_base base) → IsTrue (is_name name) → IsClean (escape (uri base name))
uri_clean base name h k =
    let no_feed : ℕ → Bool = λ c. not (c == 10) in
    escape_clean (uri base name)
    (joined_pass no_feed (base ++ codes "/resource/") name
    (joined_pass no_feed base (codes "/resource/") (lacks_mark 10 refl base (base_clean base h)) refl)
    (lacks_mark 10 refl name (name_clean name k)))

-- the paths of parts
pub resource_part_path_clean : (p k : ℕ) → p < 2 ^ 64 → k < 2 ^ 64 → IsClean (resource_part_path p k)
resource_part_path_clean p k h l =
    joined_pass is_clean (codes "/resourcelist/" ++ decimal p ++ codes "/" ++ decimal k) (codes ".xml")
    (joined_pass is_clean (codes "/resourcelist/" ++ decimal p ++ codes "/") (decimal k)
    (joined_pass is_clean (codes "/resourcelist/" ++ decimal p) (codes "/") (number_clean p h) refl) (number_clean k l)) refl

pub change_part_path_clean : (k : ℕ) → k < 2 ^ 64 → IsClean (change_part_path k)
change_part_path_clean k h = joined_pass is_clean (codes "/changelist/" ++ decimal k) (codes ".xml") (number_clean k h) refl
