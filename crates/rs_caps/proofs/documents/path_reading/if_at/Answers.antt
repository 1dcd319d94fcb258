-- Another path is not the document's.
use Rattle.std.proofs.Common.{◌≡◌, ℕ, List, [], ◌∷◌, Bool, false, cond, Some, None, refl, sym, ap, ◌∙◌}
use Rattle.std.specs.Str.{bytes_eq}
use Rattle.std.specs.Prelude.{◌&&◌, ◌==◌}
use Rattle.rs_time.specs.ReadMoment.{same_bytes}
use Rattle.rs_lists.specs.declared.doc.Doc.{Doc}
use Rattle.rs_caps.specs.Paths.{path_of, if_path_of}
use Rattle.rs_caps.proofs.documents.path_reading.if_at.Goals as goal

same_bytes-is : (x y : List ℕ) → same_bytes x y ≡ bytes_eq x y
same_bytes-is [] [] = refl
same_bytes-is [] (d ∷ y) = refl
same_bytes-is (c ∷ x) [] = refl
same_bytes-is (c ∷ x) (d ∷ y) = ap (λ b. (c == d) && b) (same_bytes-is x y)

not_there : (doc : Doc) (path place : List ℕ) (b : Bool) → place ≡ path_of doc → b ≡ bytes_eq path place → b ≡ false → None ≡ if_path_of doc path
not_there doc path place b at is differs =
    let apart : same_bytes path (path_of doc) ≡ false = ap (same_bytes path) (sym at) ∙ same_bytes-is path place ∙ sym is ∙ differs in
    ap (λ t. cond t (Some doc) None) (sym apart)

pub returns-else-eq : goal.returns-else-eq
returns-else-eq c = not_there c.args.doc c.args.path.now c.args.place.now c.eq.result c.requires c.eq.ensures c.if-eq.false
