-- The stripped text, by the contract of the library.
use Rattle.std.proofs.Common.{◌≡◌, sym, ap, ◌∙◌, ℕ, List, Option, Some, None, ◌≢◌, ◌++◌, Bor}
use Rattle.std.specs.Prelude.{option_copied, MatchOption}
use Rattle.std.proofs.lemmas.Bool.Decides.{Decides-eqb}
use Rattle.std.proofs.lemmas.Slice.Eq.{strip_prefix_is}
use Rattle.rs_caps.specs.Cut.{strip}
use Rattle.rs_caps.proofs.FromBelow.{strip_own}
use Rattle.rs_caps.proofs.Cutting.{strip-none}
use Rattle.rs_caps.proofs.documents.path_reading.strip.Goals as goal

stripped_is : (prefix text : List ℕ) (r : Option (Bor (List ℕ))) → MatchOption r ((rest : List ℕ) → text ≢ prefix ++ rest) (λ x. text ≡ prefix ++ x.now)
    → option_copied r ≡ strip prefix text
stripped_is prefix text None h = sym (strip-none prefix text h)
stripped_is prefix text (Some x) h = sym (ap (strip prefix) h ∙ strip_own prefix x.now)

pub returns : goal.returns
returns c =
    stripped_is c.args.prefix.now c.args.text.now c.strip_prefix.result
    (strip_prefix_is Decides-eqb c.args.text.now c.args.prefix.now c.strip_prefix.result c.strip_prefix.ensures.cases)
