-- Facts about the lists of a root and about a moment, where a command is planned.
use Rattle.std.proofs.Common.{◌≡◌, ◌<◌, ℕ, Bool, List, Result, ◌∙◌, ap, subst}
use Rattle.std.specs.Prelude.{IfOk, IsErrOf}
use Rattle.std.proofs.lemmas.Result.{IfOk-weaker}
use Rattle.rs_time.specs.Moment.{IsMoment}
use Rattle.rs_extent.specs.declared.Extent.{Extent}
use Rattle.rs_catalogue.specs.Catalogue.{IsCatalogue}
use Rattle.rs_model.specs.declared.command.Reply.{Reply}
use Rattle.rs_image.specs.declared.contents.Contents.{Contents}
use Rattle.rs_image.specs.Rooted.{Rooted, IsRooted}
use Rattle.rs_image.specs.StateOfImage.{AreLists}
use Rattle.rs_plan.specs.declared.plan.Plan.{Plan}
use Rattle.rs_plan.specs.declared.planning.PlanFault.{PlanFault}
use Rattle.rs_plan.specs.declared.planning.PlanFault.TheVariants.{Full}
use Rattle.rs_plan.specs.Drafts.{IsPageRuleKept}
use Rattle.rs_plan.specs.PlacedFrom.{IsPlacedFrom, HasNoRoomFrom}

pub record IsAccepted (r : Rooted) (moment : ℕ) : Type 0 where
  pub law : IsPageRuleKept
  pub sound : IsRooted r
  pub lawful : IsCatalogue r.contents.catalogue
  pub is_moment : IsMoment moment
  pub later : r.contents.header.last < moment

pub accepted : (r : Rooted) (c : Contents) (moment : ℕ) → c ≡ r.contents → IsPageRuleKept → IsRooted r → AreLists c → IsMoment moment → r.contents.header.last < moment
    → IsAccepted r moment
accepted r c moment at law sound lists is later =
    record { law = law; sound = sound; lawful = subst (λ (x : Contents). IsCatalogue x.catalogue) at lists.catalogue; is_moment = is; later = later }

-- Lists that were made of the lists of the root, found equal to them.
pub made_of : (f : Contents → Contents) (c old lists : Contents) → c ≡ old → lists ≡ f c → lists ≡ f old
made_of f c old lists at is = is ∙ ap f at

-- The conclusions from lists that are placed, or have no room, follow from the answer of placing them.
pub answered : (IsFine : Plan → Type 0) (IsFull : Type 0) (result : Result Plan PlanFault) (used : List Bool) (bodies : List Extent) (lists final : Contents) (told : Reply) (gone : List Extent)
    → lists ≡ final → ((p : Plan) → IsPlacedFrom used bodies final told gone p → IsFine p) → (HasNoRoomFrom used bodies final → IsFull)
    → IfOk result (IsPlacedFrom used bodies lists told gone) → (IsErrOf result Full → HasNoRoomFrom used bodies lists) → IfOk result IsFine × (IsErrOf result Full → IsFull)
answered IsFine IsFull result used bodies lists final told gone is fine full placed none = (
  IfOk-weaker result (IsPlacedFrom used bodies lists told gone) IsFine (λ p from. fine p (subst (λ (c : Contents). IsPlacedFrom used bodies c told gone p) is from)) placed,
  λ error. full (subst (HasNoRoomFrom used bodies) is (none error)),
)
