-- Plans of a put whose body has not arrived yet.
use Rattle.std.specs.Prelude.{◌≡◌, ℕ, List, length}
use Rattle.rs_fixity.specs.Digests.{digests}
use Rattle.rs_fixity.specs.declared.Digests.{Digests}
use Rattle.rs_record.specs.declared.record.Record.{Record}
use Rattle.rs_record.specs.declared.change.Change.{Change}
use Rattle.rs_pages.specs.Laws.{BindsAsOne, UnbindsAsOne, AppendsAsOne, FillingBound, FillingAppended, BindingTouchesOne, UnbindingTouchesOne, AppendingTouchesOne, BoundStandsUnstored, AppendedEndsUnstored}
use Rattle.rs_catalogue.specs.Catalogue.{StandsUnstored}
use Rattle.rs_catalogue.specs.Filled.{pages_filled}
use Rattle.rs_changes.specs.History.{EndsUnstored, with_pages}
use Rattle.rs_changes.specs.Filled.{history_filled}
use Rattle.rs_image.specs.declared.contents.Contents.{Contents}
use Rattle.rs_image.specs.Rooted.{Rooted}
use Rattle.rs_model.specs.declared.command.Command.TheVariants.{Put}
use Rattle.rs_plan.specs.declared.plan.Plan.{Plan}
use Rattle.rs_plan.specs.Plans.{IsPlanned}

-- the lists, where the record of a name and the last change have these digests
abbrev pub lists_filled : List ℕ → Digests → Contents → Contents
lists_filled name digests c =
    record {
      header = c.header;
      catalogue = pages_filled name digests c.catalogue;
      history = with_pages c.history (history_filled digests c.history.pages);
      published = c.published;
    }

-- the plan with these lists
abbrev pub plan_filled : List ℕ → Digests → Plan → Plan
plan_filled name digests p =
    record {
      contents = lists_filled name digests p.contents;
      bodies = p.bodies;
      directory = p.directory;
      reply = p.reply;
      taken = p.taken;
      freed = p.freed;
    }

-- once the digests of a body of n bytes are filled in, the plan is one of the put of it
abbrev pub IsDraftOf : Rooted → List ℕ → List ℕ → ℕ → ℕ → Plan → Type 0
IsDraftOf r name kind n moment p = (body : List ℕ) → length body ≡ n → IsPlanned r (Put name kind body) moment (plan_filled name (digests body) p)

-- The record of a name and the last change are in pages that are not stored, so that both may still get digests.
pub record AwaitsBody (name : List ℕ) (p : Plan) : Type 0 where
  pub catalogue : StandsUnstored name p.contents.catalogue
  pub history : EndsUnstored p.contents.history.pages

-- A draft of a put of n bytes: its digests can still be filled in, and then it is a plan of the put.
pub record IsDraft (r : Rooted) (name kind : List ℕ) (n moment : ℕ) (p : Plan) : Type 0 where
  pub awaits : AwaitsBody name p
  pub planned : IsDraftOf r name kind n moment p

-- The facts that the page rule keeps in the lists of a draft and of a group: the item that is bound or appended is in a
-- page that is not stored, and filling it makes the pages that have it filled from the start.
pub record IsPageRuleKept : Type 0 where
  pub bound : BindsAsOne (λ (r : Record). r.name)
  pub unbound : UnbindsAsOne (λ (r : Record). r.name)
  pub appended : AppendsAsOne Change
  pub filled : FillingBound (λ (r : Record). r.name)
  pub filled_last : FillingAppended Change
  pub touches_bound : BindingTouchesOne (λ (r : Record). r.name)
  pub touches_unbound : UnbindingTouchesOne (λ (r : Record). r.name)
  pub touches_appended : AppendingTouchesOne Change
  pub stands : BoundStandsUnstored (λ (r : Record). r.name)
  pub ends : AppendedEndsUnstored Change
