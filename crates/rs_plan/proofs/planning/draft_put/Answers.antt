use Rattle.std.proofs.Common.{◌≡◌, ℕ, Bool, List, [], ◌∷◌, ◌++◌, length, inl, sym, refl, ◌∙◌, ap, subst}
use Rattle.std.specs.Prelude.{MatchOption, replicate}
use Rattle.std.proofs.lemmas.Result.{IfOk-weaker}
use Rattle.rs_fixity.specs.declared.Digests.{Digests}
use Rattle.rs_fixity.specs.Digests.{digests}
use Rattle.rs_extent.specs.declared.Extent.{Extent}
use Rattle.rs_extent.specs.Extents.{CanTake}
use Rattle.rs_body.specs.Blocks.{blocks_of}
use Rattle.rs_record.specs.declared.record.Record.{Record}
use Rattle.rs_record.specs.declared.change.Change.{Change}
use Rattle.rs_page.specs.Items.{record_format, change_format}
use Rattle.rs_changes.specs.History.{changes_of, last_of}
use Rattle.rs_image.specs.declared.contents.Contents.{Contents}
use Rattle.rs_image.specs.StateOfImage.{state_in}
use Rattle.rs_image.specs.Rooted.{Rooted, AreUsed}
use Rattle.rs_model.specs.Step.{reply_to}
use Rattle.rs_model.specs.declared.command.Command.TheVariants.{Put}
use Rattle.rs_model.specs.declared.command.Item.TheVariants as single
use Rattle.rs_model.specs.declared.command.Reply.{Reply}
use Rattle.rs_plan.specs.declared.plan.Plan.{Plan}
use Rattle.rs_plan.specs.Allowed.{MayPut}
use Rattle.rs_plan.specs.Drafts.{AwaitsBody, IsDraft, plan_filled}
use Rattle.rs_plan.specs.Freed.{freed_by_change}
use Rattle.rs_plan.specs.Placed.{AreUnplaced, record_of_body, facts_of_body}
use Rattle.rs_plan.specs.PlacedFrom.{IsPlacedFrom, HasNoRoomFrom}
use Rattle.rs_plan.specs.Plans.{IsPlanned, IsFullFor}
use Rattle.rs_plan.specs.Replies.{reply_of}
use Rattle.rs_plan.specs.Room.{HasNoRun, IsFoundRun}
use Rattle.rs_plan.specs.Turned.{change_of_record, lists_after_put}
use Rattle.rs_plan.proofs.Drafts.{AreLong, placed_stands, placed_ends}
use Rattle.rs_plan.proofs.Drafted.{filled_lacks, filled_from}
use Rattle.rs_plan.proofs.Extents.{found_free, found_somewhere, one_can, takes_one}
use Rattle.rs_plan.proofs.Placing.{all_unplaced}
use Rattle.rs_plan.proofs.Grouped.{put_does, may_one, frees_one, items_lack, items_planned}
use Rattle.rs_plan.proofs.Here.{IsAccepted, accepted, made_of}
use Rattle.rs_plan.proofs.ItemSteps.{unplaced_with}
use Rattle.rs_plan.proofs.Replies.{put_told, some_change}
use Rattle.rs_plan.proofs.planning.draft_put.Goals as goal
use Rattle.rs_plan.proofs.planning.draft_put.Goals.{After-types_are_kept, In_ok-lists}

-- the placeholder for digests that are not known
abbrev unknown : Digests
unknown = record { md5 = replicate 16 0; sha256 = replicate 32 0 }

unknown_long : AreLong unknown
unknown_long = record { md5 = refl; sha256 = refl }

-- the record of a draft
abbrev blank : List ℕ → List ℕ → ℕ → Extent → ℕ → Record
blank name kind n body moment = record_of_body name kind n unknown body moment

-- The lists of a draft of a root.
module _ (r : Rooted) (b : Record) (given : IsAccepted r b.moment) where
  abbrev lists : Contents
  lists = lists_after_put r.contents b

  abbrev change : Change
  change = change_of_record r.contents b

  unplaced : AreUnplaced lists
  unplaced =
      unplaced_with given.law r.contents lists.catalogue change b.moment (given.law.touches_bound b r.contents.catalogue)
      (all_unplaced r.contents given.sound.whole.catalogue given.sound.whole.history)

  one_more : changes_of lists.history.pages ≡ changes_of r.contents.history.pages ++ change ∷ []
  one_more = given.law.appended change r.contents.history.pages

  -- Its record and its last change are in pages that are not stored, also once these have their places.
  awaits : (used : List Bool) (bodies : List Extent) (told : Reply) (gone : List Extent) (p : Plan) → IsPlacedFrom used bodies lists told gone p → AwaitsBody b.name p
  awaits used bodies told gone p from =
      let placed = from.placed in
      record {
        catalogue = placed_stands record_format (λ (r : Record). r.name) b.name from.after_bodies placed.lists.after_catalogue lists.catalogue p.contents.catalogue placed.lists.catalogue
            (given.law.stands b r.contents.catalogue);
        history = placed_ends change_format placed.lists.after_catalogue placed.lists.after_history lists.history.pages p.contents.history.pages placed.lists.history
            (given.law.ends change r.contents.history.pages);
      }

  told_of : (told : Reply) → MatchOption (last_of (changes_of lists.history.pages)) ⊥ (λ x. told ≡ reply_of x)
      → (bytes image : List ℕ) → told ≡ reply_to (state_in image r.contents) (Put b.name b.kind bytes) b.moment
  told_of told is bytes image = put_told image r.contents lists b.name b.kind bytes b.moment (facts_of_body b.kind b.length b.digests) told one_more is

-- Where the body has as many bytes as were counted, the blocks found for the draft are found for the put.
module _ (r : Rooted) (name kind bytes : List ℕ) (body : Extent) (moment : ℕ) (given : IsAccepted r moment) (used : List Bool) (are_used : AreUsed r used)
    (may : MayPut r.contents name (length bytes) moment) (found : IsFoundRun used (blocks_of (length bytes)) body) where
  lacks : HasNoRoomFrom used (body ∷ []) (lists_after_put r.contents (blank name kind (length bytes) body moment)) → IsFullFor r (Put name kind bytes) moment
  lacks room =
      items_lack r moment given (Put name kind bytes) (single.Put name kind bytes ∷ []) (put_does name kind bytes) (body ∷ [])
      (may_one r moment given (single.Put name kind bytes) may (body ∷ [])) used are_used (λ after taken. takes_one used after (blocks_of (length bytes)) body found taken)
      (filled_lacks given.law r.contents given.lawful.held.ordered unknown unknown_long name kind bytes body moment used (body ∷ []) room)

  planned : (told : Reply) (gone : List Extent) (p : Plan) → ((image : List ℕ) → told ≡ reply_to (state_in image r.contents) (Put name kind bytes) moment)
      → gone ≡ freed_by_change r name → IsPlacedFrom used (body ∷ []) (lists_after_put r.contents (blank name kind (length bytes) body moment)) told gone p
      → IsPlanned r (Put name kind bytes) moment (plan_filled name (digests bytes) p)
  planned told gone p reply freed from =
      items_planned r moment given (Put name kind bytes) (single.Put name kind bytes ∷ []) (put_does name kind bytes) (body ∷ [])
      (may_one r moment given (single.Put name kind bytes) may (body ∷ [])) used are_used (λ after taken. takes_one used after (blocks_of (length bytes)) body found taken)
      told gone (plan_filled name (digests bytes) p) reply (freed ∙ frees_one r (single.Put name kind bytes) moment (body ∷ []))
      (filled_from given.law r.contents given.lawful.held.ordered unknown unknown_long name kind bytes body moment used (body ∷ []) told gone p from)

given : (c : After-types_are_kept) → IsAccepted c.args.old.now c.args.moment
given c =
    accepted c.args.old.now _ c.args.moment c.contents-contents.ensures.contents c.page_rule_is_kept.ensures c.contents-contents.ensures.sound c.types_are_kept.ensures.lists
    c.types_are_kept.ensures.moment c.requires.may.change.later

abbrev drafted : In_ok-lists → Record
drafted c = blank c.args.name.now c.args.kind.now c.args.body_length c.in-Some.body c.args.moment

pub reply_told-reply-requires : goal.reply_told-reply-requires
reply_told-reply-requires c =
    let at = goal.at.reply_told-reply-requires c in
    let r = c.args.old.now in
    let b = drafted at.In_ok-lists in
    let are = made_of (λ x. lists_after_put x b) _ r.contents _ c.contents-contents.ensures.contents c.in_ok-lists.ensures in
    some_change r.contents c.in_ok-lists.lists (change_of_record r.contents b) (ap (λ (x : Contents). changes_of x.history.pages) are ∙ one_more r b (given at.After-types_are_kept))

pub place_lists-requires : goal.place_lists-requires
place_lists-requires c =
    let at = goal.at.place_lists-requires c in
    let r = c.args.old.now in
    let b = drafted at.In_ok-lists in
    let used = c.args.used.now in
    let body = c.in-Some.body in
    record {
      unplaced = subst AreUnplaced (sym (made_of (λ x. lists_after_put x b) _ r.contents _ c.contents-contents.ensures.contents c.in_ok-lists.ensures)) (unplaced r b (given at.After-types_are_kept));
      are_free = subst (CanTake used) (sym c.in_ok-bodies.ensures.items) (one_can used body (found_free used (blocks_of c.args.body_length) body c.in-Some.ensures));
    }

pub returns-clause-no_body : goal.returns-clause-no_body
returns-clause-no_body c none = absurd (found_somewhere c.args.used.now (blocks_of c.args.body_length) c.in-Some.body c.in-Some.ensures none)

pub returns-in_default-clause-full : goal.returns-in_default-clause-full
returns-in_default-clause-full c full bytes is = record {
  used = c.args.used.now;
  are_used = c.requires.used;
  lacks = inl (subst (λ (n : ℕ). HasNoRun c.args.used.now (blocks_of n)) (sym is) c.in_default.ensures);
}

pub returns-clause-draft : goal.returns-clause-draft
returns-clause-draft c =
    let at = goal.at.returns-clause-draft c in
    let r = c.args.old.now in
    let name = c.args.name.now in
    let kind = c.args.kind.now in
    let n = c.args.body_length in
    let body = c.in-Some.body in
    let moment = c.args.moment in
    let used = c.args.used.now in
    let b = drafted at.In_ok-lists in
    let accept = given at.After-types_are_kept in
    let are = made_of (λ x. lists_after_put x b) _ r.contents _ c.contents-contents.ensures.contents c.in_ok-lists.ensures in
    let told = c.reply_told-reply.result in
    let gone = c.in_ok-freed.freed.items in
    let reply = told_of r b accept told (subst (λ (x : Contents). MatchOption (last_of (changes_of x.history.pages)) ⊥ (λ change. told ≡ reply_of change)) are c.reply_told-reply.ensures) in
    IfOk-weaker c.place_lists.result (IsPlacedFrom used c.in_ok-bodies.bodies.items c.in_ok-lists.lists told gone) (IsDraft r name kind n moment)
    (λ p from.
    let placed : IsPlacedFrom used (body ∷ []) (lists r b accept) told gone p =
    subst (λ (l : List Extent). IsPlacedFrom used l (lists r b accept) told gone p) c.in_ok-bodies.ensures.items
    (subst (λ (x : Contents). IsPlacedFrom used c.in_ok-bodies.bodies.items x told gone p) are from) in
    record {
      awaits = awaits r b accept used (body ∷ []) told gone p placed;
      planned = λ bytes is.
          subst (λ (k : ℕ). MayPut r.contents name k moment → IsFoundRun used (blocks_of k) body
          → IsPlacedFrom used (body ∷ []) (lists_after_put r.contents (blank name kind k body moment)) told gone p
          → IsPlanned r (Put name kind bytes) moment (plan_filled name (digests bytes) p)) is
          (λ may found from. planned r name kind bytes body moment accept used c.requires.used may found told gone p (reply bytes) c.in_ok-freed.ensures from)
          c.requires.may c.in-Some.ensures placed;
    }) c.place_lists.ensures.placed

pub returns-clause-full : goal.returns-clause-full
returns-clause-full c full bytes is =
    let at = goal.at.returns-clause-full c in
    let r = c.args.old.now in
    let name = c.args.name.now in
    let kind = c.args.kind.now in
    let body = c.in-Some.body in
    let moment = c.args.moment in
    let used = c.args.used.now in
    let b = drafted at.In_ok-lists in
    subst (λ (k : ℕ). MayPut r.contents name k moment → IsFoundRun used (blocks_of k) body
    → HasNoRoomFrom used (body ∷ []) (lists_after_put r.contents (blank name kind k body moment)) → IsFullFor r (Put name kind bytes) moment) is
    (lacks r name kind bytes body moment (given at.After-types_are_kept) used c.requires.used) c.requires.may c.in-Some.ensures
    (subst (λ (l : List Extent). HasNoRoomFrom used l (lists_after_put r.contents b)) c.in_ok-bodies.ensures.items
    (subst (HasNoRoomFrom used c.in_ok-bodies.bodies.items) (made_of (λ x. lists_after_put x b) _ r.contents _ c.contents-contents.ensures.contents c.in_ok-lists.ensures) (c.place_lists.ensures.full full)))
