use Rattle.std.proofs.Common.{inl, ◌++◌, ℕ, Bool, List, sym, ◌∙◌, ap, subst}
use Rattle.rs_body.specs.Blocks.{blocks_of}
use Rattle.rs_record.specs.declared.change.Change.{Change}
use Rattle.rs_record.specs.declared.record.Record.{Record}
use Rattle.rs_page.specs.Items.{record_format, change_format}
use Rattle.rs_page.specs.Pages.{Page}
use Rattle.rs_page.specs.Placing.{Places}
use Rattle.rs_directory.specs.Directory.{directory_length}
use Rattle.rs_image.specs.declared.contents.Contents.{Contents}
use Rattle.rs_plan.specs.Room.{HasNoRun, HasNoRoom, pages_needed}
use Rattle.rs_copy.proofs.FromBelow.{room_after, room_none}
use Rattle.rs_copy.specs.Laying.{copy_needed}
use Rattle.rs_copy.specs.Copying.{AreAllUnplaced}
use Rattle.rs_copy.proofs.Roomy.{directory_needed, needed_in_turn}
use Rattle.rs_copy.proofs.Handed.{on_err, mapped_err}
use Rattle.rs_copy.proofs.placing.place_lists.Goals as goal

-- There is no room for all parts if there is none after the catalogue, ..
behind_catalogue : (used : List Bool) (c : Contents) → HasNoRoom used (pages_needed record_format c.catalogue ++ (pages_needed change_format c.history.pages ++ (pages_needed record_format c.published ++ directory_needed c)))
    → HasNoRoom used (copy_needed c)
behind_catalogue used c none = subst (HasNoRoom used) (sym (needed_in_turn c)) none

-- .. or after the history
behind_history : (used one two : List Bool) (c : Contents) (first : List (Page Record)) (second : List (Page Change)) → AreAllUnplaced c → Places record_format used c.catalogue one first
    → Places change_format one c.history.pages two second → HasNoRoom two (pages_needed record_format c.published ++ directory_needed c) → HasNoRoom used (copy_needed c)
behind_history used one two c first second unplaced a b none =
    let last = pages_needed record_format c.published ++ directory_needed c in
    behind_catalogue used c
    (room_after record_format used one c.catalogue first (pages_needed change_format c.history.pages ++ last) a unplaced.catalogue
    (room_after change_format one two c.history.pages second last b unplaced.history none))

pub returns-in_err-place_touched-clause-full : goal.returns-in_err-place_touched-clause-full
returns-in_err-place_touched-clause-full c =
    let lists = c.args.lists.now in
    on_err (HasNoRoom c.args.used.now (copy_needed lists)) c.from_residual.result
    (behind_catalogue c.args.used.now lists (room_none record_format c.args.used.now lists.catalogue _ c.in_err-place_touched.ensures.full c.requires.catalogue))

pub returns-in_err-place_touched-2-clause-full : goal.returns-in_err-place_touched-2-clause-full
returns-in_err-place_touched-2-clause-full c =
    let lists = c.args.lists.now in
    let last = pages_needed record_format lists.published ++ directory_needed lists in
    on_err (HasNoRoom c.args.used.now (copy_needed lists)) c.from_residual-in_err-place_touched-2.result
    (behind_catalogue c.args.used.now lists
    (room_after record_format c.args.used.now _ lists.catalogue _ (pages_needed change_format lists.history.pages ++ last) c.in_ok-place_touched.ensures.ok.places c.requires.catalogue
    (room_none change_format _ lists.history.pages last c.in_err-place_touched-2.ensures.full c.requires.history)))

pub returns-in_err-place_touched-3-clause-full : goal.returns-in_err-place_touched-3-clause-full
returns-in_err-place_touched-3-clause-full c =
    let lists = c.args.lists.now in
    on_err (HasNoRoom c.args.used.now (copy_needed lists)) c.from_residual-in_err-place_touched-3.result
    (behind_history c.args.used.now _ c.place_touched-2.new.used lists _ _ c.requires c.in_ok-place_touched.ensures.ok.places c.in_ok-place_touched-2.ensures.ok.places
    (room_none record_format _ lists.published (directory_needed lists) c.in_err-place_touched-3.ensures.full c.requires.published))

pub returns-clause-full : goal.returns-clause-full
returns-clause-full c =
    let lists = c.args.lists.now in
    let size = c.directory_size-length.ensures.size ∙ ap (directory_length lists.header) c.page_count.ensures.pages in
    mapped_err c.take_lowest.result
    (λ none. behind_history c.args.used.now _ c.place_touched-2.new.used lists _ _ c.requires c.in_ok-place_touched.ensures.ok.places c.in_ok-place_touched-2.ensures.ok.places
    (room_after record_format _ c.place_touched-3.new.used lists.published _ (directory_needed lists) c.in_ok-place_touched-3.ensures.ok.places c.requires.published
    (inl (subst (λ (n : ℕ). HasNoRun c.place_touched-3.new.used (blocks_of n)) size none))))
    c.take_lowest.ensures.full
