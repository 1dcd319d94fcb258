-- The values that a view of a state shows.
use Rattle.rs_lists.specs.Shown.{Shown}
use Rattle.rs_caps.specs.Shows.{shown_of}
use Rattle.rs_caps.specs.declared.documents.state_view.StateView.{StateView}

abbrev pub shown_by_state : StateView → Shown
shown_by_state v = shown_of v.state.now
