use Rattle.rs_recovery.proofs.laws.laws_below.Goals as goal

pub returns : goal.returns
returns g c = record {
  stands_once = c.stands_once.ensures;
  closes = c.closed_sources_stay.ensures.closes;
  closed = c.closed_sources_stay.ensures.stays;
  none_counts = c.closed_sources_stay.ensures.counts;
  answered = c.runs_are_answered.ensures.answered;
  moments = c.runs_leave_prefixes.ensures.moments;
  end = c.runs_leave_prefixes.ensures.end;
}
