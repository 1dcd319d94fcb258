-- The answer of a source to a request for a body, from the clauses of `read_held`.
use Rattle.rs_store.proofs.source.Source.body.Goals as goal

pub returns : goal.returns
returns g c = record {
  reads = c.read_held.ensures.reads;
  recorded = c.read_held.ensures.recorded;
  closed = c.read_held.ensures.closed;
  not_held = c.read_held.ensures.not_held;
  damaged = c.read_held.ensures.damaged;
  once = c.read_held.ensures.once;
  unread = c.read_held.ensures.unread;
  runs = c.read_held.ensures.runs;
  others = c.read_held.ensures.others;
  reads_only = c.read_held.ensures.reads_only;
}
