use Rattle.std.proofs.Common.{◌∙◌, ap, List}
use Rattle.rs_disk.specs.declared.history.CallChange.{CallChange}
use Rattle.rs_disk.specs.Medium.{resting}
use Rattle.rs_disk.specs.History.{replay}
use Rattle.rs_disk.proofs.HistoryLaws.{replay_later, replay_within, replay_before}
use Rattle.rs_disk.proofs.history.CallHistory.note.Goals as goal

pub returns-clause-before : goal.returns-clause-before
returns-clause-before c =
    let h = c.args.self.now in
    λ k lt. ap (λ (es : List CallChange). replay k (resting h.first.items) es) c.in_ok-push.ensures.items ∙ replay_before (resting h.first.items) h.entries.items (record { call = c.args.call; change = c.args.change }) k lt

pub returns-clause-within : goal.returns-clause-within
returns-clause-within c =
    let h = c.args.self.now in
    ap (λ (es : List CallChange). replay c.args.call (resting h.first.items) es) c.in_ok-push.ensures.items ∙ replay_within (resting h.first.items) h.entries.items (record { call = c.args.call; change = c.args.change })

pub returns-clause-after : goal.returns-clause-after
returns-clause-after c =
    let h = c.args.self.now in
    λ k lt. ap (λ (es : List CallChange). replay k (resting h.first.items) es) c.in_ok-push.ensures.items ∙ replay_later (resting h.first.items) h.entries.items (record { call = c.args.call; change = c.args.change }) k lt
