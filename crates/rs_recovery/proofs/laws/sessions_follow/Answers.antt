use Rattle.rs_recovery.proofs.laws.sessions_follow.Goals as goal

pub returns-clause-stopped : goal.returns-clause-stopped
returns-clause-stopped c s x are_answered is_stop = record { answered = are_answered; stopped = is_stop }

pub returns-clause-first : goal.returns-clause-first
returns-clause-first c start x is_stopped = is_stopped

pub returns-clause-next : goal.returns-clause-next
returns-clause-next c start s x y past are stands is_stopped = (s, stands, is_stopped, are)
