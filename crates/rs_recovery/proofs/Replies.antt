-- Commands that are answered in their turn, as the disk sees them.
use Rattle.std.proofs.Common.{◌≡◌, [], ◌∷◌, ◌++◌, refl, ap, ◌∙◌}
use Rattle.rs_disk.specs.Medium.{DiskState}
use Rattle.rs_store.specs.Laws.{AreClosed}
use Rattle.rs_recovery.specs.Below.{Below}
use Rattle.rs_recovery.specs.Replies.{reply_in, replies_in, TurnsAreSeen}
use Rattle.rs_recovery.proofs.Below.{Acks}

-- a closed source gives no reply
closed_is_no_reply : (acks : Acks) → AreClosed acks → replies_in acks ≡ []
closed_is_no_reply [] all = refl
closed_is_no_reply (a ∷ acks) all = ap (λ result. reply_in result ++ replies_in acks) all.0 ∙ closed_is_no_reply acks all.1

pub turns_are_seen : {D : Type 0} (device : D → DiskState) → Below device → TurnsAreSeen device
turns_are_seen device below old new commands acks turn = record {
  answered = λ s held. below.answered s old commands acks new held turn;
  holds = λ s held. below.end s old commands acks new held turn;
  sound = below.closes old commands acks new turn;
  closed = λ shut.
      let stays = below.closed old commands acks new shut turn in
      (closed_is_no_reply acks stays.2, stays.0, stays.1);
}
