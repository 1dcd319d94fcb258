-- Connections that a listener accepts, and the service that serves them.
use Rattle.std.specs.Prelude.{◌≡◌, ◌⊎◌, ℕ, Bool, false, true, List, [], ◌∷◌}
use Rattle.rs_io.specs.Watch.{calls, failures, is_flushed, Ends}

-- An accepted connection: the moment that the clock showed then, and its reader and its writer, before and after its
-- request.
pub record Connection : Type 0 where
  pub now : ℕ
  pub ends : Ends

abbrev pub connection_of : ℕ → Ends → Connection
connection_of now ends = record { now = now; ends = ends }

-- The ends of a connection are new: they have no calls and no failures, and the writer has no bytes to flush.
pub record AreNew (ends : Ends) : Type 0 where
  pub unread : calls ends.left ≡ 0
  pub unwritten : calls ends.before ≡ 0
  pub reader : (failures ends.left).all ≡ 0
  pub writer : (failures ends.before).all ≡ 0
  pub flushed : is_flushed ends.before ≡ true

-- A service served this connection between two new ends, and reported whether it refused the request.
abbrev pub ServesNew : {S : Type 0} → (S → Connection → Bool → S → Type 0) → S → Connection → S → Type 0
ServesNew serves old connection new = AreNew connection.ends × ((refused : Bool) × serves old connection refused new)

-- A service served the one accepted connection; or the listener accepted no connection, and the service is unchanged.
abbrev pub ServesOne : {S : Type 0} → (S → Connection → Bool → S → Type 0) → S → List Connection → S → Type 0
ServesOne serves old [] new = new ≡ old
ServesOne serves old (connection ∷ []) new = ServesNew serves old connection new
ServesOne serves old connections new = ⊥

-- A listener accepted at most one connection, and a service served it.
-- `came`: the listener accepted these connections; `from` is the listener before, `to` the listener after.
pub record AcceptsOne {L S : Type 0} (accepted : L → List Connection → L → Type 0) (serves : S → Connection → Bool → S → Type 0)
    (from : L) (old : S) (to : L) (new : S) : Type 0 where
  pub connections : List Connection
  pub came : accepted from connections to
  pub served : ServesOne serves old connections new

-- A service got a connection that was accepted at this moment, and reported whether it refused the request. Without
-- memory for the buffers of the connection the service gets no connection.
abbrev pub ServesAt : {S : Type 0} → (S → Connection → Bool → S → Type 0) → S → ℕ → Bool → S → Type 0
ServesAt serves old now refused new =
    ((new ≡ old) × (refused ≡ false)) ⊎ ((ends : Ends) × AreNew ends × serves old (connection_of now ends) refused new)
