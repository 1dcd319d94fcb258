-- A listener accepted one connection at most.
use Rattle.std.proofs.Common.{ℕ, Bool, List, [], ◌∷◌, refl, inl, inr}
use Rattle.rs_source.specs.Connections.{Connection, connection_of, AcceptsOne, ServesAt}

module _ {L S : Type 0} (accepted : L → List Connection → L → Type 0) (serves : S → Connection → Bool → S → Type 0) (from to : L)
    (any : (connections : List Connection) → accepted from connections to) where
  pub accepts_none : (service : S) → AcceptsOne accepted serves from service to service
  accepts_none service = record { connections = []; came = any []; served = refl }

  pub accepts_one : (old new : S) (now : ℕ) (refused : Bool) → ServesAt serves old now refused new → AcceptsOne accepted serves from old to new
  accepts_one old new now refused (inl same) = record { connections = []; came = any []; served = same.0 }
  accepts_one old new now refused (inr is) =
      record { connections = connection_of now is.0 ∷ []; came = any (connection_of now is.0 ∷ []); served = (is.1, (refused, is.2)) }
