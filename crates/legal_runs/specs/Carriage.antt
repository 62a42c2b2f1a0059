-- Which routers carried a datagram.
use Rattle.std.specs.Prelude.{◌≡◌, ℕ, ◌≤◌, ◌==◌, Bool, true, false, cond, List, [], ◌∷◌, ◌++◌, Option, Some, None, length}
use Rattle.ddp.specs.Bodies.{hops, target}
use Rattle.table_image.specs.Internet.{Internet}
use Rattle.audit.specs.Routing.{Hand, Here, On, Nowhere, hand}
use Rattle.audit.specs.Walks.{IsWalk}
use Rattle.cable_model.specs.Transcript.{Entry, Frame, Sent, Put, Took, Reached, Dropped, Lost, Hold}
use Rattle.legal_runs.specs.Stations.{is_on}

-- A value that belongs to the frame with this stamp.
pub record Stamped (X : Type 0) : Type 0 where
  pub stamp : ℕ
  pub value : X

-- The first value that belongs to the frame with this stamp, if there is one. No two frames of a legal transcript have
-- the same stamp.
abbrev pub of_stamp : {X : Type 0} → ℕ → List (Stamped X) → Option X
of_stamp stamp [] = None
of_stamp stamp (s ∷ rest) = cond (s.stamp == stamp) (Some s.value) (of_stamp stamp rest)

-- The routers that carried the datagram that is being handled, and those that carried each frame, by its stamp.
pub record Chains : Type 0 where
  pub now : List ℕ
  pub frames : List (Stamped (List ℕ))

-- The chain of a frame, empty if no frame has the stamp.
abbrev pub chain_in : Option (List ℕ) → List ℕ
chain_in None = []
chain_in (Some chain) = chain

-- The chains after an entry: a datagram that was just sent has an empty chain, and after a Took the current chain is
-- that of the frame followed by the station that took it.
abbrev pub after : Entry → Chains → Chains
after (Sent station body) w = record { now = []; frames = w.frames }
after (Took stamp station) w = record { now = chain_in (of_stamp stamp w.frames) ++ station ∷ []; frames = w.frames }
after (Put frame) w = record { now = w.now; frames = w.frames ++ record { stamp = frame.stamp; value = w.now } ∷ [] }
after (Reached cable station how body) w = w
after (Dropped router cause body) w = w
after (Lost stamp) w = w
after (Hold held) w = w

-- The chains before the first entry.
abbrev pub none_yet : Chains
none_yet = record { now = []; frames = [] }

-- The chain is empty, or it is the walk for network n that ends at the cable and has at most 15 routers.
abbrev pub IsChain : Internet → ℕ → ℕ → List ℕ → Type 0
IsChain i n cable [] = Unit {0}
IsChain i n cable (r ∷ rest) = IsWalk i n r rest cable × (length (r ∷ rest) ≤ 15)

-- A datagram that reached a cable was carried by no router or by those of its walk; a station that puts a frame on a
-- cable is on it, and the hop count is the number of routers that carried the datagram.
abbrev pub IsCarried : Internet → Chains → Entry → Type 0
IsCarried i w (Reached cable station how body) = IsChain i (target body).net cable w.now
IsCarried i w (Put frame) = (is_on i frame.sender frame.cable ≡ true) × (hops frame.bytes ≡ length w.now)
IsCarried i w (Sent station body) = Unit {0}
IsCarried i w (Took stamp station) = Unit {0}
IsCarried i w (Dropped router cause body) = Unit {0}
IsCarried i w (Lost stamp) = Unit {0}
IsCarried i w (Hold held) = Unit {0}

-- Carriage: `IsCarried` holds of each entry of the transcript, with the chains after the entries before it.
abbrev pub AreCarried : Internet → Chains → List Entry → Type 0
AreCarried i w [] = Unit {0}
AreCarried i w (e ∷ es) = IsCarried i w e × AreCarried i (after e w) es

-- The station is on the cable, and there is such a cable.
abbrev pub IsOnSome : Internet → ℕ → Option ℕ → Type 0
IsOnSome i station None = ⊥
IsOnSome i station (Some cable) = is_on i station cable ≡ true

-- A station that takes a frame is on the cable of that frame; `cables` has the cables of the earlier frames, by their
-- stamps.
abbrev pub AreTakenThere : Internet → List (Stamped ℕ) → List Entry → Type 0
AreTakenThere i cables [] = Unit {0}
AreTakenThere i cables (Put frame ∷ es) =
    AreTakenThere i (cables ++ record { stamp = frame.stamp; value = frame.cable } ∷ []) es
AreTakenThere i cables (Took stamp station ∷ es) = IsOnSome i station (of_stamp stamp cables) × AreTakenThere i cables es
AreTakenThere i cables (Sent station body ∷ es) = AreTakenThere i cables es
AreTakenThere i cables (Reached cable station how body ∷ es) = AreTakenThere i cables es
AreTakenThere i cables (Dropped router cause body ∷ es) = AreTakenThere i cables es
AreTakenThere i cables (Lost stamp ∷ es) = AreTakenThere i cables es
AreTakenThere i cables (Hold held ∷ es) = AreTakenThere i cables es

-- The cable onto which a router hands a datagram, if it has a route.
abbrev pub cable_of_hand : Hand → Option ℕ
cable_of_hand Nowhere = None
cable_of_hand (Here cable) = Some cable
cable_of_hand (On router cable address) = Some cable

-- If a router carries the datagram of the frame on, the frame is on the cable onto which the router hands datagrams for
-- its network.
abbrev pub IsByHand : Internet → Bool → Frame → Type 0
IsByHand i false frame = Unit {0}
IsByHand i true frame = cable_of_hand (hand i frame.sender (target frame.bytes).net) ≡ Some frame.cable

-- A router that carries a datagram on puts it on the cable of the walk's step. After a Took the datagram that was taken
-- is carried on; after a Sent a new one is put.
abbrev pub AreByHand : Internet → Bool → List Entry → Type 0
AreByHand i carried [] = Unit {0}
AreByHand i carried (Put frame ∷ es) = IsByHand i carried frame × AreByHand i carried es
AreByHand i carried (Took stamp station ∷ es) = AreByHand i true es
AreByHand i carried (Sent station body ∷ es) = AreByHand i false es
AreByHand i carried (Reached cable station how body ∷ es) = AreByHand i carried es
AreByHand i carried (Dropped router cause body ∷ es) = AreByHand i carried es
AreByHand i carried (Lost stamp ∷ es) = AreByHand i carried es
AreByHand i carried (Hold held ∷ es) = AreByHand i carried es
