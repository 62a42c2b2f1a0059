-- When stations hold datagrams, and give them up: each is held for its target once for each time that it reached its cable; and
-- one is given up only where sixteen others are held by its station on its cable, and then the oldest of them.
use Rattle.std.specs.Prelude.{◌≡◌, ◌<◌, ℕ, Bool, false, List, [], ◌∷◌, ◌++◌, length}
use Rattle.at_base.specs.Address.{same_address}
use Rattle.at_base.specs.Limits.{max_held}
use Rattle.cable_model.specs.Transcript.{Entry, Hold, Holding, Lost, Reached}
use Rattle.cable_model.specs.declared.entry.How.TheVariants.{Held}
use Rattle.ddp.specs.Bodies.{body, target}
use Rattle.resolved_runs.specs.Lossless.{is_loss}
use Rattle.resolved_runs.specs.Resolved.{held_at}

-- The entry holds a datagram for the station that it is addressed to.
abbrev pub is_held_there : Entry → Bool
is_held_there (Hold h) = same_address (target h.bytes) h.next
is_held_there _ = false

-- Each datagram that is held for the station that it is addressed to is held directly after the entry which says that it
-- reached its cable: so once each time, also where no station has that address.
pub data AreHeldAsReached : List Entry → Type 0 where
  Begins : AreHeldAsReached []
  Continues : (t : List Entry) (e : Entry) → AreHeldAsReached t → is_held_there e ≡ false → AreHeldAsReached (t ++ e ∷ [])
  Arrives : (t : List Entry) (h : Holding) → AreHeldAsReached t
      → AreHeldAsReached (t ++ Reached h.cable h.station Held (body h.bytes) ∷ Hold h ∷ [])

-- These datagrams are as many as a port holds, and the oldest of them has this stamp.
pub record IsOldestOfAll (held : List Holding) (stamp : ℕ) : Type 0 where
  pub oldest : Holding
  pub others : List Holding
  pub in_order : held ≡ oldest ∷ others
  pub all : length held ≡ max_held
  pub numbered : oldest.stamp ≡ stamp

-- Each loss stands directly after the entry of a further datagram that a station held on a cable, and gives up the oldest of
-- the sixteen that it held there just before.
pub data AreShed : List Entry → Type 0 where
  None : AreShed []
  Other : (t : List Entry) (e : Entry) → AreShed t → is_loss e ≡ false → AreShed (t ++ e ∷ [])
  Full : (t : List Entry) (further : Holding) (stamp : ℕ) → AreShed t → IsOldestOfAll (held_at t further.station further.cable) stamp
      → AreShed (t ++ Hold further ∷ Lost stamp ∷ [])

-- No station held seventeen datagrams on a cable at once: whenever it held one more there, it held fewer than sixteen.
abbrev pub AreFewHeld : List Entry → Type 0
AreFewHeld t =
    (front back : List Entry) (further : Holding) → t ≡ front ++ Hold further ∷ back
    → length (held_at front further.station further.cable) < max_held
