-- Which routers carried a datagram, where stations hold datagrams.
use Rattle.std.specs.Prelude.{◌≡◌, ℕ, true, List, [], ◌∷◌, ◌++◌, Option, Some, None, length}
use Rattle.ddp.specs.Bodies.{hops, target}
use Rattle.table_image.specs.Internet.{Internet}
use Rattle.station.specs.declared.heard.Kind.{Kind}
use Rattle.station.specs.declared.heard.Kind.TheVariants.{Aarp, Ddp}
use Rattle.cable_model.specs.Transcript.{Entry, Frame, Sent, Put, Took, Reached, Dropped, Lost, Hold}
use Rattle.legal_runs.specs.Carriage.{Chains, IsChain, chain_in, of_stamp}
use Rattle.legal_runs.specs.Stations.{is_on}

-- The chains with one more, that of the datagram that is being handled.
abbrev pub with_chain : ℕ → Chains → Chains
with_chain stamp w = record { now = w.now; frames = w.frames ++ record { stamp = stamp; value = w.now } ∷ [] }

-- The chains after a frame was put; an AARP frame has none.
abbrev pub put_after : Frame → Kind → Chains → Chains
put_after f Ddp w = with_chain f.stamp w
put_after f Aarp w = w

-- The chains after a station took a frame with this chain; the taking of an AARP frame, which has none, changes nothing.
abbrev pub took_after : ℕ → Option (List ℕ) → Chains → Chains
took_after station None w = w
took_after station (Some chain) w = record { now = chain ++ station ∷ []; frames = w.frames }

-- The chains after an entry: a datagram that was just sent has an empty chain; one that was taken has that of its frame,
-- followed by the station that took it; and one that is held keeps its chain. The first chain of a stamp counts, so the
-- frame that ends a holding has the chain of the holding.
abbrev pub held_after : Entry → Chains → Chains
held_after (Sent station body) w = record { now = []; frames = w.frames }
held_after (Took stamp station) w = took_after station (of_stamp stamp w.frames) w
held_after (Put f) w = put_after f f.kind w
held_after (Hold held) w = with_chain held.stamp w
held_after (Reached cable station how body) w = w
held_after (Dropped router cause body) w = w
held_after (Lost stamp) w = w

-- The hop count of a datagram in a frame with this stamp is the number of routers that carried it.
abbrev pub HasHops : Kind → Frame → Chains → Type 0
HasHops Ddp f w = hops f.bytes ≡ length (chain_in (of_stamp f.stamp w.frames))
HasHops Aarp f w = Unit {0}

-- A datagram that reached a cable was carried by no router or by those of its walk; a station that puts a frame on a
-- cable is on it, and the hop count of a datagram in it is the number of routers that carried it.
abbrev pub IsCarriedOrHeld : Internet → Chains → Entry → Type 0
IsCarriedOrHeld i w (Reached cable station how body) = IsChain i (target body).net cable w.now
IsCarriedOrHeld i w (Put f) = (is_on i f.sender f.cable ≡ true) × HasHops f.kind f (put_after f f.kind w)
IsCarriedOrHeld i w (Sent station body) = Unit {0}
IsCarriedOrHeld i w (Took stamp station) = Unit {0}
IsCarriedOrHeld i w (Dropped router cause body) = Unit {0}
IsCarriedOrHeld i w (Lost stamp) = Unit {0}
IsCarriedOrHeld i w (Hold held) = Unit {0}

-- Carriage: `IsCarriedOrHeld` holds of each entry of the transcript, with the chains after the entries before it.
abbrev pub AreCarriedOrHeld : Internet → Chains → List Entry → Type 0
AreCarriedOrHeld i w [] = Unit {0}
AreCarriedOrHeld i w (e ∷ es) = IsCarriedOrHeld i w e × AreCarriedOrHeld i (held_after e w) es
