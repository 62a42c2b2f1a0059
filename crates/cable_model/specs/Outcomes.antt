-- The entries of a station's outputs on the cables.
use Rattle.std.specs.Prelude.{◌≡◌, ◌⊎◌, ℕ, ◌+◌, ◌<◌, ◌≤◌, Bool, true, false, ◌&&◌, ◌==◌, cond, List, [], ◌∷◌, ◌++◌, find, slice_index}
use Rattle.std.specs.Prelude.{Option, Some, None, Contains, if◌then◌else◌, not}
use Rattle.std.specs.List.{list_any}
use Rattle.at_base.specs.Address.{same_address}
use Rattle.at_base.specs.Text.{same_bytes}
use Rattle.at_base.specs.declared.address.Addr.{Addr}
use Rattle.at_base.specs.Multicast.{all_hw, group_hw, is_all, is_group}
use Rattle.at_base.specs.declared.address.Hw.{Hw}
use Rattle.ddp.specs.Bodies.{body, target}
use Rattle.station.specs.Hearing.{Hearing}
use Rattle.station.specs.declared.heard.Kind.{Kind}
use Rattle.station.specs.declared.heard.Kind.TheVariants.{Ddp, Aarp}
use Rattle.station.specs.declared.heard.Link.{Link}
use Rattle.station.specs.declared.heard.Link.TheVariants as link
use Rattle.station.specs.declared.output.Next.{Next}
use Rattle.station.specs.declared.output.Next.TheVariants as next
use Rattle.station.specs.declared.output.Output.{Output}
use Rattle.station.specs.declared.output.Output.TheVariants as output
use Rattle.cable_model.specs.declared.entry.How.TheVariants as how
use Rattle.cable_model.specs.declared.resolve.Found.{Found}
use Rattle.cable_model.specs.declared.resolve.Found.TheVariants.{At, Nobody, Later}
use Rattle.cable_model.specs.declared.seat.Seat.{Seat}
use Rattle.cable_model.specs.declared.waiting.Waiting.{Waiting}
use Rattle.cable_model.specs.Logs.{Cabling, bytes_at, transcript}
use Rattle.cable_model.specs.Pending.{Pair, listens}
use Rattle.cable_model.specs.Transcript.{Entry, Sent, Put, Reached, Dropped, next_stamp, stamps}

-- The results of lookups: that of an address on a cable, and whether a network belongs to a cable.
pub record Places : Type 0 where
  pub finds : ℕ → Addr → Found
  pub lists : ℕ → Bool

-- A station on a cable, which is to put the next frame there with this stamp.
pub record Sender : Type 0 where
  pub stamp : ℕ
  pub cable : ℕ
  pub station : ℕ

-- the entry of a frame that a sender puts on its cable
abbrev pub framed : Sender → Hw → Kind → List ℕ → Entry
framed s to kind bytes =
    Put (record { stamp = s.stamp; cable = s.cable; sender = s.station; to = to; kind = kind; bytes = bytes })

-- the entries of a datagram sent to the station that it is addressed to
abbrev pub to_target : Sender → List ℕ → Found → List Entry
to_target s bytes (At hw) = Reached s.cable s.station how.Station (body bytes) ∷ framed s hw Ddp bytes ∷ []
to_target s bytes Nobody = Reached s.cable s.station how.Absent (body bytes) ∷ []
to_target s bytes Later = Reached s.cable s.station how.Held (body bytes) ∷ []

-- the entries of a datagram sent to another station than the one that it is addressed to; no frame is put if no station
-- has the address
abbrev pub to_other : Sender → List ℕ → Found → List Entry
to_other s bytes (At hw) = framed s hw Ddp bytes ∷ []
to_other s bytes Nobody = []
to_other s bytes Later = []

-- the leg of a datagram: its entries on the sender's cable
abbrev pub leg : Places → Sender → Next → List ℕ → List Entry
leg places s (next.Station a) bytes =
    cond (same_address (target bytes) a) (to_target s bytes (places.finds s.cable a)) (to_other s bytes (places.finds s.cable a))
leg places s next.All bytes =
    cond (places.lists (target bytes).net) (Reached s.cable s.station how.All (body bytes) ∷ framed s all_hw Ddp bytes ∷ [])
    (framed s all_hw Ddp bytes ∷ [])
leg places s (next.Group g) bytes = framed s (group_hw g) Ddp bytes ∷ []

-- the cable of a station's port, or 0 if the station has no such port
abbrev pub cable_of : List Seat → ℕ → ℕ → ℕ
cable_of seats station port = of_seat (find (λ s. s.station == station && s.port == port) seats)
  where
    of_seat : Option Seat → ℕ
    of_seat None = 0
    of_seat (Some s) = s.cable

-- the sender on a station's port
abbrev pub sender_by : List Seat → ℕ → ℕ → ℕ → Sender
sender_by seats station stamp port = record { stamp = stamp; cable = cable_of seats station port; station = station }

-- the entries of a station's output, where the next frame has this stamp
abbrev pub entries_of : Places → List Seat → ℕ → ℕ → Output → List Entry
entries_of places seats station stamp (output.Made port to bytes) =
    Sent station (body bytes) ∷ leg places (sender_by seats station stamp port) to bytes
entries_of places seats station stamp (output.Passed port to bytes) = leg places (sender_by seats station stamp port) to bytes
entries_of places seats station stamp (output.Kept port bytes) =
    Reached (cable_of seats station port) station how.Own (body bytes) ∷ []
entries_of places seats station stamp (output.Dropped cause bytes) = Dropped station cause (body bytes) ∷ []
entries_of places seats station stamp (output.Wire port to bytes) =
    framed (sender_by seats station stamp port) to Aarp bytes ∷ []

-- the entries of a station's outputs, one after another, where the next frame has this stamp
abbrev pub all_entries : Places → List Seat → ℕ → ℕ → List Output → List Entry
all_entries places seats station stamp [] = []
all_entries places seats station stamp (o ∷ os) =
    entries_of places seats station stamp o
    ++ all_entries places seats station (stamp + stamps (entries_of places seats station stamp o)) os

-- A datagram that is to be held, since the hardware address of its next station isn't known: its cable, the station's
-- address, and its bytes.
pub record Held : Type 0 where
  pub cable : ℕ
  pub next : Addr
  pub bytes : List ℕ

-- the datagram that is to be held, if the lookup of its next address isn't answered yet
abbrev pub held_by : Found → ℕ → Addr → List ℕ → List Held
held_by Later cable a bytes = record { cable = cable; next = a; bytes = bytes } ∷ []
held_by (At hw) cable a bytes = []
held_by Nobody cable a bytes = []

-- the datagram that is to be held, if it is for a station whose hardware address isn't known yet
abbrev pub held_next : Places → ℕ → Next → List ℕ → List Held
held_next places cable (next.Station a) bytes = held_by (places.finds cable a) cable a bytes
held_next places cable next.All bytes = []
held_next places cable (next.Group g) bytes = []

-- the datagrams of an output that are to be held
abbrev pub held_of : Places → List Seat → ℕ → Output → List Held
held_of places seats station (output.Made port to bytes) = held_next places (cable_of seats station port) to bytes
held_of places seats station (output.Passed port to bytes) = held_next places (cable_of seats station port) to bytes
held_of places seats station (output.Kept port bytes) = []
held_of places seats station (output.Dropped cause bytes) = []
held_of places seats station (output.Wire port to bytes) = []

-- the datagram that is to be held, with its stored bytes
abbrev pub held_at : List (List ℕ) → Waiting → Held
held_at kept w = record { cable = w.cable; next = w.next; bytes = bytes_at kept w.bytes }

-- nobody has the address
abbrev pub is_nobody : Found → Bool
is_nobody Nobody = true
is_nobody Later = false
is_nobody (At hw) = false

-- a datagram for another station than the next one, whose address nobody has, goes nowhere
abbrev pub goes_nowhere : Places → ℕ → Next → List ℕ → Bool
goes_nowhere places cable (next.Station a) bytes = not (same_address (target bytes) a) && is_nobody (places.finds cable a)
goes_nowhere places cable next.All bytes = false
goes_nowhere places cable (next.Group g) bytes = false

-- the bytes that are stored for an output, for its entries: none if it is passed on and goes nowhere
abbrev pub stored_of : Places → List Seat → ℕ → Output → List (List ℕ)
stored_of places seats station (output.Made port to bytes) = bytes ∷ []
stored_of places seats station (output.Passed port to bytes) =
    cond (goes_nowhere places (cable_of seats station port) to bytes) [] (bytes ∷ [])
stored_of places seats station (output.Kept port bytes) = bytes ∷ []
stored_of places seats station (output.Dropped cause bytes) = bytes ∷ []
stored_of places seats station (output.Wire port to bytes) = bytes ∷ []

-- the bytes that are stored for outputs, in order
abbrev pub all_stored : Places → List Seat → ℕ → List Output → List (List ℕ)
all_stored places seats station [] = []
all_stored places seats station (o ∷ os) = stored_of places seats station o ++ all_stored places seats station os

-- the kind of address that a frame is sent to, as its receivers see it
abbrev pub link_of : Hw → Link
link_of to = if is_all to then link.All else if is_group to then link.Group (slice_index to.0 5) else link.Own

-- a frame with this link is for the station of a seat on its cable
abbrev pub is_for_as : Link → Hw → ℕ → Seat → Bool
is_for_as link.All to sender s = not (s.station == sender)
is_for_as (link.Group g) to sender s = not (s.station == sender) && listens g s.group
is_for_as link.Own to sender s = same_bytes s.hw.0 to.0

-- the frame of a pair, as the pair's station receives it
abbrev pub heard_by : Pair → Hearing
heard_by p = record { port = p.seat.port; link = link_of p.frame.to; kind = p.frame.kind; bytes = p.frame.bytes }

-- The seats of a station with this many ports: each is of one of them, and each port has a seat.
pub record AreSeatsOf (seats : List Seat) (station ports : ℕ) : Type 0 where
  pub inside : (s : Seat) → Contains seats s → s.station ≡ station → s.port < ports
  pub seated : (port : ℕ) → port < ports → (s : Seat) × Contains seats s × (s.station ≡ station) × (s.port ≡ port)

-- The frame with this stamp is pending for the station, which receives it as h.
pub record IsHeard (pairs : List Pair) (stamp station : ℕ) (h : Hearing) : Type 0 where
  pub pair : Pair
  pub was_pending : Contains pairs pair
  pub of_stamp : pair.frame.stamp ≡ stamp
  pub of_station : pair.seat.station ≡ station
  pub heard : h ≡ heard_by pair

-- the entries of a datagram that a station sends on a cable
abbrev pub sent_entries : Places → Cabling → ℕ → ℕ → Next → List ℕ → List Entry
sent_entries places c cable station to bytes =
    Sent station (body bytes)
    ∷ leg places (record { stamp = next_stamp (transcript c); cable = cable; station = station }) to bytes

-- the station has a seat on the cable
abbrev pub is_seated : List Seat → ℕ → ℕ → Bool
is_seated seats cable station = list_any (λ s. s.cable == cable && s.station == station) seats

-- the cable has a seat
abbrev pub has_cable : List Seat → ℕ → Bool
has_cable seats cable = list_any (λ s. s.cable == cable) seats

-- the pair has this stamp and this station
abbrev pub is_named : ℕ → ℕ → Pair → Bool
is_named stamp station p = stamp == p.frame.stamp && station == p.seat.station

-- the pair has the frame with this stamp
abbrev pub has_stamp : ℕ → Pair → Bool
has_stamp stamp p = stamp == p.frame.stamp

-- The pair of the stamp and the station is pending, and no other pair comes before it, by stamp and then by station.
pub record IsLeast (pairs : List Pair) (stamp station : ℕ) : Type 0 where
  pub there : (p : Pair) × Contains pairs p × (p.frame.stamp ≡ stamp) × (p.seat.station ≡ station)
  pub first : (p : Pair) → Contains pairs p
      → (stamp < p.frame.stamp) ⊎ ((stamp ≡ p.frame.stamp) × (station ≤ p.seat.station))

-- The frame of a pending pair that has this stamp: its cable, its kind and its bytes.
pub record IsFrame (pairs : List Pair) (stamp cable : ℕ) (kind : Kind) (bytes : List ℕ) : Type 0 where
  pub pair : Pair
  pub was_pending : Contains pairs pair
  pub of_stamp : pair.frame.stamp ≡ stamp
  pub of_cable : pair.frame.cable ≡ cable
  pub of_kind : pair.frame.kind ≡ kind
  pub has : pair.frame.bytes ≡ bytes
