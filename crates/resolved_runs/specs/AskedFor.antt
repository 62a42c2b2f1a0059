-- What is known of datagrams that are held for stations: they are asked for; and where no frame is pending, every datagram
-- was heard.
use Rattle.std.specs.Prelude.{◌≡◌, ◌≤◌, ◌+◌, ℕ, Bool, ◌&&◌, ◌==◌, List, [], Some, Contains, is_some}
use Rattle.at_base.specs.Text.{same_bytes}
use Rattle.aarp.specs.declared.packet.Function.TheVariants.{Request, Response}
use Rattle.aarp.specs.declared.packet.Packet.{Packet}
use Rattle.ddp.specs.Bodies.{body, target}
use Rattle.table_image.specs.Internet.{Internet}
use Rattle.table_image.specs.Seats.{Seat, seat_at}
use Rattle.station.specs.Resolution.{packet_at}
use Rattle.station.specs.declared.heard.Kind.TheVariants.{Aarp}
use Rattle.cable_model.specs.Holdings.{holds, still_held}
use Rattle.cable_model.specs.Pending.{Pair, pairs, pending}
use Rattle.cable_model.specs.Transcript.{Entry, Holding, count}
use Rattle.legal_runs.specs.Counts.{sent}
use Rattle.legal_runs.specs.Legs.{is_datagram, is_unicast}
use Rattle.legal_runs.specs.Lookups.{was_taken}
use Rattle.legal_runs.specs.Stations.{cable_seats}
use Rattle.resolved_runs.specs.HeldCounts.{was_given_up}

-- The frame of the pair is a request for the next address of a held datagram, by its holder, for the seat with that
-- address; or that seat's response, for the holder.
pub data Asks (h : Holding) (s : Seat) (p : Pair) : Type 0 where
  Requested : (sent : Packet) → packet_at p.frame.bytes ≡ Some sent → sent.function ≡ Request → sent.target ≡ h.next
      → p.frame.sender ≡ h.station → p.seat.station ≡ s.station → Asks h s p
  Answered : (sent : Packet) → packet_at p.frame.bytes ≡ Some sent → sent.function ≡ Response → sent.source ≡ h.next
      → p.frame.sender ≡ s.station → p.seat.station ≡ h.station → Asks h s p

-- A pending AARP frame on the cable of a held datagram asks for its next address, or answers.
pub record IsAskedFor (i : Internet) (t : List Entry) (h : Holding) (s : Seat) : Type 0 where
  pub pair : Pair
  pub there : Contains (pending (cable_seats i) t) pair
  pub kind : pair.frame.kind ≡ Aarp
  pub cable : pair.frame.cable ≡ h.cable
  pub asks : Asks h s pair

-- Each datagram that is held for a station is asked for.
abbrev pub AreAskedFor : Internet → List Entry → Type 0
AreAskedFor i t = (h : Holding) (s : Seat) → Contains (still_held t) h → seat_at i h.cable h.next ≡ Some s → IsAskedFor i t h s

-- Each datagram is held once: no two Hold entries have one stamp.
abbrev pub AreHeldOnce : List Entry → Type 0
AreHeldOnce t = (stamp : ℕ) → count (λ h. h.stamp == stamp) (holds t) ≤ 1

-- ---- Heard

-- The pair is a frame to the station alone, with a datagram of this body.
abbrev pub brings : ℕ → List ℕ → Pair → Bool
brings station b p =
    is_datagram p.frame.kind && (is_unicast p.frame.to && (p.seat.station == station && same_bytes b (body p.frame.bytes)))

-- How often the station took the body in a frame to it alone.
abbrev pub heard : Internet → ℕ → List ℕ → List Entry → ℕ
heard i station b t = count (λ p. was_taken t p && brings station b p) (pairs (cable_seats i) t)

-- The pair is a frame to one station, with a datagram of this body.
abbrev pub bears : List ℕ → Pair → Bool
bears b p = is_datagram p.frame.kind && (is_unicast p.frame.to && same_bytes b (body p.frame.bytes))

-- The datagram is held for a station, and has this body.
abbrev pub is_kept_for_one : Internet → List ℕ → Holding → Bool
is_kept_for_one i b h = is_some (seat_at i h.cable h.next) && same_bytes b (body h.bytes)

-- How often the body is on its way from station to station: in pending frames to one station, or held for one.
abbrev pub on_its_way : Internet → List ℕ → List Entry → ℕ
on_its_way i b t = count (bears b) (pending (cable_seats i) t) + count (is_kept_for_one i b) (still_held t)

-- How often the body was given up while it was held for a station.
abbrev pub let_down : Internet → List ℕ → List Entry → ℕ
let_down i b t = count (λ h. was_given_up t h && is_kept_for_one i b h) (holds t)

-- Each body to a station's address was taken by that station, is on its way, or was given up, as often as it was sent.
abbrev pub AreHeardOrOnTheirWay : Internet → List Entry → Type 0
AreHeardOrOnTheirWay i t =
    (b : List ℕ) (c : ℕ) (s : Seat) → seat_at i c (target b) ≡ Some s
    → sent b t ≡ heard i s.station b t + on_its_way i b t + let_down i b t

-- Each body to a station's address was taken by that station, or given up, as often as it was sent.
abbrev pub AreHeardAtRest : Internet → List Entry → Type 0
AreHeardAtRest i t =
    (b : List ℕ) (c : ℕ) (s : Seat) → seat_at i c (target b) ≡ Some s → sent b t ≡ heard i s.station b t + let_down i b t

-- So it is where no frame is pending.
abbrev pub AreHeard : Internet → List Entry → Type 0
AreHeard i t = pending (cable_seats i) t ≡ [] → AreHeardAtRest i t
