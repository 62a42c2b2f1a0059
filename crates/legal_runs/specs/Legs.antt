-- Legs: how a station puts a datagram on a cable, and the fate of a datagram that a router has to pass on. Inside
-- AppleTalk, the chapter on DDP; the entries are this project's own.
use Rattle.std.specs.Prelude.{ℕ, ◌+◌, Bool, true, false, not, ◌&&◌, ◌||◌, ◌==◌, cond, List, [], ◌∷◌, Option, Some, None, is_some}
use Rattle.at_base.specs.declared.address.Addr.{Addr}
use Rattle.at_base.specs.Multicast.{is_all, is_group}
use Rattle.at_base.specs.declared.address.Hw.{Hw}
use Rattle.ddp.specs.Bodies.{body, hops, target, with_hops}
use Rattle.table_image.specs.Internet.{Internet}
use Rattle.audit.specs.Routing.{Hand, Here, On, Nowhere, hand, home}
use Rattle.table_image.specs.Seats.{Seat, seat_at}
use Rattle.station.specs.declared.output.DropCause.TheVariants.{NoRoute, HopLimit}
use Rattle.cable_model.specs.Outcomes.{Places, Sender, leg as leg_on}
use Rattle.cable_model.specs.declared.entry.How.TheVariants as how
use Rattle.cable_model.specs.declared.resolve.Found.{Found}
use Rattle.cable_model.specs.declared.resolve.Found.TheVariants.{At, Nobody}
use Rattle.station.specs.declared.heard.Kind.{Kind}
use Rattle.station.specs.declared.heard.Kind.TheVariants.{Ddp}
use Rattle.cable_model.specs.Pending.{Pair}
use Rattle.cable_model.specs.Transcript.{Entry, Reached, Dropped}
use Rattle.legal_runs.specs.Stations.{has_address, is_router}
use Rattle.station.specs.declared.output.Next.{Next}
use Rattle.station.specs.declared.output.Next.TheVariants as next

-- A leg: a station puts a datagram on a cable for its next receiver there. `body` is the datagram without its hop
-- count.
pub record Leg : Type 0 where
  pub station : ℕ
  pub cable : ℕ
  pub next : Next
  pub body : List ℕ
  pub hops : ℕ

-- The result of a search: the hardware address of the seat, or nobody if there is no seat.
abbrev pub found_at : Option Seat → Found
found_at None = Nobody
found_at (Some s) = At s.hardware

-- Where the stations of an internet are, and which networks have a cable; the hardware address of every station is
-- known.
abbrev pub places_of : Internet → Places
places_of i = record { finds = λ cable a. found_at (seat_at i cable a); lists = λ net. is_some (home i net) }

-- The sender of a leg whose frame has this stamp.
abbrev pub sender : ℕ → Leg → Sender
sender stamp l = record { stamp = stamp; cable = l.cable; station = l.station }

-- The bytes of a leg's datagram.
abbrev pub leg_bytes : Leg → List ℕ
leg_bytes l = with_hops l.hops l.body

-- The entries of a leg whose frame has this stamp: those that its datagram has on the cable.
abbrev pub leg : Internet → ℕ → Leg → List Entry
leg i stamp l = leg_on (places_of i) (sender stamp l) l.next (leg_bytes l)

-- ---- The fate of a datagram that a router has to pass on

-- The hardware address is that of one station.
abbrev pub is_unicast : Hw → Bool
is_unicast to = not (is_all to) && not (is_group to)

-- The frame holds a datagram.
abbrev pub is_datagram : Kind → Bool
is_datagram Ddp = true
is_datagram _ = false

-- A copy is a pair of a router and a frame to one station, with a datagram that is neither for network 0 nor for the
-- router's address on that cable.
abbrev pub is_copy : Internet → Pair → Bool
is_copy i p =
    is_datagram p.frame.kind && is_unicast p.frame.to && is_router i p.seat.station && not ((target p.frame.bytes).net == 0)
    && not (has_address i p.seat.station p.seat.cable (target p.frame.bytes))

-- The leg with which router r passes a datagram on over a cable, with one more hop.
abbrev pub passed : ℕ → Pair → ℕ → Next → Leg
passed r p cable whom = record { station = r; cable = cable; next = whom; body = body p.frame.bytes; hops = hops p.frame.bytes + 1 }

-- The receiver of a datagram on its target's cable: all stations there, or the target.
abbrev pub final : Addr → Next
final a = cond (a.node == 255) next.All (next.Station a)

-- The entries of router r's decision `hand` on a datagram; the next frame has this stamp.
abbrev pub fate_by : Internet → ℕ → ℕ → Pair → Hand → List Entry
fate_by i stamp r p Nowhere = Dropped r NoRoute (body p.frame.bytes) ∷ []
fate_by i stamp r p (Here c) =
    cond ((target p.frame.bytes).node == 0 || has_address i r c (target p.frame.bytes)) (Reached c r how.Own (body p.frame.bytes) ∷ [])
    (cond (hops p.frame.bytes == 15) (Dropped r HopLimit (body p.frame.bytes) ∷ [])
    (leg i stamp (passed r p c (final (target p.frame.bytes)))))
fate_by i stamp r p (On s c a) =
    cond (hops p.frame.bytes == 15) (Dropped r HopLimit (body p.frame.bytes) ∷ []) (leg i stamp (passed r p c (next.Station a)))

-- The entries that follow for the datagram of a pair that was taken: none unless a router has to pass it on.
abbrev pub fate : Internet → ℕ → Pair → List Entry
fate i stamp p = cond (is_copy i p) (fate_by i stamp p.seat.station p (hand i p.seat.station (target p.frame.bytes).net)) []
