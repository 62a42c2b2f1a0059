-- The ways of the datagrams that a router makes. (Inside AppleTalk, the chapter on DDP)
use Rattle.std.specs.Prelude.{ℕ, Bool, not, ◌&&◌, ◌==◌, cond, List, Option, None}
use Rattle.aarp.specs.Choosing.{Choice}
use Rattle.at_base.specs.declared.address.Addr.{Addr}
use Rattle.ddp.specs.Datagram.{Datagram}
use Rattle.ddp.specs.declared.header.Header.{Header}
use Rattle.station.specs.Ports.{have}
use Rattle.station.specs.Ways.{reply_header, straight, way_from}
use Rattle.station.specs.declared.output.Next.TheVariants as next
use Rattle.station.specs.declared.way.Way.{Way}
use Rattle.router.specs.Holding.{Holding, hand, own_at}
use Rattle.router.specs.declared.hand.Hand.{Hand}
use Rattle.router.specs.declared.hand.Hand.TheVariants.{Here, On, Nowhere}

-- the router replies to the address: its network and node aren't 0, and it isn't an address of the router's own
abbrev pub is_answered : List Choice → Addr → Bool
is_answered ports a = not (a.net == 0) && not (a.node == 0) && not (have a ports)

-- The way of a datagram with this header, by the router's route to its target; source gives the source address for the
-- port on which it leaves.
abbrev pub way_by : Hand → (ℕ → Option Addr) → Header → Option Way
way_by Nowhere source header = None
way_by (Here q) source header = way_from (source q) q (straight header.target) header
way_by (On q a) source header = way_from (source q) q (next.Station a) header

-- The way of the reply to a datagram that ended on port q, with q's address as source: None if the router doesn't reply
-- to the datagram's source, has no route to it, or port q has no address.
abbrev pub way_back : Holding → ℕ → Datagram → Option Way
way_back h q d =
    cond (is_answered h.ports d.source)
    (way_by (hand h.routes d.source.net) (λ leaving. own_at h.ports q) (reply_header d d.source)) None
