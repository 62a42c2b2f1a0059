-- What a router with ports on real cables does when it hears a frame, and in a tick. (Inside AppleTalk, the chapters on
-- AARP, RTMP and EtherTalk; the order within a step is this project's own)
use Rattle.std.specs.Prelude.{ℕ, ◌+◌, Bool, false, true, not, List, [], ◌∷◌, ◌++◌, map, option_map, Option, Some, None, if◌then◌else◌}
use Rattle.std.specs.Prelude.{slice_get, slice_set}
use Rattle.aarp.specs.Choosing.{Choice, minded}
use Rattle.aarp.specs.declared.chooser.Care.{Care}
use Rattle.aarp.specs.Mapping.{forgotten, given_up, mapping_of}
use Rattle.aarp.specs.declared.packet.Function.{Function}
use Rattle.aarp.specs.declared.packet.Function.TheVariants.{Request, Response, Probe}
use Rattle.aarp.specs.declared.packet.Packet.{Packet}
use Rattle.at_base.specs.Range.{Span}
use Rattle.at_base.specs.Text.{same_bytes}
use Rattle.at_base.specs.declared.address.Addr.{Addr}
use Rattle.at_base.specs.declared.address.Hw.{Hw}
use Rattle.cabled.specs.Acting.{Acting, Event, Heard, Tick}
use Rattle.cabled.specs.Asked.{routes_asked}
use Rattle.cabled.specs.Putting.{Put, all_asked, all_dressed, released_by, with_answer, with_tick}
use Rattle.cabled.specs.declared.peers.Peers.{Peers}
use Rattle.cabled.specs.declared.peers.Peers.TheVariants.{Played, Real}
use Rattle.ddp.specs.Datagram.{Datagram}
use Rattle.ethertalk.specs.Frames.{Framed}
use Rattle.ethertalk.specs.Targets.{link_for}
use Rattle.live_router.specs.Living.{Living, heard_live_as}
use Rattle.live_router.specs.Ticking.{ticked_live}
use Rattle.port.specs.Ports.{Ported}
use Rattle.router.specs.Ending.{ended}
use Rattle.router.specs.Holding.{Holding, own_at}
use Rattle.router.specs.Resolution.{ports_told}
use Rattle.rtmp.specs.Data.{own_range, routing_in}
use Rattle.rtmp.specs.Routes.{poisoned}
use Rattle.rtmp.specs.declared.row.Row.{Row}
use Rattle.rtmp.specs.declared.tuple.Nonextended.{Nonextended}
use Rattle.rtmp.specs.declared.tuple.Nonextended.TheVariants.{AsRanges, Skipped}
use Rattle.station.specs.Hearing.{Hearing}
use Rattle.station.specs.Lawful.{Queue}
use Rattle.station.specs.Resolution.{packet_at}
use Rattle.station.specs.Ports.{planned}
use Rattle.station.specs.Ways.{is_to}
use Rattle.station.specs.declared.port_plan.PortPlan.{PortPlan}
use Rattle.zip_zones.specs.Zones.{Known}
use Rattle.station.specs.declared.heard.Kind.{Kind}
use Rattle.station.specs.declared.heard.Kind.TheVariants.{Ddp, Aarp}
use Rattle.station.specs.declared.heard.Link.{Link}
use Rattle.station.specs.declared.output.Output.{Output}

-- A router with its ports, in the order of the router's, and which rules it follows towards the other stations.
pub record Running : Type 0 where
  pub living : Living
  pub ports : List Ported
  pub peers : Peers

-- ---- Which frames are heard

-- the frame is the port's own, which a router on a real cable doesn't hear
abbrev pub is_echo : Peers → Ported → Framed → Bool
is_echo Played p f = false
is_echo Real p f = same_bytes p.hw.0 f.from.0

-- how a port hears a frame, if the frame is for it
abbrev pub link_at : Peers → Ported → Framed → Option Link
link_at peers p f = if is_echo peers p f then None else link_for p.hw None f.to

-- a frame as port k hears it
abbrev pub heard_on : ℕ → Framed → Link → Hearing
heard_on k f link = record { port = k; link = link; kind = f.kind; bytes = f.packet }

-- ---- What a router makes of a frame

-- how nonextended tuples of routing data are heard
abbrev pub hears_nonextended : Peers → Nonextended
hears_nonextended Played = Skipped
hears_nonextended Real = AsRanges

-- the range that a datagram says the cable has on which it was sent, if it is routing data
abbrev pub range_said : Datagram → Option Span
range_said d = if is_to 1 1 d then option_map own_range (routing_in d.payload) else None

-- the port on whose cable a datagram ended, if one did, and the range that it says the cable has, if it says one
abbrev pub said_by : Option (ℕ × Datagram) → Option (ℕ × Span)
said_by None = None
said_by (Some e) = option_map (λ range. (e.0, range)) (range_said e.1)

-- a router after it heard which range the cable of a port has, if it did
abbrev pub with_range : Holding → Option (ℕ × Span) → Holding
with_range h None = h
with_range h (Some s) = record h { ports = ports_told h.ports s.0 s.1 }

-- the live router after a frame
abbrev pub living_after : Peers → Living → Hearing → Living
living_after peers l x = record (heard_live_as (hears_nonextended peers) l x).1 {
  router = with_range (heard_live_as (hears_nonextended peers) l x).1.router (said_by (ended l.router x));
}

-- the answers to a request for routing data, which a router of a play doesn't give
abbrev pub answers_to : Peers → Holding → Hearing → List Output
answers_to Played h x = []
answers_to Real h x = routes_asked h x

-- the outputs in a queue, if there is one
abbrev pub items_of : Option Queue → List Output
items_of None = []
items_of (Some q) = q.items

-- the outputs of the router for a frame
abbrev pub outputs_for : Peers → Living → Hearing → List Output
outputs_for peers l x = (heard_live_as (hears_nonextended peers) l x).0 ++ answers_to peers l.router x

-- ---- What a port makes of an AARP packet

-- another hardware address than this one is known
abbrev pub is_another : Hw → Option Hw → Bool
is_another hw None = false
is_another hw (Some known) = not (same_bytes known.0 hw.0)

-- the port after a probe from a hardware address for an address: a router on a real cable forgets another mapping of it
abbrev pub doubted : Peers → Addr → Hw → Ported → Ported
doubted Played a hw p = p
doubted Real a hw p =
    if is_another hw (mapping_of a p.maps.known) then record p { maps = record p.maps { known = forgotten a p.maps.known } } else p

-- what port k puts for an AARP packet, and the port after it: a response is learnt, and what waited for it is put
abbrev pub told : Peers → ℕ → Packet → Ported → List Put × Ported
told peers k sent p = by sent.function
  where
    by : Function → List Put × Ported
    by Request = ([], p)
    by Probe = ([], doubted peers sent.target sent.source_hw p)
    by Response = (released_by k sent.source sent.source_hw p.maps.held, with_answer sent.source sent.source_hw p)

-- what is put for an AARP packet, if there is one, that a port heard, if there is such a port; and the ports after it
abbrev pub told_at : Peers → ℕ → List Ported → Option Packet → Option Ported → List Put × List Ported
told_at peers k ports None p = ([], ports)
told_at peers k ports (Some sent) None = ([], ports)
told_at peers k ports (Some sent) (Some p) = ((told peers k sent p).0, slice_set ports k (told peers k sent p).1)

-- the AARP packet in a frame of this kind, if there is one
abbrev pub packet_of : Kind → List ℕ → Option Packet
packet_of Ddp bytes = None
packet_of Aarp bytes = packet_at bytes

-- ---- A frame

-- what is put for what port k heard, when these were put for the router's outputs and left these ports
abbrev pub told_after : Peers → Hearing → List Put × List Ported → List Put × List Ported
told_after peers x d = (
  d.0 ++ (told_at peers x.port d.1 (packet_of x.kind x.bytes) (slice_get d.1 x.port)).0,
  (told_at peers x.port d.1 (packet_of x.kind x.bytes) (slice_get d.1 x.port)).1,
)

-- what is put for what a port heard, and the ports after it
abbrev pub put_for : Peers → Living → List Ported → Hearing → List Put × List Ported
put_for peers l ports x = told_after peers x (all_dressed (outputs_for peers l x) ports)

-- a frame as a port with a number hears it, if there is such a port and the frame is for it
abbrev pub hearing_of : Peers → ℕ → Framed → Option Ported → Option Hearing
hearing_of peers k f None = None
hearing_of peers k f (Some p) = option_map (heard_on k f) (link_at peers p f)

-- a frame as port k of these hears it, if it does
abbrev pub hearing_at : Peers → List Ported → ℕ → Framed → Option Hearing
hearing_at peers ports k f = hearing_of peers k f (slice_get ports k)

-- what is put for a frame that a port hears, if one does, and the ports after it
abbrev pub put_by : Peers → Living → List Ported → Option Hearing → List Put × List Ported
put_by peers l ports None = ([], ports)
put_by peers l ports (Some x) = put_for peers l ports x

-- the live router after a frame that a port hears, if one does
abbrev pub living_by : Peers → Living → Option Hearing → Living
living_by peers l None = l
living_by peers l (Some x) = living_after peers l x

-- what a router puts for a frame that a port hears, if one does, and its state after it
abbrev pub heard_by : Running → Option Hearing → List Put × Running
heard_by r x = (
  (put_by r.peers r.living r.ports x).0,
  record r { living = living_by r.peers r.living x; ports = (put_by r.peers r.living r.ports x).1 },
)

-- What a router puts for a frame on the cable of port k, and its state after it.
abbrev pub heard : Running → ℕ → Framed → List Put × Running
heard r k f = heard_by r (hearing_at r.peers r.ports k f)

-- ---- A tick

-- port k, called by the address of its choice, if it is settled
abbrev pub called_at : List Choice → ℕ → Ported → Ported
called_at choices k p = record p { own = own_at choices k }

-- the ports, which are numbered from k, called by the addresses of their choices
abbrev pub called_from : List Choice → ℕ → List Ported → List Ported
called_from choices k [] = []
called_from choices k (p ∷ ps) = called_at choices k p ∷ called_from choices (k + 1) ps

-- the ports, called by the addresses of their choices
abbrev pub called : List Choice → List Ported → List Ported
called choices ports = called_from choices 0 ports

-- the rows after the routers with these addresses were lost
abbrev pub all_poisoned : List Addr → List Row → List Row
all_poisoned [] rows = rows
all_poisoned (a ∷ others) rows = all_poisoned others (poisoned a rows)

-- the rows after a tick of the ports: a router whose address is given up is lost
abbrev pub without_lost : List Ported → List Row → List Row
without_lost [] rows = rows
without_lost (p ∷ ps) rows = without_lost ps (all_poisoned (given_up p.maps.held) rows)

-- the live router after a tick of the ports
abbrev pub after_asking : List Ported → Living → Living
after_asking ports l = record l { router = record l.router { routes = without_lost ports l.router.routes } }

-- what is put in a tick, and the router's state after it, by the live router after it, and by what was put for its
-- outputs, with the ports after that
abbrev pub ticked_with : Peers → Living → List Put × List Ported → List Put × Running
ticked_with peers l d =
    (d.0 ++ all_asked 0 d.1, record { living = after_asking d.1 l; ports = map with_tick d.1; peers = peers })

-- what is put for the outputs of a tick, and the ports after that: each port is called by its settled address first
abbrev pub put_in : List Ported → List Output × Living → List Put × List Ported
put_in ports t = all_dressed t.0 (called t.1.router.ports ports)

-- What a router puts in a tick, and its state after it: first what its live router puts out; then each port asks once
-- more for the stations that datagrams wait for, and gives up those that it asked for ten times.
abbrev pub ticked : Running → List Put × Running
ticked r = ticked_with r.peers (ticked_live r.living).1 (put_in r.ports (ticked_live r.living))

-- ---- The beginning

-- a port before it heard anything
abbrev pub first_port : PortPlan → Ported
first_port p = record { hw = p.hw; own = None; maps = record { known = []; held = [] } }

-- what choices of addresses mind of the other stations on real cables
abbrev pub careful : Care
careful = record { listens = true; one_goes_on = true }

-- the choices of a router's addresses, as its rules have them
abbrev pub all_minded : Peers → List Choice → List Choice
all_minded Played choices = choices
all_minded Real choices = map (minded careful) choices

-- A router before its first tick, with these ports and this zone table.
abbrev pub begun : Peers → List PortPlan → List Known → Running
begun peers plans zones = record {
  living = record {
    router = record { ports = all_minded peers (map planned plans); routes = []; zones = zones; requests = [] };
    phase = 0;
  };
  ports = map first_port plans;
  peers = peers;
}

-- ---- An event

-- What a router puts for an event, and its state after it.
abbrev pub step : Running → Event → List Put × Running
step r Tick = ticked r
step r (Heard k f) = heard r k f

-- What a router on real cables does; it is never done.
abbrev pub router_acts : Acting Running
router_acts = record { step = step; ports = λ r. r.ports; is_done = λ r. false }
