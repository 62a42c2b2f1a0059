-- The outputs of a router for a frame that it receives, and its state after it. (Inside AppleTalk, the chapters on DDP,
-- AEP, NBP, ZIP, ATP and AARP)
use Rattle.std.specs.Prelude.{◌≡◌, Bool, ◌||◌, cond, List, [], ◌++◌, Option, Some, None, option_to_list, if◌then◌else◌}
use Rattle.atp.specs.Answers.{bytes_of_all}
use Rattle.atp.specs.declared.request.Request.{Request}
use Rattle.ddp.specs.Datagram.{Datagram}
use Rattle.echo.specs.Echo.{echo_reply}
use Rattle.station.specs.Hearing.{Hearing}
use Rattle.station.specs.Resolution.{packet_at}
use Rattle.station.specs.Values.{datagram_at}
use Rattle.station.specs.Ways.{checks, is_to, replying}
use Rattle.station.specs.declared.heard.Kind.{Kind}
use Rattle.station.specs.declared.heard.Kind.TheVariants.{Ddp, Aarp}
use Rattle.station.specs.declared.output.Output.{Output}
use Rattle.router.specs.Forwarding.{course, fate}
use Rattle.router.specs.Holding.{Holding}
use Rattle.router.specs.Requests.{requests_made}
use Rattle.nbp.specs.Packets.{names_in}
use Rattle.router.specs.Resolution.{ports_after, resolved}
use Rattle.router.specs.Ways.{way_back}
use Rattle.router.specs.Zones.{transacted, zones_told}
use Rattle.atp.specs.InPlace.{transaction_in}
use Rattle.zip_zones.specs.Formats.{zones_in}
use Rattle.router.specs.declared.course.Course.{Course}
use Rattle.router.specs.declared.course.Ending.{Ending}

-- the datagram may be a request for names, or a transaction about zone lists
abbrev pub may_ask : Datagram → Bool
may_ask d = is_to 2 2 d || is_to 3 6 d

-- The outputs that a router makes for a datagram that ended at it and isn't an ATP packet for the zone socket, by its
-- type and socket: echo replies, lookups and forward requests, and replies about zones.
abbrev pub served : Holding → Ending → Datagram → List Output
served h e d =
    if is_to 4 4 d then replying (way_back h e.port d) (option_to_list (echo_reply d))
    else if is_to 2 2 d then cond e.is_own (requests_made h d (names_in d.payload)) []
    else if is_to 6 6 d then zones_told h e.port d (zones_in d.payload)
    else []

-- The outputs that a router makes for a datagram that ended at it; zone lists are requested in ATP transactions.
abbrev pub made_for : Holding → Ending → Datagram → List Output
made_for h e d =
    if is_to 3 6 d then replying (way_back h e.port d) (bytes_of_all (transacted h d (transaction_in d.payload)).0)
    else served h e d

-- the exactly-once requests for zone lists that a router holds after a datagram that ended at it
abbrev pub requests_after : Holding → Datagram → List Request
requests_after h d = if is_to 3 6 d then (transacted h d (transaction_in d.payload)).1 else h.requests

-- The outputs that a router makes for a datagram, and the requests that it holds after it: a datagram that didn't end
-- at the router or whose checksum is wrong has no outputs, and changes nothing.
abbrev pub handled : Holding → Option Ending → Datagram → List Output × List Request
handled h None d = ([], h.requests)
handled h (Some e) d = cond (checks d) (made_for h e d, requests_after h d) ([], h.requests)

-- The outputs for a datagram that took this course, and the router's state after it: first the output for the datagram
-- itself, and then the outputs that the router makes.
abbrev pub followed : Holding → Course → Datagram → List Output × Holding
followed h c d = (fate c.step d ++ (handled h c.ending d).0, record h { requests = (handled h c.ending d).1 })

-- the outputs of a router for the datagram in a frame, if there is one, and its state after it
abbrev pub heard_datagram : Holding → Hearing → Option Datagram → List Output × Holding
heard_datagram h x None = ([], h)
heard_datagram h x (Some d) = followed h (course h.ports h.routes x.port x.link d.hops d.target) d

-- the outputs of a router for an AARP frame, and its state after it
abbrev pub heard_packet : Holding → Hearing → List Output × Holding
heard_packet h x =
    (resolved h.ports x.port (packet_at x.bytes), record h { ports = ports_after h.ports x.port (packet_at x.bytes) })

-- the outputs of a router for a frame of this kind, and its state after it
abbrev pub heard_kind : Kind → Holding → Hearing → List Output × Holding
heard_kind Ddp h x = heard_datagram h x (datagram_at x.bytes)
heard_kind Aarp h x = heard_packet h x

-- the outputs of a router for a frame, and its state after it
abbrev pub heard : Holding → Hearing → List Output × Holding
heard h x = heard_kind x.kind h x

-- a router in state old receives a frame, has these outputs, and is in state new after it
abbrev pub Hears : Holding → Hearing → List Output → Holding → Type 0
Hears old x added new = (added, new) ≡ heard old x

-- A tick changes nothing, and has no outputs.
abbrev pub Ticks : Holding → List Output → Holding → Type 0
Ticks old added new = (added ≡ []) × (new ≡ old)
