-- A router's replies about zones. (Inside AppleTalk, the chapters on ZIP and ATP)
use Rattle.std.specs.Prelude.{ℕ, cond, List, [], ◌∷◌, map, Option, Some, None, slice_get, option_to_list}
use Rattle.aarp.specs.Choosing.{Choice}
use Rattle.at_base.specs.Range.{Span, is_between}
use Rattle.at_base.specs.Spelling.{bytes_of}
use Rattle.atp.specs.Packets.{AtpPacket, is_request}
use Rattle.atp.specs.Replies.{reply}
use Rattle.atp.specs.Responding.{heard}
use Rattle.atp.specs.declared.ask.AnswerPart.{AnswerPart}
use Rattle.atp.specs.declared.ask.Peer.{Peer}
use Rattle.atp.specs.declared.request.Request.{Request}
use Rattle.ddp.specs.Datagram.{Datagram}
use Rattle.station.specs.declared.output.Next.TheVariants as next
use Rattle.station.specs.declared.output.Output.{Output}
use Rattle.station.specs.declared.way.Way.{Way}
use Rattle.zip_zones.specs.Answers.{asked_page, net_info_reply, page_user, replies, zone_page}
use Rattle.zip_zones.specs.Formats.{packet as zip_packet}
use Rattle.zip_zones.specs.Zones.{names_at}
use Rattle.zip_zones.specs.declared.packet.Packet.{Packet}
use Rattle.zip_zones.specs.declared.packet.Packet.TheVariants as zip
use Rattle.zip_zones.specs.declared.page.Page.{Page}
use Rattle.zip_zones.specs.declared.zone_function.ZoneFunction.{ZoneFunction}
use Rattle.router.specs.Holding.{Holding, own_at}
use Rattle.router.specs.Requests.{every_node}
use Rattle.router.specs.Ways.{is_answered, way_back}
use Rattle.station.specs.Ways.{reply_header, replying, straight, way_from}

-- ---- ZIP packets

-- The way of the GetNetInfo reply for the cable of port q, which has this range: to the node itself if its network is
-- the cable's, and otherwise to all nodes there.
abbrev pub info_way : Holding → ℕ → Span → Datagram → Option Way
info_way h q range d =
    cond (is_between range.start range.end d.source.net)
    (cond (is_answered h.ports d.source)
    (way_from (own_at h.ports q) q (straight d.source) (reply_header d d.source)) None)
    (way_from (own_at h.ports q) q next.All (reply_header d every_node))

-- the data of the GetNetInfo reply for a zone on a cable with this range, if there is one
abbrev pub info : Holding → Span → List ℕ → List (List ℕ)
info h range zone = map (bytes_of zip_packet) (option_to_list (net_info_reply zone range (names_at range.start h.zones)))

-- the GetNetInfo reply for a zone on the cable of a port, if there is such a port
abbrev pub told_by : Holding → ℕ → Datagram → List ℕ → Option Choice → List Output
told_by h q d zone None = []
told_by h q d zone (Some c) = replying (info_way h q c.range d) (info h c.range zone)

-- the GetNetInfo reply for a zone on the cable of port q
abbrev pub told : Holding → ℕ → Datagram → List ℕ → List Output
told h q d zone = told_by h q d zone (slice_get h.ports q)

-- The replies to a ZIP packet that ended on port q: only queries and GetNetInfo requests are answered.
abbrev pub zones_told : Holding → ℕ → Datagram → Option Packet → List Output
zones_told h q d (Some (zip.Query nets)) = replying (way_back h q d) (map (bytes_of zip_packet) (replies h.zones nets))
zones_told h q d (Some (zip.GetNetInfo unused zone)) = told h q d zone
zones_told h q d _ = []

-- ---- Zone lists

-- the address and the socket that a datagram comes from
abbrev pub peer : Datagram → Peer
peer d = record { addr = d.source; socket = d.source_socket }

-- the part of a response that holds a page of a zone list
abbrev pub page_part : Page → AnswerPart
page_part shown = record { user = page_user shown; payload = shown.bytes }

-- The page that answers a request for a zone list; the zones of the node's cable are those of the range that holds the
-- network of its address.
abbrev pub page_for : Holding → Datagram → ZoneFunction × ℕ → Page
page_for h d (function, start) = zone_page function start (names_at d.source.net h.zones) h.zones

-- the response packets for a request for a zone list, and the requests that the router holds after it
abbrev pub listed : Holding → Datagram → AtpPacket → Option (ZoneFunction × ℕ) → List AtpPacket × List Request
listed h d p None = ([], h.requests)
listed h d p (Some wanted) = reply (peer d) p (page_part (page_for h d wanted) ∷ []) h.requests

-- The response packets for an ATP packet, and the requests that the router holds after it; a request for anything but a
-- zone list is ignored.
abbrev pub transacted : Holding → Datagram → Option AtpPacket → List AtpPacket × List Request
transacted h d None = ([], h.requests)
transacted h d (Some p) = cond (is_request p.control) (listed h d p (asked_page p.user)) ([], (heard (peer d) p h.requests).1)
