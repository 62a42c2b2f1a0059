-- The datagrams that answer a question. (Inside AppleTalk, the chapters on AEP, RTMP, ZIP, ATP and NBP)
use Rattle.std.specs.Prelude.{ℕ, ◌%◌, ◌==◌, Bool, true, false, ◌&&◌, ◌||◌, List, [], ◌∷◌, filter, length, map, Option, Some, None, Result, Ok, Err}
use Rattle.std.specs.Prelude.{◌+◌, ◌*◌, slice_index, if◌then◌else◌}
use Rattle.std.specs.Int.{byte_at}
use Rattle.std.specs.List.{list_any}
use Rattle.at_base.specs.Address.{same_address}
use Rattle.at_base.specs.Grammar.{Grammar, done, part}
use Rattle.at_base.specs.Packets.{packets, text}
use Rattle.at_base.specs.Range.{Span, is_between}
use Rattle.at_base.specs.Reading.{many_at, read}
use Rattle.at_base.specs.Text.{same_bytes}
use Rattle.at_base.specs.declared.address.Addr.{Addr}
use Rattle.at_base.specs.declared.error.Error.{Error}
use Rattle.atp.specs.InPlace.{transaction_in}
use Rattle.atp.specs.Packets.{AtpPacket, is_response}
use Rattle.ddp.specs.Datagram.{Datagram}
use Rattle.nbp.specs.Packets.{NbpPacket, names_in}
use Rattle.nbp.specs.declared.packet.Function.{Function}
use Rattle.nbp.specs.declared.packet.Function.TheVariants as function
use Rattle.rtmp.specs.Data.{RoutingData, own_range, routing_in}
use Rattle.station.specs.Ways.{is_to}
use Rattle.survey.specs.declared.question.Question.{Question}
use Rattle.survey.specs.declared.question.Wanted.{Wanted}
use Rattle.survey.specs.declared.question.Wanted.TheVariants.{Echo, Routes, Zones, List as ListOf, Names}
use Rattle.zip_zones.specs.Formats.{zones_in}
use Rattle.zip_zones.specs.Packets.{wrong_name}
use Rattle.zip_zones.specs.declared.entry.Entry.{Entry}
use Rattle.zip_zones.specs.declared.packet.Packet.{Packet}
use Rattle.zip_zones.specs.declared.packet.Packet.TheVariants.{Query, Reply, GetNetInfo, NetInfoReply, ExtendedReply}

-- ---- Lists of zones

-- the format of a name in a list of zones
unfoldable pub zone_item : Grammar Error true (List ℕ)
zone_item = part (text 1 wrong_name) (λ name. name) (λ name. done name)

-- what was read, if it was
abbrev pub if_read : {E A : Type 0} → Result A E → Option A
if_read (Ok x) = Some x
if_read (Err e) = None

-- the names up to the end of the bytes, if they are nothing else
abbrev pub zones_listed : List ℕ → Option (List (List ℕ))
zones_listed bytes = if_read (many_at (λ low. read packets zone_item) (λ name. 0) 0 (length bytes) bytes)

-- ---- What each answer is

-- the data of the answer to an echo request with this ID
abbrev pub echo_answered : ℕ → List ℕ
echo_answered id = 2 ∷ byte_at 1 id ∷ byte_at 0 id ∷ []

-- the sender of routing data, whose cable has this range, was asked: it is the station that was asked, or a router on the
-- cable of its network, where any or each router there was asked
abbrev pub was_asked : Addr → Addr → Span → Bool
was_asked to source range =
    if to.node == 0 || to.node == 255 then is_between range.start range.end to.net else same_address source to

-- the packet is routing data of who was asked
abbrev pub tells_routes : Addr → Addr → Option RoutingData → Bool
tells_routes to source None = false
tells_routes to source (Some p) = was_asked to source (own_range p)

-- an entry is of the network
abbrev pub has_network : ℕ → List Entry → Bool
has_network net es = list_any (λ e. e.net == net) es

-- the packet is a reply with a zone of the network
abbrev pub tells_zones : ℕ → Option Packet → Bool
tells_zones net None = false
tells_zones net (Some (Query nets)) = false
tells_zones net (Some (Reply count es)) = has_network net es
tells_zones net (Some (GetNetInfo unused asked)) = false
tells_zones net (Some (NetInfoReply info)) = false
tells_zones net (Some (ExtendedReply total es)) = has_network net es

-- how many zones a response says that it lists, in the last two of its user bytes
abbrev pub count_listed : AtpPacket → ℕ
count_listed p = slice_index p.user 2 * 256 + slice_index p.user 3

-- so many zones were listed
abbrev pub are_listed : ℕ → Option (List (List ℕ)) → Bool
are_listed count None = false
are_listed count (Some names) = length names == count

-- the packet is the response of a transaction, and lists as many zones as it says
abbrev pub tells_list : ℕ → Option AtpPacket → Bool
tells_list id None = false
tells_list id (Some p) = is_response p.control && p.id == id && are_listed (count_listed p) (zones_listed p.payload)

-- the function is that of a reply
abbrev pub is_reply : Function → Bool
is_reply function.BroadcastRequest = false
is_reply function.Lookup = false
is_reply function.Reply = true
is_reply function.ForwardRequest = false

-- the packet is a reply to the request for names with this ID
abbrev pub tells_names : ℕ → Option NbpPacket → Bool
tells_names id None = false
tells_names id (Some p) = is_reply p.function && p.id == id % 256

-- The datagram answers the question with this ID: it came to the socket that questions are asked from, with what was asked
-- for, and from who was asked.
abbrev pub is_answer : Question → ℕ → Datagram → Bool
is_answer q id d = by q.wanted
  where
    by : Wanted → Bool
    by Echo = is_to 4 251 d && same_address d.source q.to && same_bytes d.payload (echo_answered id)
    by (Routes horizon) = is_to 1 251 d && tells_routes q.to d.source (routing_in d.payload)
    by (Zones net) = is_to 6 251 d && same_address d.source q.to && tells_zones net (zones_in d.payload)
    by (ListOf function start) = is_to 3 251 d && same_address d.source q.to && tells_list id (transaction_in d.payload)
    by (Names sought) = is_to 2 251 d && tells_names id (names_in d.payload)

-- ---- What is learnt of an answer

-- the zones of a network in some entries
abbrev pub zones_of : ℕ → List Entry → List (List ℕ)
zones_of net es = map (λ e. e.name) (filter (λ e. e.net == net) es)

-- the zones of a network in a packet, if it is a reply
abbrev pub zones_replied : ℕ → Option Packet → List (List ℕ)
zones_replied net None = []
zones_replied net (Some (Query nets)) = []
zones_replied net (Some (Reply count es)) = zones_of net es
zones_replied net (Some (GetNetInfo unused asked)) = []
zones_replied net (Some (NetInfoReply info)) = []
zones_replied net (Some (ExtendedReply total es)) = zones_of net es

-- the zones, if some were listed
abbrev pub all_listed : Option (List (List ℕ)) → List (List ℕ)
all_listed None = []
all_listed (Some names) = names

-- the zones in the response of a transaction, if there is one
abbrev pub zones_in_list : Option AtpPacket → List (List ℕ)
zones_in_list None = []
zones_in_list (Some p) = all_listed (zones_listed p.payload)

-- The zones that the answer to a question names, by its data.
abbrev pub zones_told : Wanted → List ℕ → List (List ℕ)
zones_told Echo payload = []
zones_told (Routes horizon) payload = []
zones_told (Zones net) payload = zones_replied net (zones_in payload)
zones_told (ListOf function start) payload = zones_in_list (transaction_in payload)
zones_told (Names sought) payload = []
