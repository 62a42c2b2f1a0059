-- Questions of a station, and the datagrams that ask them. (Inside AppleTalk, the chapters on AEP, RTMP, ZIP, ATP and
-- NBP; the socket and the order of IDs are this project's own)
use Rattle.std.specs.Prelude.{ℕ, ◌%◌, ◌==◌, Bool, true, false, List, [], ◌∷◌}
use Rattle.std.specs.Int.{byte_at}
use Rattle.at_base.specs.Spelling.{bytes_of}
use Rattle.at_base.specs.declared.address.Addr.{Addr}
use Rattle.atp.specs.Packets.{packet as atp_packet}
use Rattle.ddp.specs.declared.header.Header.{Header}
use Rattle.nbp.specs.Packets.{packet as names_packet, packet_of}
use Rattle.nbp.specs.declared.packet.Function.TheVariants.{BroadcastRequest}
use Rattle.rtmp.specs.Requests.{request as rtmp_request}
use Rattle.rtmp.specs.declared.request.Horizon.{Horizon}
use Rattle.rtmp.specs.declared.request.Request.TheVariants as request
use Rattle.survey.specs.declared.question.Question.{Question}
use Rattle.survey.specs.declared.question.Sought.{Sought}
use Rattle.survey.specs.declared.question.Wanted.{Wanted}
use Rattle.survey.specs.declared.question.Wanted.TheVariants.{Echo, Routes, Zones, List as ListOf, Names}
use Rattle.zip_zones.specs.Answers.{number}
use Rattle.zip_zones.specs.Formats.{packet as zip_packet}
use Rattle.zip_zones.specs.declared.packet.Packet.TheVariants.{Query}
use Rattle.zip_zones.specs.declared.zone_function.ZoneFunction.{ZoneFunction}

-- the type of the datagram that asks
abbrev pub kind_of : Wanted → ℕ
kind_of Echo = 4
kind_of (Routes horizon) = 5
kind_of (Zones net) = 6
kind_of (ListOf function start) = 3
kind_of (Names sought) = 2

-- the socket that is asked
abbrev pub socket_of : Wanted → ℕ
socket_of Echo = 4
socket_of (Routes horizon) = 1
socket_of (Zones net) = 6
socket_of (ListOf function start) = 6
socket_of (Names sought) = 2

-- the header of a question from an address; it comes from socket 251
abbrev pub header_of : Question → Addr → Header
header_of q own = record {
  summed = false;
  target = q.to;
  source = own;
  target_socket = socket_of q.wanted;
  source_socket = 251;
  kind = kind_of q.wanted;
}

-- several stations may answer
abbrev pub is_plural : Question → Bool
is_plural q = by q.wanted
  where
    by : Wanted → Bool
    by Echo = false
    by (Routes horizon) = q.to.node == 255
    by (Zones net) = false
    by (ListOf function start) = false
    by (Names sought) = true

-- ---- the data

-- an echo request, with its ID
abbrev pub echo_asked : ℕ → List ℕ
echo_asked id = 1 ∷ byte_at 1 id ∷ byte_at 0 id ∷ []

-- a request for routing data
abbrev pub routes_asked : Horizon → List ℕ
routes_asked horizon = bytes_of rtmp_request (request.Routes horizon)

-- a query for the zones of a network
abbrev pub zones_asked : ℕ → List ℕ
zones_asked net = bytes_of zip_packet (Query (net ∷ []))

-- an ATP request for a list of zones, from an index on: it asks for one part
abbrev pub list_asked : ZoneFunction → ℕ → ℕ → List ℕ
list_asked function start id = bytes_of atp_packet (record {
  control = 64;
  part = 1;
  id = id;
  user = number function ∷ 0 ∷ byte_at 1 start ∷ byte_at 0 start ∷ [];
  payload = [];
})

-- a broadcast request for names, whose answers come to socket 251 of an address
abbrev pub names_asked : Sought → Addr → ℕ → List ℕ
names_asked sought own id = bytes_of names_packet (packet_of BroadcastRequest (id % 256) (record {
  at = own;
  socket = 251;
  enumerator = 0;
  object = sought.object;
  kind = sought.kind;
  zone = sought.zone;
}))

-- the data of a question with this ID, from an address
abbrev pub data_of : Wanted → ℕ → Addr → List ℕ
data_of Echo id own = echo_asked id
data_of (Routes horizon) id own = routes_asked horizon
data_of (Zones net) id own = zones_asked net
data_of (ListOf function start) id own = list_asked function start id
data_of (Names sought) id own = names_asked sought own id
