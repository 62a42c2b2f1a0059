-- A station that takes an address on a cable and asks questions. (Inside AppleTalk, the chapters on AARP, DDP and RTMP; when
-- it asks is this project's own)
use Rattle.std.specs.Prelude.{ℕ, ◌+◌, ◌*◌, ◌%◌, ◌==◌, Bool, false, true, not, ◌&&◌, ◌||◌, List, [], ◌∷◌, ◌++◌, min, option_map, Option, Some, None}
use Rattle.std.specs.Prelude.{nat_le, slice_index, if◌then◌else◌}
use Rattle.aarp.specs.Choosing.{Choice, answer, begun_minding, heard as heard_packet, minding, settled, ticked}
use Rattle.aarp.specs.Packets.{packet, written}
use Rattle.aarp.specs.declared.chooser.Care.{Care}
use Rattle.aarp.specs.declared.packet.Packet.{Packet}
use Rattle.at_base.specs.Multicast.{all_hw}
use Rattle.at_base.specs.Range.{Span, is_between, same_range}
use Rattle.at_base.specs.Spelling.{bytes_of}
use Rattle.at_base.specs.declared.address.Addr.{Addr}
use Rattle.at_base.specs.declared.address.Hw.{Hw}
use Rattle.cabled.specs.Acting.{Acting, Event, Heard, Tick}
use Rattle.cabled.specs.Putting.{Put, asked_again, sent, with_tick}
use Rattle.cabled.specs.Steps.{hearing_at, told}
use Rattle.cabled.specs.declared.peers.Peers.TheVariants.{Real}
use Rattle.ddp.specs.Datagram.{Datagram, datagram, datagram_of}
use Rattle.ethertalk.specs.Frames.{Framed}
use Rattle.port.specs.Ports.{Ported}
use Rattle.rtmp.specs.Data.{RoutingData, own_range, routing_in}
use Rattle.station.specs.Hearing.{Hearing}
use Rattle.station.specs.Ports.{has}
use Rattle.station.specs.Resolution.{packet_at}
use Rattle.station.specs.Values.{datagram_at}
use Rattle.station.specs.Ways.{checks, is_to, straight}
use Rattle.station.specs.declared.heard.Kind.{Kind}
use Rattle.station.specs.declared.heard.Kind.TheVariants.{Ddp, Aarp}
use Rattle.station.specs.declared.heard.Link.{Link}
use Rattle.station.specs.declared.heard.Link.TheVariants as link
use Rattle.station.specs.declared.output.Next.{Next}
use Rattle.station.specs.declared.output.Next.TheVariants as next
use Rattle.survey.specs.Agendas.{Planned, heard_by, is_quiet, planned, turn}
use Rattle.survey.specs.Agendas.{ticked as agenda_ticked}
use Rattle.survey.specs.Questions.{data_of, header_of}
use Rattle.survey.specs.declared.agenda.Aim.{Aim}
use Rattle.survey.specs.declared.agenda.Turn.{Turn}
use Rattle.survey.specs.declared.asker.Stage.{Stage}
use Rattle.survey.specs.declared.asker.Stage.TheVariants.{Listens, Chooses, Settled}
use Rattle.survey.specs.declared.seat.Seat.{Seat}
use Rattle.survey.specs.declared.slots.Open.{Open}

-- A station that asks: its port; its hardware address; once it heard the range of its cable, its choice of an address, and
-- the router that last told that range; the ticks that have passed since it began to listen, or since it heard the range;
-- and what it asks.
pub record Asking : Type 0 where
  pub port : Ported
  pub hw : Hw
  pub seat : Option Seat
  pub passed : ℕ
  pub agenda : Planned

-- the greatest number of ticks for which it listens for a range
abbrev pub most_listened : ℕ
most_listened = 60

-- the greatest number of ticks in which it chooses an address
abbrev pub most_choosing : ℕ
most_choosing = 600

-- for how many ticks a survey hears what routers broadcast at least
abbrev pub least_heard : ℕ
least_heard = 100

-- ---- Its address

-- of two stations that probe for one address at once only one goes on
abbrev pub care : Care
care = record { listens = false; one_goes_on = true }

-- the address that it tries first, by the last two bytes of its hardware address
abbrev pub first_try : Span → Hw → Addr
first_try range hw = record { net = range.start; node = (slice_index hw.0 4 * 256 + slice_index hw.0 5) % 253 + 1 }

-- its choice of an address on a cable of a range, of which a router told
abbrev pub seat_on : Hw → Span → Addr → Seat
seat_on hw range router = record { choice = begun_minding (minding care) range (first_try range hw ∷ []) hw; router = router }

-- its address, if it has one
abbrev pub own_of : Option Seat → Option Addr
own_of None = None
own_of (Some s) = settled s.choice

-- a network is of its cable, as far as it knows
abbrev pub is_near : Option Seat → ℕ → Bool
is_near None net = false
is_near (Some s) net = is_between s.choice.range.start s.choice.range.end net

-- ---- A frame

-- a datagram in a frame of this link is for it: for its address, or for all nodes of its cable
abbrev pub takes : Option Seat → Link → Datagram → Bool
takes s link.Own d = has d.target (own_of s)
takes s link.All d = d.target.node == 255 && (d.target.net == 0 || is_near s d.target.net)
takes s (link.Group g) d = false

-- its seat after a router told the range of the cable: the first that it hears counts
abbrev pub seat_told : Hw → Span → Addr → Option Seat → Option Seat
seat_told hw range router None = Some (seat_on hw range router)
seat_told hw range router (Some s) = if same_range range s.choice.range then Some (record s { router = router }) else Some s

-- its seat after routing data, if there are some
abbrev pub seat_taught : Hw → Option RoutingData → Option Seat → Option Seat
seat_taught hw None s = s
seat_taught hw (Some p) s = seat_told hw (own_range p) p.router s

-- its seat after a datagram that it accepted
abbrev pub seat_heard : Hw → Datagram → Option Seat → Option Seat
seat_heard hw d s = if is_to 1 1 d then seat_taught hw (routing_in d.payload) s else s

-- the ticks that have passed, which are counted anew where it heard a range at last
abbrev pub passed_after : ℕ → Option Seat → Option Seat → ℕ
passed_after n None None = n
passed_after n None (Some s) = 0
passed_after n (Some s) after = n

-- it has this seat now
abbrev pub seated : Asking → Option Seat → Asking
seated a s = record a { seat = s; passed = passed_after a.passed a.seat s }

-- it accepted a datagram
abbrev pub accepted : Asking → Datagram → Asking
accepted a d = record (seated a (seat_heard a.hw d a.seat)) { agenda = heard_by a.agenda d }

-- nothing happened to its questions
abbrev pub untold : Asking → Asking
untold a = record a { agenda = record a.agenda { told = [] } }

-- a datagram in a frame of this link, if there is one
abbrev pub datagram_heard : Asking → Link → Option Datagram → Asking
datagram_heard a l None = untold a
datagram_heard a l (Some d) = if takes a.seat l d && checks d then accepted a d else untold a

-- its seat after an AARP packet
abbrev pub seat_after : Packet → Option Seat → Option Seat
seat_after p None = None
seat_after p (Some s) = Some (record s { choice = heard_packet p s.choice })

-- an AARP packet that it puts
abbrev pub packet_to : Hw → Packet → Put
packet_to to p = record { port = 0; to = to; kind = Aarp; bytes = bytes_of packet (written p) }

-- its response, if there is one
abbrev pub responded : Option Packet → List Put
responded None = []
responded (Some r) = packet_to r.target_hw r ∷ []

-- its response to an AARP packet, where it has the address that is asked for
abbrev pub response_by : Packet → Option Seat → Option Packet
response_by p None = None
response_by p (Some s) = answer s.choice p

-- an AARP packet, if there is one
abbrev pub packet_heard : Asking → Option Packet → List Put × Asking
packet_heard a None = ([], untold a)
packet_heard a (Some p) = (
  responded (response_by p a.seat) ++ (told Real 0 p a.port).0,
  record (untold a) { port = (told Real 0 p a.port).1; seat = seat_after p a.seat },
)

-- what is in a frame of this kind
abbrev pub heard_kind : Kind → Asking → Hearing → List Put × Asking
heard_kind Ddp a x = ([], datagram_heard a x.link (datagram_at x.bytes))
heard_kind Aarp a x = packet_heard a (packet_at x.bytes)

-- a frame as its port hears it, if it does
abbrev pub heard_if : Asking → Option Hearing → List Put × Asking
heard_if a None = ([], untold a)
heard_if a (Some x) = heard_kind x.kind a x

-- What it puts for a frame on the cable of port k, and its state after it.
abbrev pub heard : Asking → ℕ → Framed → List Put × Asking
heard a k f = heard_if a (hearing_at Real (a.port ∷ []) k f)

-- ---- A tick

-- the probe that it puts, if there is one
abbrev pub probe_put : Option Packet → List Put
probe_put None = []
probe_put (Some p) = packet_to all_hw p ∷ []

-- the next station of a question: the station itself or all on its own cable, else the router
abbrev pub hop : Span → Addr → Addr → Next
hop range router target =
    if is_between range.start range.end target.net && not (target.node == 0) then straight target else next.Station router

-- the datagram of a question from an address
abbrev pub datagram_asked : Addr → Open → List ℕ
datagram_asked own o = bytes_of datagram (datagram_of (header_of o.question own) (data_of o.question.wanted o.id own))

-- the datagram of a question, if there are an address and a question
abbrev pub asked_bytes : Option Addr → Option Turn → Option (List ℕ)
asked_bytes None t = None
asked_bytes (Some own) None = None
asked_bytes (Some own) (Some t) = Some (datagram_asked own t.item)

-- the datagram of a question leaves by the port, if there is one
abbrev pub sent_asked : Span → Addr → Option Turn → Option (List ℕ) → Ported → List Put × Ported
sent_asked range router None bytes p = ([], p)
sent_asked range router (Some t) None p = ([], p)
sent_asked range router (Some t) (Some bytes) p = sent 0 (hop range router t.item.question.to) bytes p

-- the question that is asked, once it has an address
abbrev pub turn_if : Planned → Addr → Option Addr → Option Turn
turn_if agenda router None = None
turn_if agenda router (Some own) = turn agenda router

-- one tick more has passed
abbrev pub one_more : ℕ → ℕ
one_more n = min (n + 1) 65535

-- the port, called by this address
abbrev pub called : Option Addr → Ported → Ported
called own p = record p { own = own }

-- what the port puts in a tick, and the port after it: it asks once more for the stations that datagrams wait for, and then
-- a question leaves by it
abbrev pub asked_then : Seat → Option Turn → Option (List ℕ) → Ported → List Put × Ported
asked_then s t bytes p =
    (asked_again 0 p ++ (sent_asked s.choice.range s.router t bytes (with_tick p)).0, (sent_asked s.choice.range s.router t bytes (with_tick p)).1)

-- the same with a probe before it, of the port called by its address
abbrev pub put_in : Option Packet → Seat → Option Turn → Option (List ℕ) → Ported → List Put × Ported
put_in probe s t bytes p = (
  probe_put probe ++ (asked_then s t bytes (called (settled s.choice) p)).0,
  (asked_then s t bytes (called (settled s.choice) p)).1,
)

-- the station after a tick with this seat and this question, of which this was put
abbrev pub ticked_by : Asking → Seat → Option Turn → List Put × Ported → List Put × Asking
ticked_by a s t d = (d.0, record a { port = d.1; seat = Some s; passed = one_more a.passed; agenda = agenda_ticked a.agenda t })

-- the same, with the probe
abbrev pub ticked_seat : Asking → Option Packet → Seat → Option Turn → List Put × Asking
ticked_seat a probe s t = ticked_by a s t (put_in probe s t (asked_bytes (settled s.choice) t) a.port)

-- a tick, with the choice of an address afterwards and the probe
abbrev pub ticked_with : Asking → Addr → Choice × Option Packet → List Put × Asking
ticked_with a router c =
    ticked_seat a c.1 (record { choice = c.0; router = router }) (turn_if a.agenda router (settled c.0))

-- a tick, with this seat
abbrev pub ticked_on : Asking → Option Seat → List Put × Asking
ticked_on a None = ([], record (untold a) { passed = one_more a.passed })
ticked_on a (Some s) = ticked_with a s.router (ticked s.choice)

-- What it puts in a tick, and its state after it.
abbrev pub asking_ticked : Asking → List Put × Asking
asking_ticked a = ticked_on a a.seat

-- ---- All of it

-- what it puts for an event, and its state after it
abbrev pub asking_step : Asking → Event → List Put × Asking
asking_step a Tick = asking_ticked a
asking_step a (Heard k f) = heard a k f

-- a survey heard what routers broadcast for long enough
abbrev pub has_heard : Asking → Bool
has_heard a = not a.agenda.aim.spreads || nat_le least_heard a.passed

-- it is done with this seat: it heard no range, or took no address, or everything was asked
abbrev pub is_through : Asking → Option Seat → Bool
is_through a None = nat_le most_listened a.passed
is_through a (Some s) = if s.choice.is_settled then is_quiet a.agenda s.router && has_heard a else nat_le most_choosing a.passed

-- it is done
abbrev pub is_done : Asking → Bool
is_done a = is_through a a.seat

-- What a station that asks does.
abbrev pub asking_acts : Acting Asking
asking_acts = record { step = asking_step; ports = λ a. a.port ∷ []; is_done = is_done }

-- how far it has come
abbrev pub stage_of : Option Seat → Stage
stage_of None = Listens
stage_of (Some s) = if s.choice.is_settled then Settled s.choice.tentative else Chooses

-- a station that has heard nothing yet
abbrev pub asking_begun : Hw → Aim → Asking
asking_begun hw aim = record {
  port = record { hw = hw; own = None; maps = record { known = []; held = [] } };
  hw = hw;
  seat = None;
  passed = 0;
  agenda = planned aim;
}
