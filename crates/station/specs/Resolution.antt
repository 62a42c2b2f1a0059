-- The AARP packets that stations read and send. (Inside AppleTalk, the chapter on AARP)
use Rattle.std.specs.Prelude.{ℕ, List, [], ◌∷◌, Option, Some, None, option_map}
use Rattle.aarp.specs.Choosing.{Choice, answer}
use Rattle.aarp.specs.Packets.{packet, written}
use Rattle.aarp.specs.declared.packet.Function.{Function}
use Rattle.aarp.specs.declared.packet.Function.TheVariants.{Request, Response, Probe}
use Rattle.aarp.specs.declared.packet.Packet.{Packet}
use Rattle.at_base.specs.Multicast.{all_hw}
use Rattle.at_base.specs.Packets.{packets}
use Rattle.at_base.specs.Reading.{read, value_of}
use Rattle.at_base.specs.Spelling.{bytes_of}
use Rattle.station.specs.Hearing.{Hearing}
use Rattle.station.specs.declared.heard.Kind.{Kind}
use Rattle.station.specs.declared.heard.Kind.TheVariants.{Ddp, Aarp}
use Rattle.station.specs.declared.output.Output.{Output}
use Rattle.station.specs.declared.output.Output.TheVariants.{Wire}

-- the AARP packet at the front of the bytes, if any
unfoldable pub packet_at : List ℕ → Option Packet
packet_at bytes = option_map (λ w. w.packet) (value_of (read packets packet bytes))

-- the output of an AARP packet, sent on a port to the station that the packet names
abbrev pub wired : ℕ → Option Packet → List Output
wired p None = []
wired p (Some sent) = Wire p sent.target_hw (bytes_of packet (written sent)) ∷ []

-- the output of a probe, if there is one, sent on a port to all stations of the cable
abbrev pub probed : ℕ → Option Packet → List Output
probed p None = []
probed p (Some sent) = Wire p all_hw (bytes_of packet (written sent)) ∷ []

-- the response of a port, if it exists, to an AARP packet
abbrev pub answer_by : Packet → Option Choice → Option Packet
answer_by sent None = None
answer_by sent (Some c) = answer c sent

-- the packet, if its function is that of a response
abbrev pub if_response : Packet → Function → Option Packet
if_response p Request = None
if_response p Response = Some p
if_response p Probe = None

-- the packet in an AARP frame, if it is a response
abbrev pub response_of : Kind → Option Packet → Option Packet
response_of Ddp p = None
response_of Aarp None = None
response_of Aarp (Some p) = if_response p p.function

-- the AARP response in a frame, if there is one
abbrev pub response_in : Hearing → Option Packet
response_in h = response_of h.kind (packet_at h.bytes)
