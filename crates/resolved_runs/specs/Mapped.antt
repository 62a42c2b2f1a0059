-- The hardware addresses that a station knows on its cables, where addresses are resolved: its own, those of its mappings
-- in the image, and those of the responses that it took. Inside AppleTalk, the chapter on AARP.
use Rattle.std.specs.Prelude.{ℕ, ◌&&◌, ◌==◌, cond, find, if◌then◌else◌, List, [], ◌∷◌, Option, Some, None, is_some, slice_get}
use Rattle.std.specs.Option.{option_or}
use Rattle.aarp.specs.declared.packet.Packet.{Packet}
use Rattle.at_base.specs.Address.{same_address}
use Rattle.at_base.specs.declared.address.Addr.{Addr}
use Rattle.at_base.specs.declared.address.Hw.{Hw}
use Rattle.table_image.specs.Internet.{Internet}
use Rattle.table_image.specs.Seats.{Seat, seats}
use Rattle.table_image.specs.declared.mapping.Mapping.{Mapping}
use Rattle.table_image.specs.declared.node.Node.{Node}
use Rattle.table_image.specs.declared.port.Port.{Port}
use Rattle.table_image.specs.declared.router.Router.{Router}
use Rattle.audit.specs.Routing.{home}
use Rattle.station.specs.Resolution.{packet_at, response_of}
use Rattle.cable_model.specs.Outcomes.{Places}
use Rattle.cable_model.specs.Transcript.{Entry, Frame, Put, Took}
use Rattle.cable_model.specs.declared.resolve.Found.{Found}
use Rattle.cable_model.specs.declared.resolve.Found.TheVariants.{At, Later}
use Rattle.legal_runs.specs.Stations.{node_of}

-- The mappings of the router's port on the cable.
abbrev pub port_mappings : Option Port → List Mapping
port_mappings None = []
port_mappings (Some port) = port.mappings

-- The mappings of a router's port on the cable, or those of a node on it.
abbrev pub given_to : ℕ → Option Router → Option Node → List Mapping
given_to cable (Some router) other = port_mappings (find (λ p. p.cable == cable) router.ports)
given_to cable None (Some node) = if node.cable == cable then node.mappings else []
given_to cable None None = []

-- The mappings that the image has of a station on a cable.
abbrev pub given : Internet → ℕ → ℕ → List Mapping
given i station cable = given_to cable (slice_get i.routers station) (node_of i station)

-- The hardware address of the first mapping of the address.
abbrev pub mapping_in : Addr → List Mapping → Option Hw
mapping_in a [] = None
mapping_in a (m ∷ ms) = cond (same_address a m.address) (Some m.hardware) (mapping_in a ms)

-- The hardware address of a seat.
abbrev pub hardware_of : Option Seat → Option Hw
hardware_of None = None
hardware_of (Some s) = Some s.hardware

-- The station's own hardware address, if the address is its own on the cable.
abbrev pub own_hardware : Internet → ℕ → ℕ → Addr → Option Hw
own_hardware i station cable a =
    hardware_of (find (λ s. s.station == station && s.cable == cable && same_address a s.address) (seats i))

-- The frame that was put with this stamp.
abbrev pub frame_of : ℕ → List Entry → Option Frame
frame_of stamp [] = None
frame_of stamp (Put f ∷ es) = cond (f.stamp == stamp) (Some f) (frame_of stamp es)
frame_of stamp (e ∷ es) = frame_of stamp es

-- The response in a frame on the cable.
abbrev pub response_on : ℕ → Option Frame → Option Packet
response_on cable None = None
response_on cable (Some f) = if f.cable == cable then response_of f.kind (packet_at f.bytes) else None

-- The response, where it comes from the address: its hardware address.
abbrev pub answers_for : Addr → Option Packet → Option Hw
answers_for a None = None
answers_for a (Some p) = if same_address a p.source then Some p.source_hw else None

-- The hardware address in the first response from the address that the station took on the cable, among these entries of
-- a transcript.
abbrev pub learnt_in : List Entry → ℕ → ℕ → Addr → List Entry → Option Hw
learnt_in t station cable a [] = None
learnt_in t station cable a (Took stamp by ∷ es) =
    option_or (if by == station then answers_for a (response_on cable (frame_of stamp t)) else None) (learnt_in t station cable a es)
learnt_in t station cable a (e ∷ es) = learnt_in t station cable a es

-- The hardware address that the station knows for the address on the cable, after a transcript.
abbrev pub known : Internet → List Entry → ℕ → ℕ → Addr → Option Hw
known i t station cable a =
    option_or (own_hardware i station cable a)
    (option_or (mapping_in a (given i station cable)) (learnt_in t station cable a t))

-- What a search for the address finds: its hardware address, or nothing yet.
abbrev pub found_by : Option Hw → Found
found_by None = Later
found_by (Some hw) = At hw

-- What the station finds on its cables after a transcript, and which networks have a cable.
abbrev pub places_after : Internet → List Entry → ℕ → Places
places_after i t station =
    record { finds = λ cable a. found_by (known i t station cable a); lists = λ net. is_some (home i net) }
