-- The response of a station to an AARP frame that it took.
use Rattle.std.specs.Prelude.{◌≡◌, ℕ, List, [], ◌∷◌, Option, Some, None}
use Rattle.at_base.specs.declared.address.Hw.{Hw}
use Rattle.aarp.specs.declared.packet.Function.{Function}
use Rattle.aarp.specs.declared.packet.Function.TheVariants.{Probe, Request, Response}
use Rattle.aarp.specs.declared.packet.Packet.{Packet}
use Rattle.table_image.specs.Internet.{Internet}
use Rattle.station.specs.Resolution.{packet_at}
use Rattle.station.specs.declared.heard.Kind.TheVariants.{Aarp}
use Rattle.station.specs.declared.output.Output.{Output}
use Rattle.station.specs.declared.output.Output.TheVariants.{Wire}
use Rattle.cable_model.specs.Outcomes.{cable_of, framed}
use Rattle.cable_model.specs.Pending.{Pair}
use Rattle.cable_model.specs.Transcript.{Entry, next_stamp}
use Rattle.legal_runs.specs.Stations.{cable_seats}
use Rattle.resolved_runs.specs.Resolved.{answered}

-- The entries of the response to an AARP packet, after a transcript; a response has none.
abbrev pub response_to : Internet → List Entry → Pair → Packet → Function → List Entry
response_to i t p sent Request = answered i t p.seat.station p.frame.cable sent
response_to i t p sent Probe = answered i t p.seat.station p.frame.cable sent
response_to i t p sent Response = []

-- The entries of the response to what an AARP frame holds, after a transcript.
abbrev pub response_of : Internet → List Entry → Pair → Option Packet → List Entry
response_of i t p None = []
response_of i t p (Some sent) = response_to i t p sent sent.function

-- The entries of the response to an AARP frame, after a transcript.
abbrev pub response : Internet → List Entry → Pair → List Entry
response i t p = response_of i t p (packet_at p.frame.bytes)

-- The outputs of a station are those of its response to an AARP frame: none, or one that it sends over the cable of the
-- frame.
pub data Responds (i : Internet) (p : Pair) : List Output → Type 0 where
  Silent : ((t : List Entry) → response i t p ≡ []) → Responds i p []
  Tells : (q : ℕ) (to : Hw) (bytes : List ℕ) → cable_of (cable_seats i) p.seat.station q ≡ p.frame.cable
      → ((t : List Entry) → response i t p
      ≡ framed (record { stamp = next_stamp t; cable = p.frame.cable; station = p.seat.station }) to Aarp bytes ∷ [])
      → Responds i p (Wire q to bytes ∷ [])
