-- Tables and packets for the laws that compute examples: those of a router on 10-19 with the neighbour 10.2.
use Rattle.std.specs.Prelude.{ℕ, List, [], ◌∷◌, codes}
use Rattle.at_base.specs.Range.{Span}
use Rattle.rtmp.specs.declared.row.Row.{Row}
use Rattle.rtmp.specs.declared.state.State.{State}
use Rattle.rtmp.specs.declared.state.State.TheVariants.{Good, Suspect, Bad, Last}
use Rattle.rtmp.specs.Data.{RoutingData, data_of}
use Rattle.rtmp.specs.declared.tuple.Tuple.{Tuple}
use Rattle.zip_zones.specs.Zones.{Known}

-- the networks from start to end
abbrev pub span : ℕ → ℕ → Span
span start end = record { start = start; end = end }

-- the direct row of 10-19, the cable of port 0
abbrev pub own : Row
own = record { range = span 10 19; distance = 0; port = 0; next = record { net = 0; node = 0 }; state = Good }

-- a row of a range through router 10.2, in a state
abbrev pub row : ℕ → ℕ → State → Row
row start end state =
    record { range = span start end; distance = 1; port = 0; next = record { net = 10; node = 2 }; state = state }

-- the direct row of 10-19, and a row of each state through router 10.2
abbrev pub five_rows : List Row
five_rows = own ∷ row 20 29 Good ∷ row 30 39 Suspect ∷ row 40 49 Bad ∷ row 50 59 Last ∷ []

-- the zone list of a range, with total zones and these names
abbrev pub known : ℕ → ℕ → ℕ → List (List ℕ) → Known
known start end total names = record { range = span start end; total = total; names = names }

-- a zone name
abbrev pub red : List ℕ
red = codes "Red"

-- a tuple of routing data: a range and its distance
abbrev pub tuple : ℕ → ℕ → ℕ → Tuple
tuple start end distance = record { range = span start end; distance = distance }

-- the routing data of a router in network net on a cable from start to end: its own range, and 20-29 as its other cable
abbrev pub said_by : ℕ → ℕ → ℕ → RoutingData
said_by net start end = data_of (record { net = net; node = 2 }) (tuple start end 0 ∷ tuple 20 29 0 ∷ [])
