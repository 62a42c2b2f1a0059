-- The lookups and forwarded requests that a router sends for a request for names in a zone. (Inside AppleTalk, the
-- chapter on NBP)
use Rattle.std.specs.Prelude.{ℕ, ◌<◌, List, [], map, Option, Some, None, position, if◌then◌else◌}
use Rattle.at_base.specs.Range.{Span, same_range}
use Rattle.at_base.specs.Text.{is_name}
use Rattle.zip_zones.specs.Zones.{Known, ranges_of}
use Rattle.nbp.specs.declared.expansion.Ask.{Ask}
use Rattle.nbp.specs.declared.expansion.Ask.TheVariants.{Lookup, Forward}

-- the ranges whose lists have the zone, in rising order: none for `*`, an empty text and any other text that isn't a
-- zone name
abbrev pub listing : List ℕ → List Known → List Span
listing zone table = if is_name zone then ranges_of zone table else []

-- a lookup on a port, if there is one, else a request forwarded to the range's first network
abbrev pub ask_by : Span → Option ℕ → Ask
ask_by range None = Forward range.start
ask_by range (Some port) = Lookup port

-- the packet that a router whose ports have these ranges sends for a range: a lookup on the first port with that range,
-- else a forwarded request
abbrev pub ask : List Span → Span → Ask
ask ports range = ask_by range (position (same_range range) ports)

-- the packets that a router whose ports have these ranges sends for a request for names in a zone
abbrev pub asks : List Span → List ℕ → List Known → List Ask
asks ports zone table = map (ask ports) (listing zone table)

-- a lookup is on one of the first `ports` ports
abbrev pub IsAskIn : ℕ → Ask → Type 0
IsAskIn ports (Lookup port) = port < ports
IsAskIn ports (Forward net) = Unit {0}
