-- Datagrams that a station makes. (Inside AppleTalk, the chapter on DDP)
use Rattle.std.specs.Prelude.{ℕ, List, map}
use Rattle.at_base.specs.Spelling.{bytes_of}
use Rattle.ddp.specs.Datagram.{datagram, datagram_of}
use Rattle.station.specs.declared.output.Output.{Output}
use Rattle.station.specs.declared.output.Output.TheVariants.{Made}
use Rattle.station.specs.declared.way.Way.{Way}

-- the datagram with this data that is sent on a way
abbrev pub made : Way → List ℕ → Output
made way payload = Made way.port way.next (bytes_of datagram (datagram_of way.header payload))

-- the datagrams with these data, one for each, that are sent on a way
abbrev pub all_made : Way → List (List ℕ) → List Output
all_made way payloads = map (made way) payloads
