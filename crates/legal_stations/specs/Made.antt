-- The datagrams that stations make, as legs over cables.
use Rattle.std.specs.Prelude.{ℕ, List, [], ◌∷◌}
use Rattle.std.specs.List.{flat_map}
use Rattle.cable_model.specs.Outcomes.{cable_of}
use Rattle.cable_model.specs.declared.seat.Seat.{Seat}
use Rattle.legal_runs.specs.Legs.{Leg}
use Rattle.legal_runs.specs.Stations.{cable_seats}
use Rattle.station.specs.declared.output.Output.{Output}
use Rattle.station.specs.declared.output.Output.TheVariants.{Made, Passed, Kept, Dropped, Wire}
use Rattle.table_image.specs.Internet.{Internet}

-- The leg of an output: over the cable of the output's port if the station made the datagram, and no leg for other
-- outputs.
abbrev pub leg_of : List Seat → ℕ → Output → List Leg
leg_of seats s (Made port to bytes) = record { station = s; cable = cable_of seats s port; next = to; body = bytes; hops = 0 } ∷ []
leg_of seats s (Passed port to bytes) = []
leg_of seats s (Kept port bytes) = []
leg_of seats s (Dropped cause bytes) = []
leg_of seats s (Wire port to bytes) = []

-- The legs of a list of outputs, in order.
abbrev pub legs_of : List Seat → ℕ → List Output → List Leg
legs_of seats s outputs = flat_map (leg_of seats s) outputs

-- The legs of the outputs of a station of an internet.
abbrev pub legs : Internet → ℕ → List Output → List Leg
legs i s outputs = legs_of (cable_seats i) s outputs
