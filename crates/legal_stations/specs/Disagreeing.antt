-- Holdings of the first router of the example that don't agree with the image.
use Rattle.std.specs.Prelude.{[], ◌∷◌}
use Rattle.audit.specs.Example.{addr, by_way_of, direct}
use Rattle.router.specs.Holding.{Holding}
use Rattle.table_image.specs.RouteRows.{route_row}
use Rattle.table_image.specs.declared.row.Row.{Row}

-- A router that holds no row.
abbrev pub rowless : Holding
rowless = record { ports = []; routes = []; zones = []; requests = [] }

-- A router that holds this row alone.
abbrev pub with_row : Row → Holding
with_row row = record { ports = []; routes = route_row row ∷ []; zones = []; requests = [] }

-- The direct row of the first cable, on another port than the router's there.
abbrev pub by_the_second_port : Holding
by_the_second_port = with_row (direct 10 19 1)

-- The direct row of the first cable, on a port that the router doesn't have.
abbrev pub by_no_port : Holding
by_no_port = with_row (direct 10 19 2)

-- A row through the second router for the first router's own cable.
abbrev pub round_about : Holding
round_about = with_row (by_way_of (addr 20 2) 10 19 1)

-- A direct row for the last cable, on which the first router isn't.
abbrev pub said_to_be_there : Holding
said_to_be_there = with_row (direct 30 39 1)

-- The row for the last cable, through the second router, on the port of the first cable.
abbrev pub over_the_first_cable : Holding
over_the_first_cable = with_row (by_way_of (addr 20 2) 30 39 0)

-- The row for the last cable, through an address that nobody has.
abbrev pub through_nobody : Holding
through_nobody = with_row (by_way_of (addr 20 9) 30 39 1)

-- A row through the second router, for networks that no cable has.
abbrev pub to_unlisted : Holding
to_unlisted = with_row (by_way_of (addr 20 2) 50 59 1)

-- A direct row for networks that no cable has.
abbrev pub unlisted_there : Holding
unlisted_there = with_row (direct 50 59 1)
