-- Small internets: a ring of four routers of which one goes the long way round, and the same where it goes the short
-- way.
use Rattle.std.specs.Prelude.{ℕ, true, List, [], ◌∷◌, codes}
use Rattle.at_base.specs.declared.address.Addr.{Addr}
use Rattle.audit.specs.Example.{addr, direct, port}
use Rattle.rtmp.specs.declared.state.State.{State}
use Rattle.rtmp.specs.declared.state.State.TheVariants.{Good}
use Rattle.table_image.specs.Internet.{Internet, internet}
use Rattle.table_image.specs.declared.cable.Cable.{Cable}
use Rattle.table_image.specs.declared.port.Port.{Port}
use Rattle.table_image.specs.declared.row.Row.{Row}
use Rattle.table_image.specs.declared.router.Router.{Router}
use Rattle.table_image.specs.declared.version.Version.TheVariants.{V1}
use Rattle.table_image.specs.declared.zone_list.ZoneList.{ZoneList}

-- the row of a range at a distance, through this next router, by a port, in a state
abbrev pub row : ℕ → ℕ → ℕ → Addr → ℕ → State → Row
row start end distance next port state =
    record { start = start; end = end; distance = distance; port = port; next = next; state = state }

-- a cable of one zone, with these networks
abbrev pub cable : ℕ → ℕ → Cable
cable start end = record { start = start; end = end; zones = codes "Red" ∷ [] }

-- the complete list of that zone, of a range
abbrev pub list : ℕ → ℕ → ZoneList
list start end = record { start = start; end = end; complete = true; zones = codes "Red" ∷ [] }

-- the lists of 10-19, 20-29, 30-39 and 40-49
abbrev pub lists : List ZoneList
lists = list 10 19 ∷ list 20 29 ∷ list 30 39 ∷ list 40 49 ∷ []

-- a router with these ports and rows
abbrev pub router : List Port → List Row → Router
router ports rows = record { ports = ports; rows = rows; lists = lists }

-- A ring: each router joins two neighbouring cables. The first router's row for 30-39 is this one.
abbrev pub ring : Row → Internet
ring far =
    internet V1 (cable 10 19 ∷ cable 20 29 ∷ cable 30 39 ∷ cable 40 49 ∷ [])
    (router (port 0 (addr 10 1) 1 ∷ port 1 (addr 20 1) 2 ∷ [])
    (direct 10 19 0 ∷ direct 20 29 1 ∷ far ∷ row 40 49 1 (addr 10 2) 0 Good ∷ [])
    ∷ router (port 1 (addr 20 2) 3 ∷ port 2 (addr 30 1) 4 ∷ [])
    (row 10 19 1 (addr 20 1) 0 Good ∷ direct 20 29 0 ∷ direct 30 39 1 ∷ row 40 49 1 (addr 30 2) 1 Good ∷ [])
    ∷ router (port 2 (addr 30 2) 5 ∷ port 3 (addr 40 1) 6 ∷ [])
    (row 10 19 1 (addr 40 2) 1 Good ∷ row 20 29 1 (addr 30 1) 0 Good ∷ direct 30 39 0 ∷ direct 40 49 1 ∷ [])
    ∷ router (port 3 (addr 40 2) 7 ∷ port 0 (addr 10 2) 8 ∷ [])
    (direct 10 19 1 ∷ row 20 29 1 (addr 10 1) 1 Good ∷ row 30 39 1 (addr 40 1) 0 Good ∷ direct 40 49 0 ∷ []) ∷ [])
    []

-- the first router reaches 30-39 by two routers, by way of cable 10-19 and the fourth one
abbrev pub long_way : Row
long_way = row 30 39 2 (addr 10 2) 0 Good

-- and by one, by way of cable 20-29 and the second one: in a state
abbrev pub short_way : State → Row
short_way state = row 30 39 1 (addr 20 2) 1 state
