-- Where the station with an address is.
use Rattle.std.specs.Prelude.{ℕ, Bool, true, false, length, nat_lt, ◌&&◌, ◌==◌, List, Option, Some, None, find, option_map}
use Rattle.at_base.specs.Address.{same_address}
use Rattle.at_base.specs.declared.address.Addr.{Addr}
use Rattle.table_image.specs.Seats.{Seat, seats}
use Rattle.image_stations.specs.declared.whereabouts.Spot.{Spot}
use Rattle.table_image.specs.Internet.{Internet}

-- No cable is named, or this one is.
abbrev pub is_named : Option ℕ → ℕ → Bool
is_named None cable = true
is_named (Some named) cable = cable == named

-- The seat has the address, and is on the named cable if one is named.
abbrev pub is_at : Option ℕ → Addr → Seat → Bool
is_at named a s = is_named named s.cable && same_address s.address a

-- The spot of a seat: its station, cable and hardware address.
abbrev pub spot_of : Seat → Spot
spot_of s = record { station = s.station; cable = s.cable; hardware = s.hardware }

-- The spot of the first of these seats that has the address, on this cable if one is named.
abbrev pub spot_in : List Seat → Option ℕ → Addr → Option Spot
spot_in seats cable a = option_map spot_of (find (is_at cable a) seats)

-- The first station that has the address.
abbrev pub station_at : Internet → Addr → Option ℕ
station_at i a = option_map (λ (s : Spot). s.station) (spot_in (seats i) None a)

-- The spot is that of a router.
abbrev pub is_routers : Internet → Option Spot → Bool
is_routers i None = false
is_routers i (Some s) = nat_lt s.station (length i.routers)
