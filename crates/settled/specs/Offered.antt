-- Who offers the range of a row nearer than the row: the first offer, by the ports of the row's router, then by the
-- routers, then by their rows.
use Rattle.std.specs.Prelude.{ℕ, ◌+◌, ◌-◌, Bool, false, ◌&&◌, List, [], ◌∷◌, Option, Some, None, min, nat_lt, slice_get, if◌then◌else◌}
use Rattle.at_base.specs.declared.error.Place.{Place}
use Rattle.at_base.specs.declared.error.Place.TheVariants as place
use Rattle.audit.specs.Rules.{at_row}
use Rattle.settled.specs.Offers.{has_nearer_offer, is_nearer_offer, is_on}
use Rattle.settled.specs.declared.offering.Offer.{Offer}
use Rattle.table_image.specs.Internet.{Internet}
use Rattle.table_image.specs.declared.port.Port.{Port}
use Rattle.table_image.specs.declared.row.Row.{Row}
use Rattle.table_image.specs.declared.router.Router.{Router}

-- the number after this one, capped at the greatest of 32 bits
abbrev pub next_number : ℕ → ℕ
next_number n = min (n + 1) 4294967295

-- the first of these rows of router s by which it offers the range of the row, nearer, on the cable: its number and its
-- distance; the first of these rows has number m
abbrev pub row_offering : ℕ → Row → Router → ℕ → List Row → Option (ℕ × ℕ)
row_offering cable row s m [] = None
row_offering cable row s m (o ∷ rows) =
    if is_nearer_offer cable row s o then Some (m, o.distance) else row_offering cable row s (next_number m) rows

-- the row of router s by which it offers the range of the row, nearer, on the cable, if it is there
abbrev pub row_of : ℕ → Row → Router → Option (ℕ × ℕ)
row_of cable row s = if is_on cable s then row_offering cable row s 1 s.rows else None

-- the offer of router s on the cable by the row that was found, or else a later offer
abbrev pub offer_or : ℕ → ℕ → Option (ℕ × ℕ) → Option Offer → Option Offer
offer_or cable s None later = later
offer_or cable s (Some found) later = Some (record { cable = cable + 1; router = s; row = found.0; distance = found.1 })

-- the first of these routers that offers the range of the row, nearer, on the cable; the first of them has number s
abbrev pub router_offering : ℕ → Row → ℕ → List Router → Option Offer
router_offering cable row s [] = None
router_offering cable row s (router ∷ routers) =
    offer_or cable s (row_of cable row router) (router_offering cable row (next_number s) routers)

-- the first one, or else the later one
abbrev pub first_or : Option Offer → Option Offer → Option Offer
first_or None later = later
first_or (Some o) later = Some o

-- the first offer on the cables of these ports
abbrev pub port_offering : Row → List Router → List Port → Option Offer
port_offering row routers [] = None
port_offering row routers (p ∷ ports) = first_or (router_offering p.cable row 1 routers) (port_offering row routers ports)

-- the first offer to a row of this router, if there is such a row
abbrev pub offer_in : Internet → Router → Option Row → Option Offer
offer_in i router None = None
offer_in i router (Some row) = port_offering row i.routers router.ports

-- the first offer to the row with this index of a router, if there is such a router
abbrev pub offer_by : Internet → ℕ → Option Router → Option Offer
offer_by i k None = None
offer_by i k (Some router) = offer_in i router (slice_get router.rows k)

-- the first offer to the row at a place, if it has one
abbrev pub offer_to : Internet → Place → Option Offer
offer_to i (place.Row r k) = if nat_lt 0 r && nat_lt 0 k then offer_by i (k - 1) (slice_get i.routers (r - 1)) else None
offer_to i _ = None

-- a router offers the range of the row at a place nearer
abbrev pub has_offer : Internet → Place → Bool
has_offer i (place.Row r k) = nat_lt 0 r && nat_lt 0 k && at_row i (r - 1) (k - 1) (has_nearer_offer i)
has_offer i _ = false
