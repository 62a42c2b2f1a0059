-- What the routers of an internet offer each other in routing data. (Inside AppleTalk, the chapter on RTMP)
use Rattle.std.specs.Prelude.{◌≡◌, ℕ, suc, ◌+◌, Bool, true, not, ◌&&◌, Some, slice_get, nat_lt, ◌==◌}
use Rattle.std.specs.List.{list_any}
use Rattle.audit.specs.Places.{on}
use Rattle.audit.specs.Routing.{owner}
use Rattle.rtmp.specs.States.{is_usable}
use Rattle.table_image.specs.Internet.{Internet}
use Rattle.table_image.specs.declared.port.Port.{Port}
use Rattle.table_image.specs.declared.row.Row.{Row}
use Rattle.table_image.specs.declared.router.Router.{Router}

-- the rows have the same range
abbrev pub same_range : Row → Row → Bool
same_range a b = a.start == b.start && a.end == b.end

-- one of the router's ports is on the cable
abbrev pub is_on : ℕ → Router → Bool
is_on cable router = list_any (λ p. p.cable == cable) router.ports

-- the row's port is on the cable: a router doesn't tell of such a row there (split horizon)
abbrev pub leaves_by : ℕ → Router → Row → Bool
leaves_by cable router row = on (slice_get router.ports row.port) (λ p. p.cable == cable)

-- by this row a router on the cable offers the range of the other row there
abbrev pub is_offer : ℕ → Row → Router → Row → Bool
is_offer cable row s offered = same_range offered row && is_usable offered.state && not (leaves_by cable s offered)

-- the offer's distance is less by two or more, so that the router that hears it takes it in place of the row
abbrev pub is_nearer : Row → Row → Bool
is_nearer row offered = nat_lt (suc offered.distance) row.distance

-- by this row a router on the cable offers the range of the other row there, nearer than the other row
abbrev pub is_nearer_offer : ℕ → Row → Router → Row → Bool
is_nearer_offer cable row s offered = is_offer cable row s offered && is_nearer row offered

-- the router is on the cable, and offers the range of the row there, nearer than the row
abbrev pub offers_nearer : ℕ → Row → Router → Bool
offers_nearer cable row s = is_on cable s && list_any (is_nearer_offer cable row s) s.rows

-- A router offers the range of the row, nearer than the row, on a cable of this router. The router itself never does,
-- since its one row for the range is no nearer than itself.
abbrev pub has_nearer_offer : Internet → Router → Row → Bool
has_nearer_offer i router row = list_any (λ port. list_any (offers_nearer port.cable row) i.routers) router.ports

-- The next router of a router's row has a port on the cable of the row's port, and offers the row's range there, one
-- nearer than the row.
pub record IsOfferedByNext (i : Internet) (router : Router) (row : Row) : Type 0 where
  pub port : Port
  pub port_at : slice_get router.ports row.port ≡ Some port
  pub next : ℕ
  pub owned : owner i port.cable row.next ≡ Some next
  pub their : Router
  pub their_at : slice_get i.routers next ≡ Some their
  pub on_cable : is_on port.cable their ≡ true
  pub place : ℕ
  pub offered : Row
  pub offered_at : slice_get their.rows place ≡ Some offered
  pub offer : is_offer port.cable row their offered ≡ true
  pub nearer : offered.distance + 1 ≡ row.distance
