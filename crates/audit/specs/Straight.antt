-- Rows that stand side by side with the cables, as those of an internet do that keeps the rules about rows.
use Rattle.std.specs.Prelude.{◌≡◌, ℕ, ◌+◌, Bool, true, not, ◌&&◌, ◌||◌, ◌==◌, Some, length, nat_lt, slice_get}
use Rattle.rtmp.specs.States.{is_usable}
use Rattle.table_image.specs.Internet.{Internet}
use Rattle.table_image.specs.Rows.{is_direct}
use Rattle.table_image.specs.declared.router.Router.{Router}
use Rattle.table_image.specs.declared.row.Row.{Row}
use Rattle.std.specs.Option.{option_and_then}
use Rattle.audit.specs.Places.{on}
use Rattle.audit.specs.Routing.{owner}
use Rattle.audit.specs.declared.straight.NextFound.{NextFound}
use Rattle.audit.specs.Rules.{is_for, bad_direct, max_distance, next_router, port_on}

-- row k of the router has a distance one less than the row's
abbrev pub is_one_nearer : ℕ → Row → Router → Bool
is_one_nearer k row router = on (slice_get router.rows k) (λ other. other.distance + 1 == row.distance)

-- the router was found for the rows with this port and this next address
abbrev pub IsFound : Internet → Router → NextFound → Type 0
IsFound i router it = it.router ≡ option_and_then (λ port. owner i port.cable it.address) (slice_get router.ports it.port)

-- the row's next router exists, and its row k has a distance one less
abbrev pub has_nearer_next : Internet → Router → ℕ → Row → Bool
has_nearer_next i router k row = on (next_router i router row) (λ s. on (slice_get i.routers s) (is_one_nearer k row))

-- The row is straight at index k: it is usable, is for cable k, its distance fits, it is direct where it should be, and
-- if it isn't direct, row k of its next router is one nearer.
abbrev pub is_straight : Internet → Router → ℕ → Row → Bool
is_straight i router k row =
    on (slice_get i.cables k) (is_for row) && is_usable row.state && not (nat_lt max_distance row.distance)
    && not (bad_direct row (port_on router k))
    && (is_direct row || has_nearer_next i router k row)

-- the router has as many rows as there are cables, and each of them is straight
abbrev pub IsStraight : Internet → Router → Type 0
IsStraight i router =
    (length router.rows ≡ length i.cables)
    × ((k : ℕ) (row : Row) → slice_get router.rows k ≡ Some row → is_straight i router k row ≡ true)

-- the rows of all routers are straight
abbrev pub AreStraight : Internet → Type 0
AreStraight i = (r : ℕ) (router : Router) → slice_get i.routers r ≡ Some router → IsStraight i router
