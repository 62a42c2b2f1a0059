-- Internets whose tables stay: no routing data that their routers send each other changes a route.
use Rattle.std.specs.Prelude.{ℕ, suc, Bool, false, not, ◌&&◌, ◌||◌, List, ◌++◌, codes, Some, None}
use Rattle.at_base.specs.Texts.{place_text}
use Rattle.at_base.specs.declared.error.Place.{Place}
use Rattle.at_base.specs.declared.error.Place.TheVariants as place
use Rattle.audit.specs.Firsts.{FirstPlace}
use Rattle.audit.specs.Rules.{at_row}
use Rattle.rtmp.specs.States.{is_usable}
use Rattle.settled.specs.Offers.{has_nearer_offer}
use Rattle.settled.specs.declared.settling.Settling.{Settling}
use Rattle.settled.specs.declared.settling.Settling.TheVariants.{Yes, No}
use Rattle.table_image.specs.Internet.{Internet}
use Rattle.table_image.specs.Rows.{is_direct}
use Rattle.table_image.specs.declared.row.Row.{Row}
use Rattle.table_image.specs.declared.router.Router.{Router}

-- a row may change: it isn't usable, or it isn't direct and a router offers its range nearer
abbrev pub may_change : Internet → Router → Row → Bool
may_change i router row = not (is_usable row.state) || (not (is_direct row) && has_nearer_offer i router row)

-- the place of a row that may change
abbrev pub changes : Internet → Place → Bool
changes i (place.Row (suc r) (suc k)) = at_row i r k (may_change i)
changes i _ = false

-- the internet is settled: no row may change
abbrev pub IsSettled : Internet → Type 0
IsSettled i = FirstPlace (changes i) None

-- whether an internet is settled, or else the first row that may change
abbrev pub IsSettling : Internet → Settling → Type 0
IsSettling i Yes = IsSettled i
IsSettling i (No p) = FirstPlace (changes i) (Some p)

-- the line that says so
abbrev pub settling_line : Settling → List ℕ
settling_line Yes = codes "settled: yes"
settling_line (No p) = codes "settled: no " ++ place_text p
