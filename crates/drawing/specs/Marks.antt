-- What is marked in a drawing: the place where the verdict's rule is broken, or, of tables that pass, the first row that
-- may change.
use Rattle.std.specs.Prelude.{ℕ, ◌+◌, Bool, false, ◌&&◌, ◌==◌, Option, Some, None}
use Rattle.std.specs.Prelude.{if◌then◌else◌}
use Rattle.at_base.specs.declared.error.Place.{Place}
use Rattle.at_base.specs.declared.error.Place.TheVariants as place
use Rattle.audit.specs.declared.verdict.Verdict.{Verdict}
use Rattle.audit.specs.declared.verdict.Verdict.TheVariants.{Yes, No}
use Rattle.drawing.specs.declared.marks.Mark.{Mark}
use Rattle.drawing.specs.declared.marks.Mark.TheVariants.{Broken, MayChange}
use Rattle.settled.specs.declared.settling.Settling.{Settling}
use Rattle.settled.specs.declared.settling.Settling.TheVariants as settling

-- The mark of an internet with this verdict, whose tables are settled or not: none where the verdict is yes and they are.
abbrev pub mark_of : Verdict → Settling → Option Mark
mark_of (No f) s = Some (Broken f)
mark_of (Yes summary) settling.Yes = None
mark_of (Yes summary) (settling.No p) = Some (MayChange p)

-- The place of a mark.
abbrev pub place_of : Mark → Place
place_of (Broken f) = f.place
place_of (MayChange p) = p

-- The mark, if its place passes the test.
abbrev pub mark_at : (Place → Bool) → Option Mark → Option Mark
mark_at test None = None
mark_at test (Some m) = if test (place_of m) then Some m else None

-- The place is the cable with index k.
abbrev pub is_cable : ℕ → Place → Bool
is_cable k (place.Cable j) = j == k + 1
is_cable k _ = false

-- The place is a row or a zone list of the router with index r, or a cable for which that router has none.
abbrev pub is_router : ℕ → Place → Bool
is_router r (place.Row s k) = s == r + 1
is_router r (place.Missing s k) = s == r + 1
is_router r (place.List s k) = s == r + 1
is_router r _ = false

-- The place is the port with index p of the router with index r.
abbrev pub is_port : ℕ → ℕ → Place → Bool
is_port r p (place.Port s q) = s == r + 1 && q == p + 1
is_port r p _ = false

-- The place is the node with index k.
abbrev pub is_node : ℕ → Place → Bool
is_node k (place.Node j) = j == k + 1
is_node k _ = false
