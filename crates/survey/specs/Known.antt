-- What a survey knows of an internet, and what it still has to ask. (This project's own)
use Rattle.std.specs.Prelude.{ℕ, ◌+◌, ◌-◌, ◌==◌, Bool, false, List, [], ◌∷◌, ◌++◌, Option, Some, None, fold, is_some, length, nat_lt, option_map, slice_get}
use Rattle.std.specs.Prelude.{if◌then◌else◌}
use Rattle.std.specs.List.{list_any}
use Rattle.at_base.specs.Address.{same_address}
use Rattle.at_base.specs.Range.{Span, same_range}
use Rattle.at_base.specs.Text.{same_bytes}
use Rattle.at_base.specs.declared.address.Addr.{Addr}
use Rattle.rtmp.specs.declared.request.Horizon.TheVariants.{Split, Whole}
use Rattle.rtmp.specs.declared.tuple.Tuple.{Tuple}
use Rattle.survey.specs.declared.known.Ranged.{Ranged}
use Rattle.survey.specs.declared.known.Routered.{Routered}
use Rattle.survey.specs.declared.known.Zoned.{Zoned}
use Rattle.survey.specs.declared.question.Wanted.{Wanted}
use Rattle.survey.specs.declared.question.Wanted.TheVariants.{Echo, Routes, Zones, List as ListOf}
use Rattle.zip_zones.specs.declared.zone_function.ZoneFunction.TheVariants.{GetZoneList, GetLocalZones}

-- the greatest number of addresses of routers, of ranges and of zones that are known
abbrev pub max_known : ℕ
max_known = 1024

-- the items with one more, if there is room for it
abbrev pub pushed : {A : Type 0} → A → List A → List A
pushed x xs = if nat_lt (length xs) max_known then xs ++ x ∷ [] else xs

-- ---- Learning

-- the routers, with this address
abbrev pub with_router : Addr → List Routered → List Routered
with_router a rs =
    if list_any (λ r. same_address r.at a) rs then rs else pushed (record { at = a; asked = 0 }) rs

-- the ranges, with this one
abbrev pub with_range : Span → List Ranged → List Ranged
with_range g gs =
    if list_any (λ r. same_range r.range g) gs then gs else pushed (record { range = g; asked = 0 }) gs

-- the ranges, with that of a tuple of routing data
abbrev pub with_tuple : List Ranged → Tuple → List Ranged
with_tuple gs t = with_range t.range gs

-- the ranges, with those of some tuples of routing data
abbrev pub with_tuples : List Tuple → List Ranged → List Ranged
with_tuples ts gs = fold with_tuple gs ts

-- the zones, with this one
abbrev pub with_zone : List ℕ → List Zoned → List Zoned
with_zone name zs =
    if list_any (λ z. same_bytes z.name name) zs then zs else pushed (record { name = name; asked = false }) zs

-- the zones, with these
abbrev pub with_zones : List (List ℕ) → List Zoned → List Zoned
with_zones names zs = fold (λ known name. with_zone name known) zs names

-- ---- Asking

-- what a router is asked next, of which so many things were asked: its rows without and with split horizon, an echo, the
-- zones of the internet, those of its cable, and then the zones of each range that is known
abbrev pub wanted_of : List Ranged → ℕ → Option Wanted
wanted_of gs n =
    if n == 0 then Some (Routes Whole)
    else if n == 1 then Some (Routes Split)
    else if n == 2 then Some Echo
    else if n == 3 then Some (ListOf GetZoneList 1)
    else if n == 4 then Some (ListOf GetLocalZones 1)
    else option_map (λ g. Zones g.range.start) (slice_get gs (n - 5))

-- the first of these routers, which are numbered from k, that has to be asked something
abbrev pub router_next : List Ranged → ℕ → List Routered → Option (ℕ × Routered)
router_next gs k [] = None
router_next gs k (r ∷ rs) = if is_some (wanted_of gs r.asked) then Some (k, r) else router_next gs (k + 1) rs

-- the first of these ranges, which are numbered from k, whose routers have to be asked
abbrev pub range_next : ℕ → List Ranged → Option (ℕ × Ranged)
range_next k [] = None
range_next k (g ∷ gs) = if nat_lt g.asked 2 then Some (k, g) else range_next (k + 1) gs

-- the first of these zones, which are numbered from k, in which names have to be looked for
abbrev pub zone_next : ℕ → List Zoned → Option (ℕ × Zoned)
zone_next k [] = None
zone_next k (z ∷ zs) = if z.asked then zone_next (k + 1) zs else Some (k, z)

-- whom a range's routers are asked by: any of them by node 0, and then each of them by node 255
abbrev pub beyond : Ranged → Addr
beyond g = record { net = g.range.start; node = if g.asked == 0 then 0 else 255 }
