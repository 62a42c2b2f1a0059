-- Zone lists of routers, and the zones of cables. (Inside AppleTalk, the chapter on ZIP; the tests are this project's
-- own)
use Rattle.std.specs.Prelude.{◌≡◌, ℕ, Bool, true, false, not, ◌&&◌, ◌||◌, ◌==◌, List, [], ◌∷◌, map, filter, find, Option, Some, slice_get}
use Rattle.std.specs.List.{list_any, list_all}
use Rattle.at_base.specs.Range.{Span}
use Rattle.at_base.specs.Text.{same_name}
use Rattle.audit.specs.Places.{on}
use Rattle.table_image.specs.Internet.{Internet}
use Rattle.image_zones.specs.ZoneMaps.{zone_map}
use Rattle.table_image.specs.declared.cable.Cable.{Cable}
use Rattle.table_image.specs.declared.zone_list.ZoneList.{ZoneList}
use Rattle.table_image.specs.declared.router.Router.{Router}
use Rattle.zip_zones.specs.Zones.{ranges_of}

-- ---- names in lists, ignoring case

-- a name is in the list twice, ignoring case
abbrev pub has_double : List (List ℕ) → Bool
has_double [] = false
has_double (name ∷ names) = list_any (same_name name) names || has_double names

-- each of these names is one of those, ignoring case
abbrev pub are_among : List (List ℕ) → List (List ℕ) → Bool
are_among names zones = list_all (λ name. list_any (same_name name) zones) names

-- ---- the test of a list

-- the list has the range of the cable
abbrev pub is_list_for : ZoneList → Cable → Bool
is_list_for l c = l.start == c.start && l.end == c.end

-- the list and the cable have the same zones, ignoring case
abbrev pub same_zones : ZoneList → Cable → Bool
same_zones l c = are_among l.zones c.zones && are_among c.zones l.zones

-- the cable that the list is for, if any
abbrev pub cable_of_list : Internet → ZoneList → Option Cable
cable_of_list i l = find (is_list_for l) i.cables

-- a list is bad if it isn't complete, has a zone twice, isn't for a cable, or hasn't the zones of its cable
abbrev pub bad_list : Internet → ZoneList → Bool
bad_list i l = not l.complete || has_double l.zones || not (on (cable_of_list i l) (same_zones l))

-- the router has no list for the cable
abbrev pub lacks_list : Router → Cable → Bool
lacks_list router c = not (list_any (λ l. is_list_for l c) router.lists)

-- ---- the meaning of the rule about zone lists

-- the ranges of the cables that have the zone, in order
abbrev pub ranges_with : List ℕ → List Cable → List Span
ranges_with zone cables = map (λ c. record { start = c.start; end = c.end }) (filter (λ c. list_any (same_name zone) c.zones) cables)

-- The list is that of the cable: complete, with its range, and with its zones in any order and case.
pub record IsListOf (l : ZoneList) (c : Cable) : Type 0 where
  pub complete : l.complete ≡ true
  pub start : l.start ≡ c.start
  pub end : l.end ≡ c.end
  pub zones : (zone : List ℕ) → list_any (same_name zone) l.zones ≡ list_any (same_name zone) c.zones

-- The router's zone table has a zone for exactly the ranges of the cables that have it, in rising order; and its list
-- with each number is that of the cable with this number.
pub record KnowsZones (i : Internet) (router : Router) : Type 0 where
  pub listing : (zone : List ℕ) → ranges_of zone (zone_map router.lists) ≡ ranges_with zone i.cables
  pub same : (k : ℕ) (l : ZoneList) → slice_get router.lists k ≡ Some l → (c : Cable) × (slice_get i.cables k ≡ Some c) × IsListOf l c

-- Each router knows the zones of each cable.
abbrev pub ZonesAgree : Internet → Type 0
ZonesAgree i = (r : ℕ) (router : Router) → slice_get i.routers r ≡ Some router → KnowsZones i router
