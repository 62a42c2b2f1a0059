-- A router's replies about zones, and the effect of a reply on its zone table. (Inside AppleTalk, the chapter on ZIP;
-- that only the first 16 networks of a query get replies, that replies are extended, and the replies about a cable
-- without zones are this project's own)
use Rattle.std.specs.Prelude.{ℕ, ◌+◌, ◌-◌, Bool, true, false, not, ◌&&◌, ◌==◌, List, [], ◌∷◌, length, map, filter, fold, take}
use Rattle.std.specs.Prelude.{Option, Some, None, nat_le, option_map, if◌then◌else◌}
use Rattle.std.specs.Int.{from_be_bytes, to_be_bytes, w16}
use Rattle.std.specs.List.{flat_map}
use Rattle.at_base.specs.Range.{Span}
use Rattle.at_base.specs.Limits.{max_zones}
use Rattle.rtmp.specs.declared.row.Row.{Row}
use Rattle.rtmp.specs.Routes.{is_direct, row_for}
use Rattle.zip_zones.specs.declared.entry.Entry.{Entry}
use Rattle.zip_zones.specs.declared.packet.Packet.{Packet}
use Rattle.zip_zones.specs.declared.packet.Packet.TheVariants as p
use Rattle.zip_zones.specs.declared.page.Page.{Page}
use Rattle.zip_zones.specs.declared.zone_function.ZoneFunction.{ZoneFunction}
use Rattle.zip_zones.specs.declared.zone_function.ZoneFunction.TheVariants.{GetMyZone, GetZoneList, GetLocalZones}
use Rattle.zip_zones.specs.Pages.{name_bytes, page}
use Rattle.zip_zones.specs.Written.{extended_reply, net_info}
use Rattle.zip_zones.specs.Zones.{Known, all_zones, heard, is_complete, is_full_for, known_of, overlaps_another, set_list, with_known, with_zone}

-- ---- queries

-- the groups with a name added at the front of the first group, which is new if there is none
abbrev pub onto_first : List ℕ → List (List (List ℕ)) → List (List (List ℕ))
onto_first name [] = (name ∷ []) ∷ []
onto_first name (group ∷ groups) = (name ∷ group) ∷ groups

-- the names at the front whose entries, of three bytes and the name, fit into room bytes
abbrev pub first_group : ℕ → List (List ℕ) → List (List ℕ)
first_group room [] = []
first_group room (name ∷ names) = if nat_le (3 + length name) room then name ∷ first_group (room - (3 + length name)) names else []

-- the names in groups, where the first group is begun already and has room for this many bytes
abbrev pub going_on : ℕ → List (List ℕ) → List (List (List ℕ))
going_on room [] = []
going_on room (name ∷ names) =
    if nat_le (3 + length name) room then onto_first name (going_on (room - (3 + length name)) names)
    else [] ∷ onto_first name (going_on (584 - (3 + length name)) names)

-- the names in groups, in order: each group has its first name, and as many more as fit into 584 bytes with it
abbrev pub grouped : List (List ℕ) → List (List (List ℕ))
grouped [] = []
grouped (name ∷ names) = onto_first name (going_on (584 - (3 + length name)) names)

-- the replies with a list's names for a network, as many names in each as fit into its 586 bytes
abbrev pub replies_with : ℕ → Known → List Packet
replies_with net k = map (extended_reply net k.total) (grouped k.names)

-- the replies for a network: none if its list isn't complete or is empty
abbrev pub replies_for : List Known → ℕ → List Packet
replies_for table net = by_list (known_of net table)
  where
    by_list : Option Known → List Packet
    by_list None = []
    by_list (Some k) = if is_complete k then replies_with net k else []

-- the replies to a query for these networks, of which only the first 16 count
abbrev pub replies : List Known → List ℕ → List Packet
replies table nets = flat_map (replies_for table) (take 16 nets)

-- ---- replies to GetNetInfo

-- the requested zone, if the packet is a GetNetInfo request
abbrev pub zone_asked : Packet → Option (List ℕ)
zone_asked (p.GetNetInfo unused asked) = Some asked
zone_asked _ = None

-- the reply to a GetNetInfo request on a cable with these zones: none if the cable has no zone
abbrev pub net_info_reply : List ℕ → Span → List (List ℕ) → Option Packet
net_info_reply asked range [] = None
net_info_reply asked range (name ∷ names) = Some (p.NetInfoReply (net_info asked range (name ∷ names)))

-- ---- zone lists

-- the number of a request for a zone list
abbrev pub number : ZoneFunction → ℕ
number GetMyZone = 7
number GetZoneList = 8
number GetLocalZones = 9

-- the request with a number, if any
abbrev pub function_of : ℕ → Option ZoneFunction
function_of n =
    if n == 7 then Some GetMyZone else if n == 8 then Some GetZoneList else if n == 9 then Some GetLocalZones else None

-- the page with the default zone of a cable with these zones, marked as not the last; without zones it is empty and the
-- last
abbrev pub my_zone : List (List ℕ) → Page
my_zone [] = record { last = true; count = 0; bytes = [] }
my_zone (name ∷ names) = record { last = false; count = 1; bytes = name_bytes name }

-- the zones that a request is about: all zones, or those of the node's cable
abbrev pub asked_zones : ZoneFunction → List (List ℕ) → List Known → List (List ℕ)
asked_zones GetMyZone local table = local
asked_zones GetZoneList local table = all_zones table
asked_zones GetLocalZones local table = local

-- the page, from an index on, that answers a node whose cable has these zones
abbrev pub zone_page : ZoneFunction → ℕ → List (List ℕ) → List Known → Page
zone_page GetMyZone start local table = my_zone local
zone_page GetZoneList start local table = page start (all_zones table)
zone_page GetLocalZones start local table = page start local

-- the user bytes of a response: 1 for the last page, else 0; then 0; then the number of names in two bytes
abbrev pub page_user : Page → List ℕ
page_user shown = (if shown.last then 1 else 0) ∷ 0 ∷ to_be_bytes w16 shown.count

-- the request in a request's user bytes: the function, a byte that is ignored, and an index in two bytes
abbrev pub asked_page : List ℕ → Option (ZoneFunction × ℕ)
asked_page (f ∷ ignored ∷ start) = option_map (λ function. (function, from_be_bytes w16 start)) (function_of f)
asked_page _ = None

-- ---- replies

-- the range that a reply for a network is about: that of the network's usable row, unless that row is direct
abbrev pub range_heard : List Row → ℕ → Option Span
range_heard rows net = by_row (row_for net rows)
  where
    by_row : Option Row → Option Span
    by_row None = None
    by_row (Some row) = if is_direct row then None else Some row.range

-- a list of a range with this many zones is accepted: no other range overlaps it, it has at most 255 zones, and the
-- table has room
abbrev pub is_taken : Span → ℕ → List Known → Bool
is_taken range zones table = not (overlaps_another range table) && nat_le zones max_zones && not (is_full_for range table)

-- the table after a name of a network was received, where the network has total zones
abbrev pub after_name : List Row → ℕ → List Known → Entry → List Known
after_name rows total table e = by_range (range_heard rows e.net)
  where
    by_range : Option Span → List Known
    by_range None = table
    by_range (Some range) = if is_taken range total table then heard range total e.name table else table

-- the list after the names in these entries were received, in order
abbrev pub with_names : List Entry → Known → Known
with_names entries k = fold (λ k e. with_zone e.name k) k entries

-- the table after the names in these entries were received, in order, as names of a range that has total zones
abbrev pub heard_all : Span → ℕ → List Entry → List Known → List Known
heard_all range total entries table = fold (λ t e. heard range total e.name t) table entries

-- the names in the entries of a network
abbrev pub names_for : ℕ → List Entry → List (List ℕ)
names_for net entries = map (λ e. e.name) (filter (λ e. e.net == net) entries)

-- the networks of entries, each once, in order of first appearance
abbrev pub networks_named : List Entry → List ℕ
networks_named [] = []
networks_named (e ∷ entries) = e.net ∷ filter (λ net. not (net == e.net)) (networks_named entries)

-- the table after the complete list of a network was received, with the names in the network's entries
abbrev pub after_list : List Row → List Entry → List Known → ℕ → List Known
after_list rows entries table net = by_range (range_heard rows net)
  where
    by_range : Option Span → List Known
    by_range None = table
    by_range (Some range) =
        if is_taken range (length (names_for net entries)) table then with_known (set_list range (names_for net entries)) table
        else table

-- the table after a packet was received: only replies change it
abbrev pub after_reply : List Row → Packet → List Known → List Known
after_reply rows (p.Reply count entries) table = fold (after_list rows entries) table (networks_named entries)
after_reply rows (p.ExtendedReply total entries) table = fold (after_name rows total) table entries
after_reply rows _ table = table
