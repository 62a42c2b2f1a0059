-- The routers of a tables file: ports with mappings, rows, zone lists.
use Rattle.std.specs.Prelude.{ℕ, ◌+◌, true, cond, if◌then◌else◌, List, [], ◌∷◌, Option, Some, None, codes, length, nat_lt}
use Rattle.toml.specs.Data.{Data, Members, get_member}
use Rattle.at_base.specs.Address.{address_number}
use Rattle.at_base.specs.Limits.{max_lists, max_ports, max_rows}
use Rattle.file_entries.specs.Entries.{at, at_or, entry, few, few_at}
use Rattle.file_entries.specs.Values.{any_address, hardware, list, number}
use Rattle.rtmp.specs.declared.state.State.TheVariants.{Good}
use Rattle.table_image.specs.Limits.{max_distance}
use Rattle.table_image.specs.Spelling.{nowhere}
use Rattle.table_image.specs.Versions.{mapping_limit}
use Rattle.table_image.specs.declared.cable.Cable.{Cable}
use Rattle.table_image.specs.declared.mapping.Mapping.{Mapping}
use Rattle.table_image.specs.declared.port.Port.{Port}
use Rattle.table_image.specs.declared.router.Router.{Router}
use Rattle.table_image.specs.declared.row.Row.{Row}
use Rattle.table_image.specs.declared.version.Version.{Version}
use Rattle.table_image.specs.declared.zone_list.ZoneList.{ZoneList}
use Rattle.tables_file.specs.Cables.{zones}
use Rattle.tables_file.specs.Marks.{made_up}
use Rattle.tables_file.specs.Rising.{rise}
use Rattle.tables_file.specs.Values.{ends, flag, place, state}
use Rattle.text.specs.Words.{given}

-- A list whose items rise strictly.
abbrev pub rising : {X : Type 0} → (X → ℕ) → List X → Option (List X)
rising next xs = cond (rise next 0 xs) (Some xs) None

-- ---- Mappings and ports

-- The mapping in an entry.
abbrev pub mapping_of : Data → Option Mapping
mapping_of d =
    given (entry (codes "address" ∷ codes "hardware" ∷ []) d) (λ ms.
    given (at (codes "address") any_address ms) (λ a. given (at (codes "hardware") hardware ms) (λ h.
    Some (record { address = a; hardware = h }))))

-- The mappings of a port or a node, by rising addresses, at most as many as the version allows.
abbrev pub mappings : Version → Members → Option (List Mapping)
mappings v ms =
    given (few_at (mapping_limit v) (codes "mapping") (λ k. mapping_of) ms) (rising (λ m. address_number m.address + 1))

-- The port in an entry of a router, with the numbers of both.
abbrev pub port_of : Version → ℕ → ℕ → ℕ → ℕ → Data → Option Port
port_of v cables mark router k d =
    given (entry (codes "cable" ∷ codes "address" ∷ codes "hardware" ∷ codes "mapping" ∷ []) d) (λ ms.
    given (at (codes "cable") (place cables) ms) (λ cable. given (at (codes "address") any_address ms) (λ a.
    given (at_or (made_up mark 0 router k) (codes "hardware") hardware ms) (λ h. given (mappings v ms) (λ known.
    Some (record { cable = cable; address = a; hardware = h; mappings = known }))))))

-- ---- Rows

-- The row in an entry of a router with so many ports.
abbrev pub row_of : ℕ → Data → Option Row
row_of ports d =
    given (entry (codes "range" ∷ codes "distance" ∷ codes "port" ∷ codes "next" ∷ codes "state" ∷ []) d) (λ ms.
    given (at (codes "range") ends ms) (λ range. given (at (codes "distance") (number 0 max_distance) ms) (λ far.
    given (at (codes "port") (place ports) ms) (λ port. given (at_or nowhere (codes "next") any_address ms) (λ next.
    given (at_or Good (codes "state") state ms) (λ s.
    Some (record { start = range.0; end = range.1; distance = far; port = port; next = next; state = s })))))))

-- The rows of a router with so many ports, by rising first networks.
abbrev pub rows : ℕ → Members → Option (List Row)
rows ports ms = given (few_at max_rows (codes "row") (λ k. row_of ports) ms) (rising (λ r. r.start + 1))

-- ---- Zone lists

-- The zone list in an entry.
abbrev pub list_of : Version → Data → Option ZoneList
list_of v d =
    given (entry (codes "range" ∷ codes "complete" ∷ codes "zones" ∷ []) d) (λ ms.
    given (at (codes "range") ends ms) (λ range. given (at_or true (codes "complete") flag ms) (λ complete.
    given (at (codes "zones") (zones v) ms) (λ names.
    Some (record { start = range.0; end = range.1; complete = complete; zones = names })))))

-- The complete zone list of a cable.
abbrev pub list_for : Cable → ZoneList
list_for c = record { start = c.start; end = c.end; complete = true; zones = c.zones }

-- The zone lists of the cables whose first networks are at least `low` and above those before.
abbrev pub lists_from : ℕ → List Cable → List ZoneList
lists_from low [] = []
lists_from low (c ∷ cs) = if nat_lt c.start low then lists_from low cs else list_for c ∷ lists_from (c.start + 1) cs

-- The zone lists in a list, by rising first networks.
abbrev pub listed : Version → Data → Option (List ZoneList)
listed v d = given (list d) (λ ds. given (few max_lists (λ k. list_of v) ds) (rising (λ l. l.start + 1)))

-- The zone lists in a value, or those of the cables where there is no value.
abbrev pub listed_or : Version → List Cable → Option Data → Option (List ZoneList)
listed_or v cables None = Some (lists_from 0 cables)
listed_or v cables (Some d) = listed v d

-- The zone lists of a router, or those of the cables where it has no such key.
abbrev pub lists : Version → List Cable → Members → Option (List ZoneList)
lists v cables ms = listed_or v cables (get_member (codes "list") ms)

-- ---- Routers

-- The router in an entry, which has this number.
abbrev pub router_of : Version → List Cable → ℕ → ℕ → Data → Option Router
router_of v cables mark k d =
    given (entry (codes "port" ∷ codes "row" ∷ codes "list" ∷ []) d) (λ ms.
    given (few_at max_ports (codes "port") (port_of v (length cables) mark k) ms) (λ ports.
    given (rows (length ports) ms) (λ table. given (lists v cables ms) (λ known.
    Some (record { ports = ports; rows = table; lists = known })))))
