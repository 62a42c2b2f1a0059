-- The nodes of a tables file, and their names.
use Rattle.std.specs.Prelude.{ℕ, ◌+◌, List, [], ◌∷◌, Option, Some, None, codes, option_map}
use Rattle.toml.specs.Data.{Data, Members}
use Rattle.at_base.specs.Limits.{max_names}
use Rattle.at_base.specs.declared.address.Addr.{Addr}
use Rattle.at_base.specs.declared.address.Hw.{Hw}
use Rattle.file_entries.specs.Entries.{at, at_or, entry, few_at}
use Rattle.file_entries.specs.Values.{any_address, hardware, number}
use Rattle.table_image.specs.declared.node.Node.{Node}
use Rattle.table_image.specs.declared.node.NodeName.{NodeName}
use Rattle.table_image.specs.declared.version.Version.{Version}
use Rattle.tables_file.specs.Marks.{made_up}
use Rattle.tables_file.specs.Routers.{mappings, rising}
use Rattle.tables_file.specs.Values.{object, place, zone}
use Rattle.tables_file.specs.declared.node.Seat.{Seat}
use Rattle.text.specs.Words.{given}

-- The name in an entry of a node.
abbrev pub name_of : Data → Option NodeName
name_of d =
    given (entry (codes "object" ∷ codes "type" ∷ codes "socket" ∷ codes "enumerator" ∷ []) d) (λ ms.
    given (at (codes "object") object ms) (λ o. given (at (codes "type") object ms) (λ kind.
    given (at (codes "socket") (number 1 254) ms) (λ socket. given (at (codes "enumerator") (number 1 255) ms) (λ n.
    Some (record { socket = socket; enumerator = n; object = o; kind = kind }))))))

-- The names of a node, by rising enumerators.
abbrev pub names : Members → Option (List NodeName)
names ms = given (few_at max_names (codes "name") (λ k. name_of) ms) (rising (λ n. n.enumerator + 1))

-- The address of a node's router.
abbrev pub own_router : Data → Option (Option Addr)
own_router d = option_map Some (any_address d)

-- Where a node is, on one of so many cables, with this hardware address if it has no other.
abbrev pub placed : ℕ → Hw → Members → Option Seat
placed cables other ms =
    given (at (codes "cable") (place cables) ms) (λ cable. given (at (codes "address") any_address ms) (λ a.
    given (at_or other (codes "hardware") hardware ms) (λ h. given (at_or None (codes "router") own_router ms) (λ router.
    Some (record { cable = cable; address = a; hardware = h; router = router })))))

-- The keys of a node.
abbrev pub node_keys : List (List ℕ)
node_keys =
    codes "cable" ∷ codes "address" ∷ codes "hardware" ∷ codes "zone" ∷ codes "router" ∷ codes "name" ∷ codes "mapping" ∷ []

-- The node in an entry, which has this number.
abbrev pub node_of : Version → ℕ → ℕ → ℕ → Data → Option Node
node_of v cables mark k d =
    given (entry node_keys d) (λ ms. given (placed cables (made_up mark 1 k 0) ms) (λ p.
    given (at (codes "zone") zone ms) (λ z. given (names ms) (λ named. given (mappings v ms) (λ known.
    Some (record {
      cable = p.cable;
      address = p.address;
      hardware = p.hardware;
      zone = z;
      router = p.router;
      names = named;
      mappings = known;
    }))))))
