-- Tables files: what each router and node of an internet holds.
use Rattle.std.specs.Prelude.{ℕ, Bool, ◌&&◌, cond, List, [], ◌∷◌, Option, Some, None, Result, Ok, Err, codes, length, option_map}
use Rattle.toml.specs.Data.{Members}
use Rattle.at_base.specs.Limits.{max_cables, max_nodes, max_routers}
use Rattle.at_base.specs.declared.error.Error.{Error}
use Rattle.at_base.specs.declared.error.Error.TheVariants.{BadFile}
use Rattle.at_base.specs.declared.error.Part.TheVariants as part
use Rattle.file_entries.specs.Documents.{IsRead, IsRefused}
use Rattle.file_entries.specs.Entries.{after, at_or, entries_at, has_only, is_listed, part_up_to}
use Rattle.file_entries.specs.Values.{number}
use Rattle.table_image.specs.Internet.{Internet, internet}
use Rattle.table_image.specs.Versions.{version_of}
use Rattle.table_image.specs.declared.cable.Cable.{Cable}
use Rattle.table_image.specs.declared.node.Node.{Node}
use Rattle.table_image.specs.declared.router.Router.{Router}
use Rattle.table_image.specs.declared.version.Version.{Version}
use Rattle.tables_file.specs.Cables.{cable_of}
use Rattle.tables_file.specs.Marks.{mark_of}
use Rattle.tables_file.specs.Nodes.{node_of}
use Rattle.tables_file.specs.Routers.{router_of}

-- The keys at the top level of a file.
abbrev pub top_keys : List (List ℕ)
top_keys = codes "version" ∷ codes "cable" ∷ codes "router" ∷ codes "node" ∷ []

-- The tables of a file are lists.
abbrev pub are_listed : Members → Bool
are_listed ms = is_listed (codes "cable") ms && is_listed (codes "router") ms && is_listed (codes "node") ms

-- The top level has only the keys of a file, and its tables are lists.
abbrev pub is_top : Members → Bool
is_top ms = has_only top_keys ms && are_listed ms

-- The version, or the error of an invalid top level where there is none.
abbrev pub version_or : Option Version → Result Version Error
version_or (Some v) = Ok v
version_or None = Err (BadFile part.Top 0)

-- The version with a number, or the error of an invalid top level where there is no number.
abbrev pub version_by : Option ℕ → Result Version Error
version_by n = version_or (option_map version_of n)

-- The version of the image, 1 where the file doesn't say it, if the top level is valid.
unfoldable pub version_in : Members → Result Version Error
version_in ms = version_by (cond (is_top ms) (at_or 1 (codes "version") (number 1 2) ms) None)

-- The cables of a file, or the error of the first invalid one.
unfoldable pub cables_in : Version → Members → Result (List Cable) Error
cables_in v ms = part_up_to max_cables part.Cable (λ k. cable_of v) (entries_at (codes "cable") ms)

-- The routers of a file with these cables and this mark, or the error of the first invalid one.
unfoldable pub routers_in : Version → List Cable → ℕ → Members → Result (List Router) Error
routers_in v cables mark ms = part_up_to max_routers part.Router (router_of v cables mark) (entries_at (codes "router") ms)

-- The nodes of a file with so many cables and this mark, or the error of the first invalid one.
unfoldable pub nodes_in : Version → ℕ → ℕ → Members → Result (List Node) Error
nodes_in v cables mark ms = part_up_to max_nodes part.Node (node_of v cables mark) (entries_at (codes "node") ms)

-- The tables in a document, or the error of its first fault.
abbrev pub tables_in : Members → Result Internet Error
tables_in ms =
    after (version_in ms) (λ v. after (cables_in v ms) (λ cables. after (routers_in v cables (mark_of ms) ms) (λ routers.
    after (nodes_in v (length cables) (mark_of ms) ms) (λ nodes. Ok (internet v cables routers nodes)))))

-- The text is a file with these tables.
abbrev pub AreTables : List ℕ → Internet → Type 0
AreTables text i = IsRead tables_in text i

-- The error is that of a text that isn't TOML, or that of the document's first fault, or Memory.
abbrev pub AreRefused : List ℕ → Error → Type 0
AreRefused text e = IsRefused tables_in text e
