-- What is read of a whole file is valid in an image.
use Rattle.std.proofs.Common.{◌≡◌, ℕ, List, length, codes}
use Rattle.std.specs.Prelude.{Ok}
use Rattle.toml.specs.Data.{Members}
use Rattle.at_base.specs.Limits.{max_cables, max_nodes, max_routers}
use Rattle.at_base.specs.Spelling.{IsValue}
use Rattle.at_base.specs.declared.error.Part.TheVariants as part
use Rattle.file_entries.proofs.Given.{part_holds}
use Rattle.file_entries.specs.Entries.{entries_at}
use Rattle.image_parts.proofs.Values.{image_value}
use Rattle.table_image.specs.Internet.{internet}
use Rattle.table_image.specs.Spelling.{image_spelling, node_spelling, router_spelling}
use Rattle.table_image.specs.declared.cable.Cable.{Cable}
use Rattle.table_image.specs.declared.node.Node.{Node}
use Rattle.table_image.specs.declared.router.Router.{Router}
use Rattle.table_image.specs.declared.version.Version.{Version}
use Rattle.tables_file.proofs.Lists.{FitsCable}
use Rattle.tables_file.proofs.Stations.{cable_fits, cables_are, node_is, router_is}
use Rattle.tables_file.specs.Cables.{cable_of}
use Rattle.tables_file.specs.Files.{cables_in, nodes_in, routers_in}
use Rattle.tables_file.specs.Nodes.{node_of}
use Rattle.tables_file.specs.Routers.{router_of}

pub tables_are : (v : Version) (mark : ℕ) (ms : Members) (cs : List Cable) (rs : List Router) (ns : List Node) → cables_in v ms ≡ Ok cs
    → routers_in v cs mark ms ≡ Ok rs → nodes_in v (length cs) mark ms ≡ Ok ns → IsValue image_spelling (internet v cs rs ns)
unfolding cables_in routers_in nodes_in
tables_are v mark ms cs rs ns cables routers nodes =
    let c = part_holds max_cables part.Cable (λ k. cable_of v) (FitsCable v) (λ k. cable_fits v) (entries_at (codes "cable") ms) cs cables in
    let r = part_holds max_routers part.Router (router_of v cs mark) (λ r. IsValue (router_spelling v (length cs)) r)
    (λ k d r e. router_is v cs mark k d r c.0 c.1 e) (entries_at (codes "router") ms) rs routers in
    let n = part_holds max_nodes part.Node (node_of v (length cs) mark) (λ n. IsValue (node_spelling v (length cs)) n)
    (node_is v (length cs) mark) (entries_at (codes "node") ms) ns nodes in
    image_value (internet v cs rs ns) c.1 r.1 n.1 (cables_are v cs c.0) r.0 n.0
