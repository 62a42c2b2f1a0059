-- The seats that have both addresses of a mapping are the ports and the nodes that have them.
use Rattle.std.proofs.Common.{◌≡◌, ℕ, suc, ◌||◌, true, List, [], ◌∷◌, Option, Some, None, map, length, slice_get, refl, ap, ◌∙◌}
use Rattle.std.specs.List.{list_any}
use Rattle.std.proofs.lemmas.List.Folds.{list_any-append}
use Rattle.std.proofs.lemmas.Bool.{or_left, or_right}
use Rattle.table_image.specs.Internet.{Internet}
use Rattle.table_image.specs.Seats.{port_seat, router_seats, node_seats, seats}
use Rattle.table_image.specs.declared.mapping.Mapping.{Mapping}
use Rattle.table_image.specs.declared.port.Port.{Port}
use Rattle.table_image.specs.declared.router.Router.{Router}
use Rattle.table_image.specs.declared.node.Node.{Node}
use Rattle.audit.specs.Mapped.{is_port, is_node}
use Rattle.audit.specs.Places.{on}
use Rattle.audit.specs.Rules.{is_mapped}
use Rattle.audit.proofs.Finding.{any_from}

module _ (cable : ℕ) (m : Mapping) where
  in_ports : (r : ℕ) (ports : List Port) → list_any (is_mapped cable m) (map (port_seat r) ports) ≡ list_any (is_port cable m) ports
  in_ports r [] = refl
  in_ports r (port ∷ ports) = ap (λ b. is_port cable m port || b) (in_ports r ports)

  in_routers : (r : ℕ) (routers : List Router) → list_any (is_mapped cable m) (router_seats r routers)
      ≡ list_any (λ router. list_any (is_port cable m) router.ports) routers
  in_routers r [] = refl
  in_routers r (router ∷ routers) =
      list_any-append (is_mapped cable m) (map (port_seat r) router.ports) (router_seats (suc r) routers)
      ∙ (ap (λ b. b || list_any (is_mapped cable m) (router_seats (suc r) routers)) (in_ports r router.ports)
      ∙ ap (λ b. list_any (is_port cable m) router.ports || b) (in_routers (suc r) routers))

  in_nodes : (s : ℕ) (nodes : List Node) → list_any (is_mapped cable m) (node_seats s nodes) ≡ list_any (is_node cable m) nodes
  in_nodes s [] = refl
  in_nodes s (node ∷ nodes) = ap (λ b. is_node cable m node || b) (in_nodes (suc s) nodes)

  -- a seat has both addresses if a port or a node has them
  pub in_seats : (i : Internet) → list_any (is_mapped cable m) (seats i)
      ≡ (list_any (λ router. list_any (is_port cable m) router.ports) i.routers || list_any (is_node cable m) i.nodes)
  in_seats i =
      list_any-append (is_mapped cable m) (router_seats 0 i.routers) (node_seats (length i.routers) i.nodes)
      ∙ (ap (λ b. b || list_any (is_mapped cable m) (node_seats (length i.routers) i.nodes)) (in_routers 0 i.routers)
      ∙ ap (λ b. list_any (λ (router : Router). list_any (is_port cable m) router.ports) i.routers || b)
      (in_nodes (length i.routers) i.nodes))

  -- a port that has both addresses
  pub by_port : (i : Internet) (r p : ℕ) (router : Router) → slice_get i.routers r ≡ Some router
      → on (slice_get router.ports p) (is_port cable m) ≡ true → list_any (is_mapped cable m) (seats i) ≡ true
  by_port i r p router at has = of_one (slice_get router.ports p) refl has
    where
      of_one : (o : Option Port) → slice_get router.ports p ≡ o → on o (is_port cable m) ≡ true
          → list_any (is_mapped cable m) (seats i) ≡ true
      of_one None there has = cc
      of_one (Some port) there has =
          in_seats i
          ∙ or_left _ _ (any_from (λ router. list_any (is_port cable m) router.ports) i.routers r router at
          (any_from (is_port cable m) router.ports p port there has))

  -- a node that has both addresses
  pub by_node : (i : Internet) (k : ℕ) (node : Node) → slice_get i.nodes k ≡ Some node → is_node cable m node ≡ true
      → list_any (is_mapped cable m) (seats i) ≡ true
  by_node i k node at has = in_seats i ∙ or_right _ _ (any_from (is_node cable m) i.nodes k node at has)
