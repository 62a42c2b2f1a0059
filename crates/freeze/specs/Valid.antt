-- Stations whose image is valid.
use Rattle.std.specs.Prelude.{◌≡◌, ℕ, ◌-◌, ◌≤◌, Bool, false, List, [], ◌∷◌, length, nat_lt}
use Rattle.std.specs.List.{AllByRecursion as Each, list_all}
use Rattle.aarp.specs.Mapping.{Mappings}
use Rattle.at_base.specs.Limits.{max_mappings}
use Rattle.at_base.specs.Spelling.{IsValue}
use Rattle.station.specs.declared.member.Member.{Member}
use Rattle.internet_file.specs.declared.node.Node.{Node}
use Rattle.internet_file.specs.declared.router.Router.{Router}
use Rattle.live_node.specs.Living.{LivingNode}
use Rattle.live_router.specs.Living.{Living}
use Rattle.planned_stations.specs.Planning.{ports_of}
use Rattle.table_image.specs.Spelling.{mappings_spelling, node_spelling, router_spelling}
use Rattle.table_image.specs.declared.node.Node.{Node as ImageNode}
use Rattle.table_image.specs.declared.port.Port.{Port as ImagePort}
use Rattle.table_image.specs.declared.router.Router.{Router as ImageRouter}
use Rattle.table_image.specs.declared.version.Version.{Version}
use Rattle.table_image.specs.declared.version.Version.TheVariants.{V1, V2}

-- Each port of the router is on one of `count` cables.
abbrev pub is_on : ℕ → Router → Bool
is_on count r = list_all (λ p. nat_lt (p.cable - 1) count) r.port

-- The node is on one of `count` cables.
abbrev pub is_node_on : ℕ → Node → Bool
is_node_on count n = nat_lt (n.cable - 1) count

-- Each of the first stations has as many ports as the planned router at its position.
abbrev pub HavePorts : List Router → List (Member Living LivingNode) → Type 0
HavePorts (r ∷ rs) (m ∷ ms) = (ports_of m ≡ length r.port) × HavePorts rs ms
HavePorts (r ∷ rs) [] = Unit {0}
HavePorts [] ms = Unit {0}

-- Each seat knows at most as many mappings as an image may have of it.
abbrev pub AreFew : List Mappings → Type 0
AreFew seats = Each (λ (m : Mappings). length m.known ≤ max_mappings) seats

-- In version 1 the answer is no.
abbrev pub IsNotInV1 : Version → Bool → Type 0
IsNotInV1 V1 answer = answer ≡ false
IsNotInV1 V2 answer = Unit {0}

-- Each port has valid mappings of an image of the version.
abbrev pub HaveMappings : Version → List ImagePort → Type 0
HaveMappings version ports = Each (λ (p : ImagePort). IsValue (mappings_spelling version) p.mappings) ports

-- Each is a valid router of an image of the version with `count` cables.
abbrev pub AreRouters : Version → ℕ → List ImageRouter → Type 0
AreRouters version count rs = Each (λ r. IsValue (router_spelling version count) r) rs

-- Each is a valid node of an image of the version with `count` cables.
abbrev pub AreNodes : Version → ℕ → List ImageNode → Type 0
AreNodes version count ns = Each (λ n. IsValue (node_spelling version count) n) ns
