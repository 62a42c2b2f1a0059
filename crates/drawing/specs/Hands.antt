-- What routers do with datagrams to a network, as a drawing shows it.
use Rattle.std.specs.Prelude.{ℕ, List, [], ◌++◌, Option, Some, None, codes}
use Rattle.at_base.specs.Texts.{address_text}
use Rattle.at_base.specs.declared.address.Addr.{Addr}
use Rattle.audit.specs.Routing.{Hand, Here, On, Nowhere, hand}
use Rattle.table_image.specs.Internet.{Internet}
use Rattle.table_image.specs.declared.router.Router.{Router}
use Rattle.drawing.specs.Labels.{number}
use Rattle.drawing.specs.declared.hands.Hand.{Hand as Found}
use Rattle.drawing.specs.declared.hands.Hand.TheVariants as found

-- The action that a value of the program's type stands for.
abbrev pub action : Found → Hand
action (found.Here cable) = Here cable
action (found.On router cable address) = On router cable address
action found.Nowhere = Nowhere

-- The further line of a router's label, if the router has no route.
abbrev pub route_line : Hand → List ℕ
route_line (Here cable) = []
route_line (On router cable a) = []
route_line Nowhere = codes "\\nno route"

-- The same, if a network is asked for.
abbrev pub router_route : Internet → Option ℕ → ℕ → List ℕ
router_route i None r = []
router_route i (Some net) r = route_line (hand i r net)

-- An arrow to a cable.
abbrev pub arrow_here : ℕ → ℕ → List ℕ
arrow_here r cable = codes "  r" ++ number r ++ codes " -> c" ++ number cable ++ codes " [dir=forward, color=blue];\n"

-- The label of an arrow to a router, with the address on which the router is reached.
abbrev pub arrow_label : Addr → List ℕ
arrow_label a = codes " [dir=forward, color=blue, fontcolor=blue, label=\"" ++ address_text a ++ codes "\"];\n"

-- An arrow to a router.
abbrev pub arrow_on : ℕ → ℕ → Addr → List ℕ
arrow_on r s a = codes "  r" ++ number r ++ codes " -> r" ++ number s ++ arrow_label a

-- The arrow from the router with index r, if it has a route.
abbrev pub arrow : ℕ → Hand → List ℕ
arrow r (Here cable) = arrow_here r cable
arrow r (On s cable a) = arrow_on r s a
arrow r Nowhere = []

-- The arrow from a router for a network.
abbrev pub arrow_line : Internet → ℕ → ℕ → Router → List ℕ
arrow_line i net r router = arrow r (hand i r net)
