-- The printed form of addresses, ranges and places.
use Rattle.std.specs.Prelude.{ℕ, List, ◌++◌, codes}
use Rattle.std.specs.Fmt.{decimal}
use Rattle.at_base.specs.Range.{Span}
use Rattle.at_base.specs.declared.address.Addr.{Addr}
use Rattle.at_base.specs.declared.error.Place.{Place}
use Rattle.at_base.specs.declared.error.Place.TheVariants.{Cable, Port, Node, Row, Missing, List as ZonesOf}

-- an address, as 10.7
abbrev pub address_text : Addr → List ℕ
address_text a = decimal a.net ++ codes "." ++ decimal a.node

-- a range of networks, as 10-19
abbrev pub range_text : Span → List ℕ
range_text s = decimal s.start ++ codes "-" ++ decimal s.end

-- the place where a rule is broken, as `router 1 row 3`
abbrev pub place_text : Place → List ℕ
place_text (Cable k) = codes "cable " ++ decimal k
place_text (Port r p) = codes "router " ++ decimal r ++ codes " port " ++ decimal p
place_text (Node k) = codes "node " ++ decimal k
place_text (Row r k) = codes "router " ++ decimal r ++ codes " row " ++ decimal k
place_text (Missing r k) = codes "router " ++ decimal r ++ codes " cable " ++ decimal k
place_text (ZonesOf r k) = codes "router " ++ decimal r ++ codes " list " ++ decimal k
