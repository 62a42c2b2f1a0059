-- Stations of two kinds as one type.
use Rattle.std.specs.Prelude.{ℕ, List}
use Rattle.station.specs.declared.member.Member.{Member}
use Rattle.station.specs.declared.member.Member.TheVariants.{Router, Node}
use Rattle.station.specs.Hearing.{Hearing}
use Rattle.station.specs.declared.output.Output.{Output}

-- a number that both kinds of stations have, such as the number of ports
abbrev pub either : {R N : Type 0} → (R → ℕ) → (N → ℕ) → Member R N → ℕ
either of_router of_node (Router r) = of_router r
either of_router of_node (Node n) = of_node n

-- a station of either kind receives a frame as its kind does, and stays of its kind
abbrev pub EitherHears : {R N : Type 0} → (R → Hearing → List Output → R → Type 0) → (N → Hearing → List Output → N → Type 0)
    → Member R N → Hearing → List Output → Member R N → Type 0
EitherHears by_router by_node (Router old) x added (Router new) = by_router old x added new
EitherHears by_router by_node (Node old) x added (Node new) = by_node old x added new
EitherHears by_router by_node (Router old) x added (Node new) = ⊥
EitherHears by_router by_node (Node old) x added (Router new) = ⊥

-- a station of either kind passes a tick as its kind does, and stays of its kind
abbrev pub EitherTicks : {R N : Type 0} → (R → List Output → R → Type 0) → (N → List Output → N → Type 0)
    → Member R N → List Output → Member R N → Type 0
EitherTicks by_router by_node (Router old) added (Router new) = by_router old added new
EitherTicks by_router by_node (Node old) added (Node new) = by_node old added new
EitherTicks by_router by_node (Router old) added (Node new) = ⊥
EitherTicks by_router by_node (Node old) added (Router new) = ⊥
