-- The hardware addresses of an internet's seats.
use Rattle.std.proofs.Common.{◌≡◌, ℕ, List, length, ap, ◌∙◌}
use Rattle.std.specs.List.{AllByRecursion as Each}
use Rattle.at_base.specs.declared.address.Hw.{Hw}
use Rattle.audit.proofs.SeatPlaces.{AtNode, AtPort, sits}
use Rattle.cable_model.proofs.Counting.{each_at}
use Rattle.resolved_runs.specs.Fitting.{SeatsFit}
use Rattle.table_image.specs.Internet.{Internet}
use Rattle.table_image.specs.declared.node.Node.{Node}
use Rattle.table_image.specs.declared.port.Port.{Port}
use Rattle.table_image.specs.declared.router.Router.{Router}

-- If that of each port and of each node has six bytes, that of each seat does.
pub all_fit : (i : Internet) → Each (λ (router : Router). Each (λ (port : Port). length port.hardware.0 ≡ 6) router.ports) i.routers
    → Each (λ (node : Node). length node.hardware.0 ≡ 6) i.nodes → SeatsFit i
all_fit i routers nodes k s at = elim (sits i k s at) as (λ _. length s.hardware.0 ≡ 6) [
  | AtPort w ↦
      ap (λ (h : Hw). length h.0) w.hardware
      ∙ each_at (λ (port : Port). length port.hardware.0 ≡ 6) w.router.ports w.p w.port w.at
      (each_at (λ (router : Router). Each (λ (port : Port). length port.hardware.0 ≡ 6) router.ports) i.routers w.r w.router w.known routers)
  | AtNode j far w ↦
      ap (λ (h : Hw). length h.0) w.hardware
      ∙ each_at (λ (node : Node). length node.hardware.0 ≡ 6) i.nodes j w.node w.known nodes
]
