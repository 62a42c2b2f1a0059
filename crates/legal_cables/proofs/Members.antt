-- Stations of either kind over live cables.
use Rattle.std.proofs.Common.{ℕ, ◌+◌, ◌<◌, List, Contains, length, sym, ap, subst}
use Rattle.audit.specs.Rules.{Passes}
use Rattle.table_image.specs.Bounds.{IsBounded}
use Rattle.table_image.specs.Internet.{Internet}
use Rattle.cable_model.specs.Pending.{Pair, pending}
use Rattle.cable_model.specs.Transcript.{Entry}
use Rattle.end_node.specs.Answers.{Hears as NodeHears}
use Rattle.end_node.specs.Holding.{NodeHolding}
use Rattle.image_stations.specs.Holders.{HoldsStation}
use Rattle.legal_runs.specs.Stations.{cable_seats}
use Rattle.legal_stations.proofs.NodeSeats.{station_within}
use Rattle.legal_stations.proofs.Responding.{taken_at}
use Rattle.live_cables.specs.Living.{TakesStill, Wires, happened}
use Rattle.resolved_runs.specs.Fitting.{SeatsFit}
use Rattle.resolved_runs.specs.ResolvedRuns.{Continues, IsLegalResolved}
use Rattle.router.specs.Answers.{Hears as RouterHears}
use Rattle.router.specs.Holding.{Holding}
use Rattle.station.specs.Members.{EitherHears}
use Rattle.station.specs.declared.member.Member.{Member}
use Rattle.station.specs.declared.member.Member.TheVariants as member
use Rattle.legal_cables.specs.Keeping.{AreKept, Resolves, ResolvesTake}
use Rattle.legal_cables.proofs.Stations.{node_takes, router_takes}

-- A station that takes a frame makes a block of a transcript with resolution, and still holds the image's contents.
pub station_takes : (i : Internet) → Passes i → IsBounded i → SeatsFit i → (old new : Wires) (stamp station ports : ℕ)
    → IsLegalResolved i (happened old) → AreKept i old → (m g : Member Holding NodeHolding) → HoldsStation i station m
    → TakesStill stamp station ports (λ x added. EitherHears RouterHears NodeHears m x added g) old new
    → ResolvesTake i old new stamp station × HoldsStation i station g
station_takes i ok bounded fit old new stamp station ports legal kept (member.Router h) (member.Router g) holds w =
    router_takes i ok bounded fit old new stamp station ports legal kept h g holds w
station_takes i ok bounded fit old new stamp station ports legal kept (member.Node h) (member.Node g) holds w =
    let b = node_takes i ok bounded fit old new stamp station ports legal kept holds.0 holds.1 h g holds.2 w in
    (b.0, (holds.0, holds.1, b.1))
station_takes i ok bounded fit old new stamp station ports legal kept (member.Router h) (member.Node g) holds w = absurd w.1.took.heard
station_takes i ok bounded fit old new stamp station ports legal kept (member.Node h) (member.Router g) holds w = absurd w.1.took.heard

-- The transcript is legal with resolution then.
pub legal_then : (i : Internet) (old new : Wires) → IsLegalResolved i (happened old) → Resolves i old new → IsLegalResolved i (happened new)
legal_then i old new legal r = subst (IsLegalResolved i) (sym r.adds.added) (Continues (happened old) r.block legal r.legal)

-- A station for which a frame is pending is one of the internet's routers and nodes.
pub taker_within : (i : Internet) (t : List Entry) (p : Pair) → Contains (pending (cable_seats i) t) p
    → p.seat.station < length i.routers + length i.nodes
taker_within i t p there =
    let w = taken_at i t p there in
    subst (λ s. s < length i.routers + length i.nodes) (sym (ap (λ s. s.station) w.is)) (station_within i w.place w.seat w.at)
