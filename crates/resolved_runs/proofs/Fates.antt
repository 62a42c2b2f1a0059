-- Where every hardware address is known, the fate of a datagram is as ever.
use Rattle.std.proofs.Common.{◌≡◌, ℕ, refl, ap, cond, []}
use Rattle.table_image.specs.Internet.{Internet}
use Rattle.ddp.specs.Bodies.{target}
use Rattle.audit.specs.Routing.{Hand, Here, On, Nowhere, hand}
use Rattle.cable_model.specs.Pending.{Pair}
use Rattle.legal_runs.specs.Legs.{fate, fate_by, is_copy, leg}
use Rattle.resolved_runs.specs.Fates.{fate_with, fate_with_by}

same_by : (i : Internet) (stamp r : ℕ) (p : Pair) (h : Hand) → fate_with_by i (leg i stamp) r p h ≡ fate_by i stamp r p h
same_by i stamp r p Nowhere = refl
same_by i stamp r p (Here c) = refl
same_by i stamp r p (On s c a) = refl

pub same_fate : (i : Internet) (stamp : ℕ) (p : Pair) → fate_with i (leg i stamp) p ≡ fate i stamp p
same_fate i stamp p =
    ap (λ es. cond (is_copy i p) es []) (same_by i stamp p.seat.station p (hand i p.seat.station (target p.frame.bytes).net))
