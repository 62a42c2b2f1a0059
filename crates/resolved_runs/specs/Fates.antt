-- What becomes of a datagram that a router has to pass on, whichever way its legs go out. Inside AppleTalk, the chapter on
-- DDP.
use Rattle.std.specs.Prelude.{◌||◌, ◌==◌, cond, ℕ, List, [], ◌∷◌}
use Rattle.ddp.specs.Bodies.{body, hops, target}
use Rattle.table_image.specs.Internet.{Internet}
use Rattle.audit.specs.Routing.{Hand, Here, On, Nowhere, hand}
use Rattle.station.specs.declared.output.DropCause.TheVariants.{NoRoute, HopLimit}
use Rattle.station.specs.declared.output.Next.TheVariants as next
use Rattle.cable_model.specs.declared.entry.How.TheVariants as how
use Rattle.cable_model.specs.Pending.{Pair}
use Rattle.cable_model.specs.Transcript.{Entry, Reached, Dropped}
use Rattle.legal_runs.specs.Legs.{Leg, final, is_copy, passed}
use Rattle.legal_runs.specs.Stations.{has_address}

-- The entries of router r's decision on a datagram, where these are the entries of a leg.
abbrev pub fate_with_by : Internet → (Leg → List Entry) → ℕ → Pair → Hand → List Entry
fate_with_by i leg r p Nowhere = Dropped r NoRoute (body p.frame.bytes) ∷ []
fate_with_by i leg r p (Here c) =
    cond ((target p.frame.bytes).node == 0 || has_address i r c (target p.frame.bytes)) (Reached c r how.Own (body p.frame.bytes) ∷ [])
    (cond (hops p.frame.bytes == 15) (Dropped r HopLimit (body p.frame.bytes) ∷ [])
    (leg (passed r p c (final (target p.frame.bytes)))))
fate_with_by i leg r p (On s c a) =
    cond (hops p.frame.bytes == 15) (Dropped r HopLimit (body p.frame.bytes) ∷ []) (leg (passed r p c (next.Station a)))

-- The entries that follow for the datagram of a pair that was taken: none unless a router has to pass it on.
abbrev pub fate_with : Internet → (Leg → List Entry) → Pair → List Entry
fate_with i leg p = cond (is_copy i p) (fate_with_by i leg p.seat.station p (hand i p.seat.station (target p.frame.bytes).net)) []
