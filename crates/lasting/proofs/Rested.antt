-- Worlds whose stations and image have settled, as proofs go on from them.
use Rattle.std.proofs.Common.{◌≡◌, ℕ, [], Some, subst, slice_get}
use Rattle.audit.specs.Rules.{Passes}
use Rattle.cable_model.specs.Holdings.{still_held}
use Rattle.cable_model.specs.Logs.{pending_on}
use Rattle.cable_model.specs.Transcript.{Holding}
use Rattle.lasting.proofs.Idling.{AreSparedFrom}
use Rattle.lasting.specs.Plain.{IsPlain}
use Rattle.lasting.specs.Resting.{IsAtRest, IsStill}
use Rattle.lasting.specs.Settled.{IsNoNextRouter}
use Rattle.lasting.specs.Standing.{AreStanding}
use Rattle.live_cables.proofs.Pending.{Has}
use Rattle.live_cables.specs.Living.{happened}
use Rattle.planned_stations.specs.Seating.{plan_seats}
use Rattle.settled.specs.Settling.{IsSettled}
use Rattle.table_image.specs.Bounds.{IsBounded}
use Rattle.table_image.specs.declared.version.Version.TheVariants.{V1}
use Rattle.world.specs.Frozen.{frozen_as}
use Rattle.world.specs.Worlds.{Worldly}

-- No frame is under way, what is held is plain, what is given up next is for no next router, the stations stand in this phase, and the image passes
-- and is settled.
pub record IsResting (phase : ℕ) (w : Worldly) : Type 0 where
  pub seats : w.wires.cabling.seats ≡ plan_seats w.plan
  pub pending : pending_on w.wires.cabling ≡ []
  pub plain : (d : Holding) → Has (still_held (happened w.wires)) d → IsPlain d.bytes
  pub spared : AreSparedFrom (IsNoNextRouter w.stations (plan_seats w.plan)) 0 w.wires.maps
  pub standing : AreStanding w.plan phase w.stations
  pub passes : Passes (frozen_as V1 w)
  pub settled : IsSettled (frozen_as V1 w)
  pub bounded : IsBounded (frozen_as V1 w)

-- where nothing is held, nothing is given up
pub idle_spared : (w : Worldly) → IsStill w → AreSparedFrom (IsNoNextRouter w.stations (plan_seats w.plan)) 0 w.wires.maps
idle_spared w still seat k h le e over = let f = subst (λ l. slice_get l k ≡ Some h) (still.idle seat) e in cc

pub at_rest : (phase : ℕ) (w : Worldly) → IsAtRest phase w → IsResting phase w
at_rest phase w rest = record {
  seats = rest.world.seats;
  pending = rest.still.pending;
  plain = λ d h. let e = subst (λ l. slice_get l h.0 ≡ Some d) rest.still.held h.1 in cc;
  spared = idle_spared w rest.still;
  standing = rest.standing;
  passes = rest.passes;
  settled = rest.settled;
  bounded = rest.bounded;
}
