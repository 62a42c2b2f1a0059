-- The outputs of a station for the datagram of a pair that it took.
use Rattle.std.specs.Prelude.{◌≡◌, ℕ, true, List, [], ◌∷◌}
use Rattle.cable_model.specs.Outcomes.{cable_of}
use Rattle.cable_model.specs.Transcript.{Entry, Reached, Dropped}
use Rattle.cable_model.specs.declared.entry.How.TheVariants.{Own}
use Rattle.ddp.specs.Bodies.{body}
use Rattle.legal_runs.specs.Legs.{Leg, leg_bytes}
use Rattle.legal_runs.specs.Stations.{cable_seats, is_on}
use Rattle.station.specs.declared.output.DropCause.{DropCause}
use Rattle.station.specs.declared.output.Output.{Output}
use Rattle.station.specs.declared.output.Output.TheVariants as output
use Rattle.table_image.specs.Internet.{Internet}

-- The outputs of station s are those of a fate, which has these entries, whichever entries a leg has: there is none; the
-- datagram was kept or dropped; or it is passed on over the cable of the output's port.
pub data IsFate (i : Internet) (s : ℕ) (fate : (Leg → List Entry) → List Entry) : List Output → Type 0 where
  NoFate : ((leg : Leg → List Entry) → fate leg ≡ []) → IsFate i s fate []
  KeptHere : (q : ℕ) (bytes : List ℕ)
      → ((leg : Leg → List Entry) → fate leg ≡ Reached (cable_of (cable_seats i) s q) s Own (body bytes) ∷ [])
      → IsFate i s fate (output.Kept q bytes ∷ [])
  DroppedHere : (cause : DropCause) (bytes : List ℕ) → ((leg : Leg → List Entry) → fate leg ≡ Dropped s cause (body bytes) ∷ [])
      → IsFate i s fate (output.Dropped cause bytes ∷ [])
  PassedOn : (q : ℕ) (l : Leg) → l.station ≡ s → cable_of (cable_seats i) s q ≡ l.cable → is_on i s l.cable ≡ true
      → ((leg : Leg → List Entry) → fate leg ≡ leg l)
      → IsFate i s fate (output.Passed q l.next (leg_bytes l) ∷ [])
