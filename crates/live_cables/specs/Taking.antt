-- A station takes a frame on live cables.
use Rattle.std.specs.Prelude.{◌≡◌, ℕ, List, Option}
use Rattle.cable_model.specs.Logs.{Cabling}
use Rattle.cable_model.specs.Outgoing.{IsTaken}
use Rattle.live_cables.specs.Finding.{Knowing, places_of}
use Rattle.live_cables.specs.Holding.{Holds, IsTold}
use Rattle.live_cables.specs.Putting.{IsAnswer}
use Rattle.live_cables.specs.declared.answer.Answer.{Answer}
use Rattle.station.specs.Hearing.{Hearing}
use Rattle.station.specs.declared.output.Output.{Output}

-- A station took a frame, resolving addresses by what it knows, and its outputs were sent, or held; then the mapping of an
-- AARP response was learnt, and the datagrams that were held for its source were put.
pub record IsTakenIn (stamp station ports : ℕ) (Hears : Hearing → List Output → Type 0) (old new : Cabling × Knowing) : Type 0 where
  pub taken : Cabling
  pub after : Knowing
  pub took : IsTaken places_of Holds ports old.0 taken stamp station Hears old.1 after
  pub answer : Option Answer
  pub said : IsAnswer old.0 stamp station answer
  pub told : IsTold old.1.seats station answer (taken, after.maps) (new.0, new.1.maps)
  pub others : new.1 ≡ record after { maps = new.1.maps }
