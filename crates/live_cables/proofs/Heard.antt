-- The first entry of a take.
use Rattle.std.proofs.Common.{◌≡◌, ℕ, List, [], ◌∷◌, ◌++◌, Option, Some, None, inl, inr, ap, ◌∙◌, append_assoc}
use Rattle.aarp.specs.Mapping.{Mappings}
use Rattle.at_base.specs.declared.address.Hw.{Hw}
use Rattle.cable_model.specs.Holdings.{released_frame}
use Rattle.cable_model.specs.Logs.{Cabling, transcript}
use Rattle.cable_model.specs.Transcript.{Entry, Put, Took}
use Rattle.cable_model.specs.declared.seat.Seat.{Seat}
use Rattle.live_cables.specs.Finding.{seat_by}
use Rattle.live_cables.specs.Holding.{AreReleased, IsLearntBy, IsReleased, IsTold}
use Rattle.live_cables.specs.Living.{IsTakenBy, TakesIn, Wires, happened}
use Rattle.live_cables.specs.declared.answer.Answer.{Answer}
use Rattle.station.specs.Hearing.{Hearing}
use Rattle.station.specs.declared.output.Output.{Output}

-- Entries were added at the end of the transcript.
abbrev Grows : Cabling → Cabling → Type 0
Grows old new = (more : List Entry) × (transcript new ≡ transcript old ++ more)

grows_then : (a b c : Cabling) → Grows a b → Grows b c → Grows a c
grows_then a b c x y = (x.0 ++ y.0, y.1 ∙ (ap (λ l. l ++ y.0) x.1 ∙ append_assoc (transcript a) x.0 y.0))

released_grows : (to : Hw) (ss : List (Option ℕ)) (old new : Cabling) → AreReleased to ss old new → Grows old new
released_grows to [] old new h = ([], h.added)
released_grows to (s ∷ ss) old new (mid, first, rest) =
    grows_then old mid new (one s first) (released_grows to ss mid new rest)
  where
    one : (s : Option ℕ) → IsReleased to s old mid → Grows old mid
    one None g = ([], g.added)
    one (Some stamp) (inl (held, there, of_stamp, adds)) = (Put (released_frame held to) ∷ [], adds.added)
    one (Some stamp) (inr (shut, adds)) = ([], adds.added)

told_grows : (seats : List Seat) (station : ℕ) (o : Option Answer) (old new : Cabling × List Mappings)
    → IsTold seats station o old new → Grows old.0 new.0
told_grows seats station None old new h = ([], h.0.added)
told_grows seats station (Some answer) old new h = by (seat_by seats station answer.port) h
  where
    by : (o : Option ℕ) → IsLearntBy o answer old new → Grows old.0 new.0
    by None g = ([], g.0.added)
    by (Some i) g = released_grows answer.source_hw _ old.0 new.0 g.0

-- A frame that was taken is the first added entry.
pub heard_in : (stamp station ports : ℕ) (Hears : Hearing → List Output → Type 0) (old new : Wires)
    → TakesIn stamp station ports Hears old new → IsTakenBy old new stamp station Hears
heard_in stamp station ports Hears old new (room, mid, taken, loses, maps, stays) =
    let took = taken.took in
    let told = told_grows old.cabling.seats station taken.answer (taken.taken, taken.after.maps) (mid.0, mid.1.maps) taken.told in
    let until = told.1 ∙ (ap (λ l. l ++ told.0) took.entries.added
    ∙ append_assoc (happened old) (Took stamp station ∷ took.told) told.0) in
    record {
      heard = record {
        pair = took.pair;
        was_pending = took.was_pending;
        of_stamp = took.of_stamp;
        of_station = took.of_station;
        put_out = took.added;
        hears = took.heard;
      };
      rest = (took.told ++ told.0) ++ loses.added;
      first =
          loses.grown ∙ (ap (λ l. l ++ loses.added) until
          ∙ append_assoc (happened old) (Took stamp station ∷ (took.told ++ told.0)) loses.added);
    }
