-- What cables did, they added to their transcript.
use Rattle.std.proofs.Common.{List, None, Option, Some, [], inl, inr, ℕ, ◌++◌, ◌∙◌, ◌∷◌, ◌≡◌, ap}
use Rattle.std.proofs.lemmas.List.{append_assoc}
use Rattle.at_base.specs.declared.address.Hw.{Hw}
use Rattle.cable_model.specs.Logs.{Adds, Cabling, transcript}
use Rattle.cable_model.specs.Outcomes.{Places}
use Rattle.cable_model.specs.Transcript.{Entry}
use Rattle.cable_model.specs.declared.seat.Seat.{Seat}
use Rattle.live_cables.specs.Holding.{AreReleased, IsLearntBy, IsReleased, IsTold}
use Rattle.live_cables.specs.Living.{TakesStill, Wires}
use Rattle.live_cables.specs.declared.answer.Answer.{Answer}
use Rattle.run_cables.specs.Wired.{IsSentOn, IsTakenOn, happened}
use Rattle.run_cables.specs.declared.wiring.Wiring.{Wiring}
use Rattle.run_cables.specs.declared.wiring.Wiring.TheVariants.{Asking, Known}
use Rattle.aarp.specs.Mapping.{Mappings}
use Rattle.station.specs.Hearing.{Hearing}
use Rattle.station.specs.declared.output.Next.{Next}
use Rattle.station.specs.declared.output.Output.{Output}

-- Entries were added at the end.
abbrev Grown : Cabling → Cabling → Type 0
Grown a b = (m : List Entry) × (transcript b ≡ transcript a ++ m)

grown_by : (a b : Cabling) (m : List Entry) → Adds a b m → Grown a b
grown_by a b m adds = (m, adds.added)

grown_then : (a b c : Cabling) → Grown a b → Grown b c → Grown a c
grown_then a b c x y = (
  x.0 ++ y.0,
  y.1 ∙ ap (λ (t : List Entry). t ++ y.0) x.1 ∙ append_assoc (transcript a) x.0 y.0,
)

released_grown : (to : Hw) (stamp : Option ℕ) (a b : Cabling) → IsReleased to stamp a b → Grown a b
released_grown to None a b r = grown_by a b [] r
released_grown to (Some stamp) a b (inl r) = grown_by a b _ r.3
released_grown to (Some stamp) a b (inr r) = grown_by a b [] r.1

all_released_grown : (to : Hw) (stamps : List (Option ℕ)) (a b : Cabling) → AreReleased to stamps a b → Grown a b
all_released_grown to [] a b r = grown_by a b [] r
all_released_grown to (s ∷ ss) a b r =
    grown_then a r.0 b (released_grown to s a r.0 r.1) (all_released_grown to ss r.0 b r.2)

learnt_grown : (i : Option ℕ) (answer : Answer) (old new : Cabling × List Mappings) → IsLearntBy i answer old new → Grown old.0 new.0
learnt_grown None answer old new r = grown_by old.0 new.0 [] r.0
learnt_grown (Some i) answer old new r = all_released_grown answer.source_hw _ old.0 new.0 r.0

told_grown : (seats : List Seat) (station : ℕ) (answer : Option Answer) (old new : Cabling × List Mappings)
    → IsTold seats station answer old new → Grown old.0 new.0
told_grown seats station None old new r = grown_by old.0 new.0 [] r.0
told_grown seats station (Some answer) old new r = learnt_grown _ answer old new r

still_grown : (stamp station ports : ℕ) (Hears : Hearing → List Output → Type 0) (old new : Wires)
    → TakesStill stamp station ports Hears old new → Grown old.cabling new.cabling
still_grown stamp station ports Hears old new takes =
    let w = takes.1 in
    grown_then old.cabling w.taken new.cabling (grown_by old.cabling w.taken _ w.took.entries)
    (told_grown _ station w.answer _ _ w.told)

-- A take adds entries.
pub taken_grown : (places : Places) (stamp station ports : ℕ) (Hears : Hearing → List Output → Type 0) (old new : Wiring)
    → IsTakenOn places stamp station ports Hears old new → (m : List Entry) × (happened new ≡ happened old ++ m)
taken_grown places stamp station ports Hears (Known a) (Known b) taken = (_, taken.entries.added)
taken_grown places stamp station ports Hears (Asking a) (Asking b) taken = still_grown stamp station ports Hears a b taken
taken_grown places stamp station ports Hears (Known a) (Asking b) taken = absurd taken
taken_grown places stamp station ports Hears (Asking a) (Known b) taken = absurd taken

-- A sending adds entries.
pub sent_grown : (places : Places) (station cable : ℕ) (next : Next) (bytes : List ℕ) (old new : Wiring)
    → IsSentOn places station cable next bytes old new → (m : List Entry) × (happened new ≡ happened old ++ m)
sent_grown places station cable next bytes (Known a) (Known b) sent = (_, sent.added)
sent_grown places station cable next bytes (Asking a) (Asking b) sent = (_, sent.1.entries.added)
sent_grown places station cable next bytes (Known a) (Asking b) sent = absurd sent
sent_grown places station cable next bytes (Asking a) (Known b) sent = absurd sent
