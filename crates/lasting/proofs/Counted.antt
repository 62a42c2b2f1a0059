-- A tick keeps frames numbered.
use Rattle.std.proofs.Common.{◌≡◌, ℕ, zero, suc, ◌+◌, List, [], ◌∷◌, ◌++◌, Option, Some, None, Result, Ok, Err, ap, slice_get}
use Rattle.at_base.specs.ErrorNumber.{number_of}
use Rattle.at_base.specs.declared.error.Error.{Error}
use Rattle.internet_file.specs.Files.{Planned}
use Rattle.internet_file.specs.declared.action.Action.{Action}
use Rattle.internet_file.specs.declared.action.Do.{Do}
use Rattle.lasting.proofs.Numbered.{IsCounting, counts_same, counts_then, gives_counts, passes_counts, takes_counts}
use Rattle.live_cables.specs.Living.{GivesOut, Wires}
use Rattle.live_node.specs.Living.{LivingNode}
use Rattle.live_router.specs.Living.{Living}
use Rattle.planned_stations.specs.Planning.{ports_of}
use Rattle.station.specs.declared.member.Member.{Member}
use Rattle.station.specs.declared.output.Output.{Output}
use Rattle.world.specs.Acting.{AreDone}
use Rattle.world.specs.Doing.{IsDone, IsDoneBy, acted_by, number_from, settled_own, station_for}
use Rattle.world.specs.Passing.{AreAged, HasPassed, HavePassed}
use Rattle.world.specs.Taking.{AreTaken}
use Rattle.world.specs.Ticking.{IsTick}
use Rattle.world.specs.Worlds.{Worldly}

-- Between these cables entries were added that keep frames numbered.
abbrev pub AreCounting : Wires → Wires → Type 0
AreCounting old new = IsCounting old.cabling new.cabling

unchanged : (old new : Wires) → new ≡ old → AreCounting old new
unchanged old new same = counts_same old.cabling new.cabling (ap (λ (w : Wires). w.cabling) same)

then : (a b c : Wires) → AreCounting a b → AreCounting b c → AreCounting a c
then a b c x y = counts_then a.cabling b.cabling c.cabling x y

-- ---- Stations pass a tick

aged_counts : (seat ports : ℕ) (m now : Member Living LivingNode) (old new : Wires) → AreAged seat ports m now old new → AreCounting old new
aged_counts seat zero m now old new h = unchanged old new h.1
aged_counts seat (suc ports) m now old new (before, mid, first, last) =
    then old mid new (aged_counts seat ports m before old mid first) (passes_counts (seat + ports) mid new last.passes)

passed_counts : (number seat : ℕ) (m now : Member Living LivingNode) (old new : Wires) → HasPassed number seat m now old new → AreCounting old new
passed_counts number seat m now old new (ticked, mid, tick, ages) =
    let before : Wires = record old { own = settled_own ticked seat (ports_of ticked) old.own } in
    counts_then old.cabling mid.cabling new.cabling (gives_counts number tick.outputs before mid tick.gives)
    (aged_counts seat (ports_of ticked) ticked now mid new ages)

all_passed : (number seat : ℕ) (stations now : List (Member Living LivingNode)) (old new : Wires) → HavePassed number seat stations now old new
    → AreCounting old new
all_passed zero seat stations now old new h = unchanged old new h.2
all_passed (suc number) next stations now old new (seat, before, mid, passes, m, after, em, passed, set, at) =
    then old mid new (all_passed number seat stations before old mid passes) (passed_counts number seat m after mid new passed)

-- ---- Actions

done_by : (m : Member Living LivingNode) (station : ℕ) (action : Do) (index : ℕ) (old new : Wires × List (ℕ × ℕ))
    → IsDoneBy m station action index old new → AreCounting old.0 new.0
done_by m station action index old new h = by (acted_by m action) h
  where
    by : (r : Result (List Output) Error)
        → (elim r as (λ r. Type 0) [
          | Ok os ↦ GivesOut station os old.0 new.0 × (new.1 ≡ old.1)
          | Err e ↦ (new.0 ≡ old.0) × (new.1 ≡ old.1 ++ (number_from index, number_of e) ∷ [])
        ])
        → AreCounting old.0 new.0
    by (Err e) g = unchanged old.0 new.0 g.0
    by (Ok os) g = gives_counts station os old.0 new.0 g.0

one_done : (plan : Planned) (stations : List (Member Living LivingNode)) (index : ℕ) (old new : Wires × List (ℕ × ℕ))
    → IsDone plan stations index old new → AreCounting old.0 new.0
one_done plan stations index old new h = of (slice_get plan.actions index) h
  where
    at_station : (action : Action) (o : Option (Member Living LivingNode))
        → (elim o as (λ o. Type 0) [
          | None ↦ (new.0 ≡ old.0) × (new.1 ≡ old.1)
          | Some m ↦ IsDoneBy m (station_for plan action) action.action index old new
        ]) → AreCounting old.0 new.0
    at_station action None g = unchanged old.0 new.0 g.0
    at_station action (Some m) g = done_by m (station_for plan action) action.action index old new g

    of : (o : Option Action)
        → (elim o as (λ o. Type 0) [
          | None ↦ (new.0 ≡ old.0) × (new.1 ≡ old.1)
          | Some action ↦ (elim (slice_get stations (station_for plan action)) as (λ o. Type 0) [
            | None ↦ (new.0 ≡ old.0) × (new.1 ≡ old.1)
            | Some m ↦ IsDoneBy m (station_for plan action) action.action index old new
          ])
        ]) → AreCounting old.0 new.0
    of None g = unchanged old.0 new.0 g.0
    of (Some action) g = at_station action (slice_get stations (station_for plan action)) g

all_done : (plan : Planned) (stations : List (Member Living LivingNode)) (tick n : ℕ) (schedule left : List ℕ) (old new : Wires × List (ℕ × ℕ))
    → AreDone plan stations tick n schedule left old new → AreCounting old.0 new.0
all_done plan stations tick zero schedule left old new h = unchanged old.0 new.0 (ap (λ (x : Wires × List (ℕ × ℕ)). x.0) h.1)
all_done plan stations tick (suc n) schedule left old new (rest, index, mid, split, due, does, more) =
    then old.0 mid.0 new.0 (one_done plan stations index old mid does) (all_done plan stations tick n rest left mid new more)

-- ---- Takings

all_taken : (n : ℕ) (stations now : List (Member Living LivingNode)) (old new : Wires) → AreTaken n stations now old new → AreCounting old new
all_taken zero stations now old new h = unchanged old new h.1
all_taken (suc n) stations now old new (before, mid, first, last) =
    then old mid new (all_taken n stations before old mid first)
    (takes_counts last.stamp last.station (ports_of last.by.m) _ mid new last.by.does)

-- ---- A tick

pub tick_counts : (old new : Worldly) → IsTick old new → AreCounting old.wires new.wires
tick_counts old new t =
    let p = t.plays in
    let b = p.begins in
    let start : Wires = record old.wires { losing = t.losing } in
    counts_then old.wires.cabling b.wires.cabling new.wires.cabling (all_passed _ b.seats old.stations p.passed start b.wires b.passes)
    (then b.wires p.acted new.wires
    (all_done old.plan p.passed new.now b.actions old.schedule new.schedule (b.wires, old.refused) (p.acted, new.refused) b.does)
    (all_taken p.takings p.passed new.stations p.acted new.wires p.takes))
