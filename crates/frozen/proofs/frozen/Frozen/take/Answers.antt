use Rattle.std.proofs.Common.{◌≡◌, ap, sym, subst, length, ◌+◌, ◌∙◌, IfErr, refl, ◌⊎◌, Some, None}
use Rattle.std.specs.List.{list_any}
use Rattle.std.proofs.lemmas.Result.{on_ok_weaker}
use Rattle.at_base.specs.declared.error.Error.TheVariants.{Memory}
use Rattle.cable_model.specs.Outcomes.{AreSeatsOf, is_named}
use Rattle.frozen.proofs.Asking.{took_asks}
use Rattle.frozen.proofs.Keeps.{took_block, took_keeps}
use Rattle.frozen.proofs.Refused.{both_err, of_both, refused_so}
use Rattle.frozen.proofs.Seats.{seats_of_station}
use Rattle.frozen.specs.Promises.{HaveOnlyAsked}
use Rattle.frozen.specs.Runs.{AddsBlock, IsFrozen, Running, TakenFrom, ports_of, take_refusal}
use Rattle.legal_runs.specs.Legs.{places_of}
use Rattle.run_cables.specs.Wired.{cabling_of, pending_for, take_room}
use Rattle.frozen.proofs.frozen.Frozen.take.Goals as goal

pub take-requires-clause-seated : goal.take-requires-clause-seated
take-requires-clause-seated g c =
    let frozen = c.self.invariant.0 in
    λ m at. subst (λ l. AreSeatsOf l c.args.station (ports_of m)) (sym frozen.seats)
    (seats_of_station c.self.inside.places frozen.passes c.self.inside.stations.items frozen.holders c.args.station m at)

pub invariant_of-self : goal.invariant_of-self
invariant_of-self g c =
    let i = c.self.inside.places in
    let old : Running = record { internet = i; stations = c.self.inside.stations.items; wiring = c.self.inside.wiring } in
    let new : Running = record { internet = i; stations = c.take.new.stations.items; wiring = c.take.new.wiring } in (
      of_both c.take.result
          (TakenFrom (places_of i) c.self.inside.stations.items c.self.inside.wiring c.args.stamp c.args.station
          c.take.new.stations.items c.take.new.wiring)
          ((c.take.new.wiring ≡ c.self.inside.wiring) × (c.take.new.stations.items ≡ c.self.inside.stations.items))
          (IsFrozen new)
          c.take.ensures.ok (both_err c.take.result (c.take.new.wiring ≡ c.self.inside.wiring)
          (c.take.new.stations.items ≡ c.self.inside.stations.items) c.take.ensures.kept c.take.ensures.stations_stay)
          (λ taken. took_keeps old new c.args.stamp c.args.station c.self.invariant.0 (record { internet = refl; taken = taken }))
          (λ same. subst IsFrozen
          (ap (λ s. record { internet = i; stations = s; wiring = c.self.inside.wiring }) (sym same.1)
          ∙ ap (λ k. record { internet = i; stations = c.take.new.stations.items; wiring = k }) (sym same.0))
          c.self.invariant.0),
      c.self.invariant.1 ∙ sym c.take.ensures.limit,
      c.take.ensures.still,
    )

pub returns-clause-refused : goal.returns-clause-refused
returns-clause-refused g c =
    subst (λ (r : Running). IfErr c.take.result (λ e. (take_refusal r c.args.stamp c.args.station ≡ Some e)
    ⊎ ((e ≡ Memory) × (take_refusal r c.args.stamp c.args.station ≡ None)))) c.self.view_is
    (refused_so c.take.result
    (list_any (is_named c.args.stamp c.args.station) (pending_for c.self.inside.wiring))
    (cabling_of c.self.inside.wiring).limit (length (cabling_of c.self.inside.wiring).lines + take_room c.self.inside.wiring) c.take.ensures.refused c.take.ensures.not_pending
    c.take.ensures.full)

pub returns-clause-frozen : goal.returns-clause-frozen
returns-clause-frozen g c = (invariant_of-self g c).0

pub returns-clause-asks : goal.returns-clause-asks
returns-clause-asks g c = λ only.
    let old : Running =
    record { internet = c.self.inside.places; stations = c.self.inside.stations.items; wiring = c.self.inside.wiring } in
    let new : Running = record { internet = c.self.inside.places; stations = c.take.new.stations.items; wiring = c.take.new.wiring } in
    let before : HaveOnlyAsked old = subst HaveOnlyAsked (sym c.self.view_is) only in
    of_both c.take.result
    (TakenFrom (places_of c.self.inside.places) c.self.inside.stations.items c.self.inside.wiring c.args.stamp c.args.station
    c.take.new.stations.items c.take.new.wiring)
    ((c.take.new.wiring ≡ c.self.inside.wiring) × (c.take.new.stations.items ≡ c.self.inside.stations.items))
    (HaveOnlyAsked new)
    c.take.ensures.ok (both_err c.take.result (c.take.new.wiring ≡ c.self.inside.wiring)
    (c.take.new.stations.items ≡ c.self.inside.stations.items) c.take.ensures.kept c.take.ensures.stations_stay)
    (λ taken. took_asks old new c.args.stamp c.args.station c.self.invariant.0 (record { internet = refl; taken = taken }) before)
    (λ same. subst HaveOnlyAsked
    (ap (λ k. record { internet = c.self.inside.places; stations = c.self.inside.stations.items; wiring = k }) (sym same.0)
    ∙ ap (λ s. record { internet = c.self.inside.places; stations = s; wiring = c.take.new.wiring }) (sym same.1)) before)

pub returns-clause-block : goal.returns-clause-block
returns-clause-block g c =
    let i = c.self.inside.places in
    let old : Running = record { internet = i; stations = c.self.inside.stations.items; wiring = c.self.inside.wiring } in
    let new : Running = record { internet = i; stations = c.take.new.stations.items; wiring = c.take.new.wiring } in
    on_ok_weaker c.take.result
    (λ taken. subst (λ (r : Running). AddsBlock r new) c.self.view_is
    (took_block old new c.args.stamp c.args.station c.self.invariant.0 (record { internet = refl; taken = taken }))) c.take.ensures.ok
