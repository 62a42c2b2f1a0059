use Rattle.std.proofs.Common.{◌≡◌, ◌⊎◌, ◌<◌, Err, IfErr, ap, map, subst}
use Rattle.at_base.specs.declared.error.Error.TheVariants.{Full, Memory}
use Rattle.live_cables.specs.Living.{happened}
use Rattle.world.proofs.Going.{goes_none}
use Rattle.world.proofs.Stopped.{first_stopped}
use Rattle.world.proofs.Stations.{least_named, least_within, length_ports, was_pending}
use Rattle.planned_stations.specs.Planning.{ports_of}
use Rattle.world.proofs.taking.take_first.Goals as goal

pub take-requires-clause-there : goal.take-requires-clause-there
take-requires-clause-there g c =
    let w = c.args.wires.now in
    let ms = c.args.stations.now.items in
    subst (λ n. c.in-Some.station < n) (length_ports ms)
    (least_within w.cabling.seats (map ports_of ms) (happened w) c.in-Some.stamp c.in-Some.station c.requires c.in-Some.ensures.some)

pub returns-in-Err-clause-refused : goal.returns-in-Err-clause-refused
returns-in-Err-clause-refused g c =
    let w = c.args.wires.now in
    subst (λ r. IfErr r (λ e. (e ≡ Full) ⊎ (e ≡ Memory))) c.in-Err.is
    (was_pending c.take.result _ (least_named w.cabling.seats (happened w) c.in-Some.stamp c.in-Some.station c.in-Some.ensures.some)
    c.take.ensures.not_pending c.take.ensures.refused)

pub returns-in-None-clause-took : goal.returns-in-None-clause-took
returns-in-None-clause-took g c = goes_none _

pub returns-in-Err-clause-stopped : goal.returns-in-Err-clause-stopped
returns-in-Err-clause-stopped g c =
    let w = c.args.wires.now in
    first_stopped c.in-Some.stamp c.in-Some.station c.args.stations.now.items _ w _ c.in-Err.error c.in-Some.ensures.some
    (λ none. let full = c.in-Err.ensures.no_room
    (least_named w.cabling.seats (happened w) c.in-Some.stamp c.in-Some.station c.in-Some.ensures.some) none in cc)
    (λ is. c.in-Err.ensures.full (ap Err is)) c.in-Err.ensures.stopped
