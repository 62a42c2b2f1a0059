use Rattle.std.proofs.Common.{sym}
use Rattle.frozen.proofs.Keeps.{begun, begun_asks, begun_limit}
use Rattle.frozen.proofs.Promised.{all_asked_for, all_carried, all_heard, each_once, has_hops, looks_up}
use Rattle.frozen.proofs.frozen.Frozen.over.Goals as goal

pub invariant_of-result : goal.invariant_of-result
invariant_of-result g c = (
  begun c.args.image c.in_ok-places.places c.in_ok-stations.stations.items c.in_ok-wiring.wiring c.args.limit
      c.in_ok-places.ensures.ok c.in_ok-wiring.ensures.fresh c.requires.passes c.cables-cables.ensures.bounded
      c.in_ok-stations.ensures.ok,
  sym (begun_limit c.args.image c.args.limit c.in_ok-wiring.wiring c.in_ok-wiring.ensures.fresh),
  c.in_ok-wiring.ensures.still,
)

pub returns-clause-conserved : goal.returns-clause-conserved
returns-clause-conserved g c =
    each_once _
    (begun c.args.image c.in_ok-places.places c.in_ok-stations.stations.items c.in_ok-wiring.wiring c.args.limit
    c.in_ok-places.ensures.ok c.in_ok-wiring.ensures.fresh c.requires.passes c.cables-cables.ensures.bounded
    c.in_ok-stations.ensures.ok)

pub returns-clause-hops : goal.returns-clause-hops
returns-clause-hops g c =
    has_hops _
    (begun c.args.image c.in_ok-places.places c.in_ok-stations.stations.items c.in_ok-wiring.wiring c.args.limit
    c.in_ok-places.ensures.ok c.in_ok-wiring.ensures.fresh c.requires.passes c.cables-cables.ensures.bounded
    c.in_ok-stations.ensures.ok)

pub returns-clause-carried : goal.returns-clause-carried
returns-clause-carried g c =
    all_carried _
    (begun c.args.image c.in_ok-places.places c.in_ok-stations.stations.items c.in_ok-wiring.wiring c.args.limit
    c.in_ok-places.ensures.ok c.in_ok-wiring.ensures.fresh c.requires.passes c.cables-cables.ensures.bounded
    c.in_ok-stations.ensures.ok)

pub returns-clause-looked_up : goal.returns-clause-looked_up
returns-clause-looked_up g c =
    looks_up _
    (begun c.args.image c.in_ok-places.places c.in_ok-stations.stations.items c.in_ok-wiring.wiring c.args.limit
    c.in_ok-places.ensures.ok c.in_ok-wiring.ensures.fresh c.requires.passes c.cables-cables.ensures.bounded
    c.in_ok-stations.ensures.ok)
    (begun_asks c.args.image c.in_ok-places.places c.in_ok-stations.stations.items c.in_ok-wiring.wiring c.args.limit
    c.in_ok-wiring.ensures.fresh c.requires.passes c.cables-cables.ensures.bounded)

pub returns-clause-asked_for : goal.returns-clause-asked_for
returns-clause-asked_for g c = all_asked_for _ (begun c.args.image c.in_ok-places.places c.in_ok-stations.stations.items c.in_ok-wiring.wiring c.args.limit
    c.in_ok-places.ensures.ok c.in_ok-wiring.ensures.fresh c.requires.passes c.cables-cables.ensures.bounded
    c.in_ok-stations.ensures.ok)

pub returns-clause-heard : goal.returns-clause-heard
returns-clause-heard g c = all_heard _ (begun c.args.image c.in_ok-places.places c.in_ok-stations.stations.items c.in_ok-wiring.wiring c.args.limit
    c.in_ok-places.ensures.ok c.in_ok-wiring.ensures.fresh c.requires.passes c.cables-cables.ensures.bounded
    c.in_ok-stations.ensures.ok)
