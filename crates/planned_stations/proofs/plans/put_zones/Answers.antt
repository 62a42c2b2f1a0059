use Rattle.std.proofs.Common.{◌-◌, IsTrue, subst}
use Rattle.internet_file.specs.Sound.{is_cable}
use Rattle.planned_stations.proofs.Beginnings.{all_index, at_index, port_there, set_for_memory}
use Rattle.planned_stations.specs.Beginning.{is_free}
use Rattle.planned_stations.proofs.plans.put_zones.Goals as goal

pub returns-clause-refused : goal.returns-clause-refused
returns-clause-refused c =
    let cables = c.args.cables.now in
    let cable = c.index-cables-port.result in
    let there = port_there cables c.args.port.now c.requires.there in
    set_for_memory c.set.result cable c.as_slice.result.now c.args.zones.now c.set.ensures.refused c.set.ensures.range c.set.ensures.full
    c.as_slice.ensures (all_index is_cable cables (c.args.port.now.cable - 1) cable there c.index-cables-port.is c.requires.cables)
    (subst (λ x. IsTrue (is_free c.args.zones.now x)) (at_index cables (c.args.port.now.cable - 1) cable there c.index-cables-port.is)
    c.requires.free) c.requires.room
