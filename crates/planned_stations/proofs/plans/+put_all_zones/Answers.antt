use Rattle.std.proofs.Common.{arith}
use Rattle.planned_stations.proofs.Beginnings.{fits_rest, rest_shorter}
use Rattle.planned_stations.proofs.plans.+put_all_zones.Goals as goal

pub put_all_zones-requires : goal.put_all_zones-requires
put_all_zones-requires t c = (
  let shorter = rest_shorter c.args.ports.now c.in-len1-up.len_at_least in omega (arith, shorter, c.decreases),
  fits_rest c.args.cables.now c.args.zones.now c.put_zones.new.zones c.args.ports.now c.port-item.result c.in-len1-up.len_at_least
      (c.requires.there, (c.requires.cables, (c.requires.apart, (c.requires.free, c.requires.room)))) c.port-item.is
      (c.in_ok-put_zones-in-len1-up.ensures {u = tt}).put,
)
