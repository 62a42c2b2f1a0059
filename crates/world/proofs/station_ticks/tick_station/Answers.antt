use Rattle.world.proofs.Going.{did_then}
use Rattle.world.proofs.station_ticks.tick_station.Goals as goal

pub returns-clause-did : goal.returns-clause-did
returns-clause-did g c = did_then 5 _ _ _ c.age_all_mappings.result c.in-Ok.ensures.did.done c.age_all_mappings.ensures.did
