-- The invariant of a live world.
use Rattle.std.specs.Prelude.{◌≡◌, ◌≤◌, [], map}
use Rattle.internet_file.specs.Sound.{IsSound}
use Rattle.live_cables.specs.Living.{happened}
use Rattle.live_cables.specs.Playing.{AreDue}
use Rattle.planned_stations.specs.Planning.{planned_ports, ports_of}
use Rattle.planned_stations.specs.Seating.{plan_seats}
use Rattle.world.specs.Received.{AreReceived, got}
use Rattle.world.specs.Worlds.{Worldly, max_entries}

-- The plan is sound, the seats and the stations' ports are those of the plan, the limit is 4,000,000 entries, each
-- frame that was taken was pending for its station, and each datagram that a station received is that of a frame that
-- it took.
pub record IsLaid (w : Worldly) : Type 0 where
  pub sound : IsSound w.plan
  pub seats : w.wires.cabling.seats ≡ plan_seats w.plan
  pub limit : w.wires.cabling.limit ≡ max_entries
  pub ports : map ports_of w.stations ≡ planned_ports w.plan
  pub few : w.now ≤ w.plan.ticks
  pub due : AreDue (plan_seats w.plan) [] (happened w.wires)
  pub received : AreReceived (happened w.wires) (map got w.stations)
