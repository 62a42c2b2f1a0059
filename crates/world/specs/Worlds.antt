-- The state of a live world, and its properties.
use Rattle.std.specs.Prelude.{◌≡◌, ◌⊎◌, ℕ, ◌+◌, ◌≤◌, IsTrue, List, [], ◌++◌, Option, None, Some, Contains, length, map, slice_get}
use Rattle.std.specs.List.{All}
use Rattle.at_base.specs.declared.error.Error.{Error}
use Rattle.cable_model.specs.Rooms.{held_rooms}
use Rattle.cable_model.specs.Outcomes.{AreSeatsOf}
use Rattle.cable_model.specs.Pending.{pending}
use Rattle.cable_model.specs.Transcript.{Entry, Frame, Put, Took, count}
use Rattle.ddp.specs.Datagram.{Datagram}
use Rattle.end_node.specs.Answers.{kept}
use Rattle.end_node.specs.declared.node.Datagram.{Datagram as Received}
use Rattle.station.specs.declared.member.Member.{Member}
use Rattle.station.specs.declared.member.Member.TheVariants.{Node}
use Rattle.internet_file.specs.Files.{Planned}
use Rattle.live_cables.specs.Living.{Wires, happened}
use Rattle.live_cables.specs.Playing.{AreDue, IsPlayed, are_lost, is_took}
use Rattle.live_node.specs.Living.{LivingNode}
use Rattle.live_router.specs.Living.{Living}
use Rattle.station.specs.Values.{datagram_at}
use Rattle.planned_stations.specs.Planning.{ports_of}
use Rattle.planned_stations.specs.Seating.{plan_seats}
use Rattle.world.specs.Losing.{loses_at}

-- The state of a world: its plan; its stations, first the routers and then the nodes; the cables; the number of ticks
-- so far; the error of the tick that failed, if one did; the actions that had an error, by their numbers from 1 and the
-- numbers of the errors; and the indices of the actions that are still to come, the next one last.
pub record Worldly : Type 0 where
  pub plan : Planned
  pub stations : List (Member Living LivingNode)
  pub wires : Wires
  pub now : ℕ
  pub stopped : Option Error
  pub refused : List (ℕ × ℕ)
  pub schedule : List ℕ

-- the most entries of a play's transcript
abbrev pub max_entries : ℕ
max_entries = 4000000

-- the most frames that are taken in a tick
abbrev pub max_takes : ℕ
max_takes = 10000

-- The cables of a plan before the first tick: the transcript is empty, no seat has a settled address or a mapping, and
-- no cable loses frames.
abbrev pub wires_begun : Planned → Wires
wires_begun plan = record {
  cabling = record {
    seats = plan_seats plan;
    limit = max_entries;
    rooms = held_rooms;
    lines = [];
    kept = [];
    spare = 0;
  };
  own = map (λ s. None) (plan_seats plan);
  maps = map (λ s. record { known = []; held = [] }) (plan_seats plan);
  ranges = map (λ c. c.range) plan.cables;
  losing = [];
}

-- The datagram is that of a frame that the station took.
pub record IsReceived (entries : List Entry) (station : ℕ) (d : Received) : Type 0 where
  pub frame : Frame
  pub put : Contains entries (Put frame)
  pub took : Contains entries (Took frame.stamp station)
  pub datagram : Datagram
  pub read : datagram_at frame.bytes ≡ Some datagram
  pub keeps : kept datagram ≡ d

-- The properties of a world.
pub record IsWorld (w : Worldly) : Type 0 where
  -- Each port of a station has its seat, and each seat of a station is that of one of its ports.
  pub seats : w.wires.cabling.seats ≡ plan_seats w.plan
  pub seated : (k : ℕ) (m : Member Living LivingNode) → slice_get w.stations k ≡ Some m
      → AreSeatsOf w.wires.cabling.seats k (ports_of m)
  -- Each frame that was taken was pending for its station.
  pub due : AreDue (plan_seats w.plan) [] (happened w.wires)
  -- Each datagram that a node received is that of a frame that it took.
  pub received : (k : ℕ) (n : LivingNode) → slice_get w.stations k ≡ Some (Node n)
      → All (IsReceived (happened w.wires) k) n.node.received
  -- There are as many stations as in the plan.
  pub whole : length w.stations ≡ length w.plan.routers + length w.plan.nodes
  pub few : w.now ≤ w.plan.ticks
  -- The limit on the number of entries.
  pub limit : w.wires.cabling.limit ≡ max_entries

-- In this tick, entries were added: each frame that was taken was pending for its station, no frame was taken that was
-- put in this tick on a cable that loses frames in it, and no other frame was lost.
pub record Ticks (plan : Planned) (tick : ℕ) (old new : Wires) : Type 0 where
  pub added : List Entry
  pub grown : happened new ≡ happened old ++ added
  pub played : IsPlayed (plan_seats plan) (loses_at plan tick) (happened old) added

-- In this tick, entries were added that `Ticks` allows, and the tick finished: at most 10,000 frames were taken, no frame
-- that was put on a cable that loses frames is pending, and no frame is pending at all unless 10,000 were taken.
pub record TicksOn (plan : Planned) (tick : ℕ) (old new : Wires) : Type 0 where
  pub ticks : Ticks plan tick old new
  pub lost : IsTrue (are_lost (plan_seats plan) (loses_at plan tick) (happened old) ticks.added)
  pub few : count is_took ticks.added ≤ max_takes
  pub ended : (pending (plan_seats plan) (happened new) ≡ []) ⊎ (count is_took ticks.added ≡ max_takes)
