use Rattle.std.proofs.Common.{◌≡◌, length}
use Rattle.cable_model.specs.Places.{AreLists}
use Rattle.cable_model.specs.declared.seats.Key.TheVariants.{Station}
use Rattle.cable_model.proofs.seats.indices_by_station.Given as goal

abbrev pub invariant-loop-station : goal.invariant-loop-station
invariant-loop-station l = AreLists Station l.seats l.of.items × (length l.of.items ≡ l.station)
