use Rattle.std.proofs.Common.{◌≡◌, length}
use Rattle.cable_model.specs.Places.{AreLists}
use Rattle.cable_model.specs.declared.seats.Key.TheVariants.{Cable}
use Rattle.cable_model.proofs.seats.indices_by_cable.Given as goal

abbrev pub invariant-loop-cable : goal.invariant-loop-cable
invariant-loop-cable l = AreLists Cable l.seats l.on.items × (length l.on.items ≡ l.cable)
