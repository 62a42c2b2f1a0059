use Rattle.std.proofs.Common.{◌≡◌, [], map, drop}
use Rattle.toml.specs.View.{view}
use Rattle.internet_file.specs.Stations.{registered}
use Rattle.internet_file.proofs.names.registered_of.Given as goal

abbrev pub invariant-loop-index : goal.invariant-loop-index
invariant-loop-index l =
    (registered [] (map view l.values) ≡ registered l.names (map view (drop l.index l.values))) × (l.faults ≡ l.initial.faults)
