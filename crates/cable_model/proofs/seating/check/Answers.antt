use Rattle.std.proofs.Common.{rules, ◌≡◌, false, inl, refl}
use Rattle.cable_model.proofs.Finds.{none_seated}
use Rattle.cable_model.specs.Outcomes.{has_cable}
use Rattle.cable_model.proofs.seating.check.Goals as goal

pub returns-then-not-has_cable-clause-refused : goal.returns-then-not-has_cable-clause-refused
returns-then-not-has_cable-clause-refused c =
    let none : has_cable c.args.seats.now c.args.cable ≡ false = search rules in
    (none_seated c.args.seats.now c.args.cable c.args.station none, inl (refl, none))
