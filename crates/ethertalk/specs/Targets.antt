-- The frames that a station hears.
use Rattle.std.specs.Prelude.{ℕ, ◌==◌, Option, Some, None, if◌then◌else◌}
use Rattle.at_base.specs.Text.{same_bytes}
use Rattle.at_base.specs.declared.address.Hw.{Hw}
use Rattle.cable_model.specs.Outcomes.{link_of}
use Rattle.station.specs.declared.heard.Link.{Link}
use Rattle.station.specs.declared.heard.Link.TheVariants.{Own, All, Group}

-- a frame that was sent like this is for the station with this hardware address and this group, if it has one
abbrev pub link_as : Hw → Option ℕ → Hw → Link → Option Link
link_as own group to All = Some All
link_as own None to (Group sent) = None
link_as own (Some group) to (Group sent) = if sent == group then Some (Group sent) else None
link_as own group to Own = if same_bytes own.0 to.0 then Some Own else None

-- how the station with this hardware address and this group hears a frame to the target, if it is for the station
abbrev pub link_for : Hw → Option ℕ → Hw → Option Link
link_for own group to = link_as own group to (link_of to)
