-- The image's entries for the ports of stations.
use Rattle.std.specs.Prelude.{ℕ, Bool, ◌&&◌, List, slice_get}
use Rattle.aarp.specs.Choosing.{is_on}
use Rattle.at_base.specs.Range.{is_range}
use Rattle.at_base.specs.declared.address.Addr.{Addr}
use Rattle.audit.specs.Places.{on}
use Rattle.table_image.specs.declared.cable.Cable.{Cable}
use Rattle.table_image.specs.declared.port.Port.{Port}

-- The cable has a valid range, and a station on it may have the address.
abbrev pub holds : Addr → Cable → Bool
holds a c = is_range c.start c.end && is_on (record { start = c.start; end = c.end }) a

-- The cable exists, has a valid range, and a station on it may have the address.
abbrev pub is_seated : List Cable → ℕ → Addr → Bool
is_seated cables cable a = on (slice_get cables cable) (holds a)

-- The router's port is on a cable that exists, and may have its address there.
abbrev pub is_port_seated : List Cable → Port → Bool
is_port_seated cables port = is_seated cables port.cable port.address
