-- What a part of an image may refer to, and the version of the image.
use Rattle.std.specs.Prelude.{ℕ}
use Rattle.table_image.specs.declared.context.Context.{Context}
use Rattle.table_image.specs.declared.version.Version.{Version}

-- the context of a part of a version's image that refers to no other part
abbrev pub nothing : Version → Context
nothing version = record { version = version; cables = 0; ports = 0 }

-- the same context, but for the number of cables of the internet
abbrev pub with_cables : ℕ → Context → Context
with_cables cables c = record c { cables = cables }

-- the same context, but for the number of ports of the router
abbrev pub with_ports : ℕ → Context → Context
with_ports ports c = record c { ports = ports }
