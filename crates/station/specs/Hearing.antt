-- The frames that a station receives.
use Rattle.std.specs.Prelude.{ℕ, List}
use Rattle.station.specs.declared.heard.Heard.{Heard}
use Rattle.station.specs.declared.heard.Kind.{Kind}
use Rattle.station.specs.declared.heard.Link.{Link}

-- A frame that a station receives: its port, the address that it was sent to, its kind, and its bytes.
pub record Hearing : Type 0 where
  pub port : ℕ
  pub link : Link
  pub kind : Kind
  pub bytes : List ℕ

-- the value of a frame in place
abbrev pub hearing : Heard → Hearing
hearing h = record { port = h.port; link = h.link; kind = h.kind; bytes = h.bytes.now }
