-- Datagrams that end at a router. (Inside AppleTalk, the chapter on DDP)
use Rattle.std.specs.Prelude.{ℕ, cond, Option, Some, None}
use Rattle.ddp.specs.Datagram.{Datagram}
use Rattle.station.specs.Hearing.{Hearing}
use Rattle.station.specs.Values.{datagram_at}
use Rattle.station.specs.Ways.{checks}
use Rattle.station.specs.declared.heard.Kind.{Kind}
use Rattle.station.specs.declared.heard.Kind.TheVariants.{Ddp, Aarp}
use Rattle.router.specs.Forwarding.{course}
use Rattle.router.specs.Holding.{Holding}
use Rattle.router.specs.declared.course.Ending.{Ending}

-- a datagram that ended at the router, with the port on whose cable it ended, if its checksum is right
abbrev pub ended_by : Option Ending → Datagram → Option (ℕ × Datagram)
ended_by None d = None
ended_by (Some e) d = cond (checks d) (Some (e.port, d)) None

-- The datagram in a frame, if it ends at the router and its checksum is right, with the port on whose cable it ended.
abbrev pub ended_datagram : Holding → Hearing → Option Datagram → Option (ℕ × Datagram)
ended_datagram h x None = None
ended_datagram h x (Some d) = ended_by (course h.ports h.routes x.port x.link d.hops d.target).ending d

-- The datagram in a frame of this kind, if it ends at the router and its checksum is right, with the port on whose
-- cable it ended; an AARP frame has none.
abbrev pub ended_kind : Kind → Holding → Hearing → Option (ℕ × Datagram)
ended_kind Ddp h x = ended_datagram h x (datagram_at x.bytes)
ended_kind Aarp h x = None

-- The datagram that a router receives in a frame, if it ends there and its checksum is right, with the port on whose
-- cable it ended.
abbrev pub ended : Holding → Hearing → Option (ℕ × Datagram)
ended h x = ended_kind x.kind h x
