-- The ways of datagrams that a station makes: port, next station and header. (Inside AppleTalk, the chapter on DDP)
use Rattle.std.specs.Prelude.{ℕ, Bool, not, ◌&&◌, ◌||◌, ◌==◌, cond, List, [], Option, Some, None}
use Rattle.at_base.specs.declared.address.Addr.{Addr}
use Rattle.ddp.specs.Datagram.{Datagram, checksum_of}
use Rattle.ddp.specs.declared.header.Header.{Header}
use Rattle.station.specs.Making.{all_made}
use Rattle.station.specs.declared.output.Next.{Next}
use Rattle.station.specs.declared.output.Next.TheVariants as next
use Rattle.station.specs.declared.output.Output.{Output}
use Rattle.station.specs.declared.way.Way.{Way}

-- the datagram has this type and this target socket
abbrev pub is_to : ℕ → ℕ → Datagram → Bool
is_to kind socket d = d.kind == kind && d.target_socket == socket

-- the next station of a datagram on the cable of its target
abbrev pub straight : Addr → Next
straight a = cond (a.node == 255) next.All (next.Station a)

-- the way by this port to this next station, with this source address, if there is one
abbrev pub way_from : Option Addr → ℕ → Next → Header → Option Way
way_from None q to header = None
way_from (Some source) q to header = Some (record { port = q; next = to; header = record header { source = source } })

-- the source address of a datagram before its way is known
abbrev pub nobody : Addr
nobody = record { net = 0; node = 0 }

-- the datagram carries a checksum
abbrev pub is_summed : Datagram → Bool
is_summed d = not (d.checksum == 0)

-- the header of a reply to a datagram, for a target: from the socket that was asked to the socket that asked
abbrev pub reply_header : Datagram → Addr → Header
reply_header d target = record {
  summed = is_summed d;
  target = target;
  source = nobody;
  target_socket = d.source_socket;
  source_socket = d.target_socket;
  kind = d.kind;
}

-- the datagrams with these data, if there is a way
abbrev pub replying : Option Way → List (List ℕ) → List Output
replying None payloads = []
replying (Some way) payloads = all_made way payloads

-- the datagram has no checksum, or the checksum of its bytes
abbrev pub checks : Datagram → Bool
checks d = d.checksum == 0 || d.checksum == checksum_of d
