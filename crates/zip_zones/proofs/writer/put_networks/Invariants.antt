use Rattle.std.proofs.Common.{◌≡◌, ◌++◌, drop}
use Rattle.zip_zones.specs.Written.{networks_bytes}
use Rattle.zip_zones.proofs.writer.put_networks.Given as goal

-- the bytes written and those still to be written are all bytes
abbrev pub invariant-loop-net : goal.invariant-loop-net
invariant-loop-net l = l.bytes.items ++ networks_bytes (drop l.net-index l.networks) ≡ l.initial.bytes.items ++ networks_bytes l.networks
