use Rattle.std.proofs.Common.{IfSome, ◌≡◌, ◌≤◌, ℕ, List, length, Option, Some, arith}
use Rattle.at_base.specs.Spelling.{bytes_of}
use Rattle.at_base.specs.declared.address.Addr.{Addr}
use Rattle.atp.specs.Packets.{packet}
use Rattle.atp.specs.Requesting.{begun, request_of}
use Rattle.atp.specs.declared.transaction.Transaction.{Transaction}
use Rattle.end_node.specs.Asking.{zone_ask}
use Rattle.end_node.proofs.lists.begin.Goals as goal

-- the first request for a zone list has at most 586 bytes, so it fits into a datagram
few_bytes : (bytes : List ℕ) (slot : Option Transaction) (id start : ℕ) (router : Addr) → slot ≡ Some (begun id (zone_ask start router))
    → IfSome slot (λ t. bytes ≡ bytes_of packet (request_of t)) → length bytes ≤ 586
unfolding packet
few_bytes bytes slot id start router is ok = rw (rw is at ok) (omega arith)

pub returns-clause-short : goal.returns-clause-short
returns-clause-short c =
    few_bytes _ _ c.in_ok-id.id c.args.start c.args.router (rw c.zone_ask.ensures at c.in_ok-id.ensures.begun) c.in_ok-bytes.ensures.ok
