-- The state of an end node. (Inside AppleTalk, the chapters on DDP, NBP and ATP; that the last 64 datagrams are kept is
-- this project's own)
use Rattle.std.specs.Prelude.{ℕ, List, Option}
use Rattle.aarp.specs.Choosing.{Choice}
use Rattle.at_base.specs.declared.address.Addr.{Addr}
use Rattle.atp.specs.Requesting.{Transactions}
use Rattle.nbp.specs.declared.names.Named.{Named}
use Rattle.end_node.specs.declared.node.Datagram.{Datagram}

-- The state of a node: the choice of its port's address; its zone; the address of its router, if it has one; its
-- registered names; the last datagrams that it received, the oldest first; and the transactions in which it asks for
-- zone lists.
pub record NodeHolding : Type 0 where
  pub port : Choice
  pub zone : List ℕ
  pub router : Option Addr
  pub names : List Named
  pub received : List Datagram
  pub asks : Transactions
