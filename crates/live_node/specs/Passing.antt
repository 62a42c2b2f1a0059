-- The changes that a tick makes to a live node, except those to its port.
use Rattle.std.specs.Prelude.{Option}
use Rattle.at_base.specs.declared.address.Addr.{Addr}
use Rattle.atp.specs.Requesting.{Transactions}
use Rattle.live_node.specs.Living.{LivingNode}
use Rattle.live_node.specs.Ticking.{asked_after, silent, wait_after}

-- The node after a tick, after which it has this address or none, and these transactions, but with the port that it
-- had before.
abbrev pub passed : Option Addr → Transactions → LivingNode → LivingNode
passed own asks l = record l {
  node = record l.node { router = (silent l.node.router l.silence).0; asks = asks };
  silence = (silent l.node.router l.silence).1;
  asked = asked_after own l;
  wait = wait_after own l;
}
