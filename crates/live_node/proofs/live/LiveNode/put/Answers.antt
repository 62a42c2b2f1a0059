use Rattle.std.proofs.Common.{arith}
use Rattle.station.proofs.MadeLawful.{made_lawful}
use Rattle.live_node.proofs.live.LiveNode.put.Goals as goal

pub returns-clause-sent : goal.returns-clause-sent
returns-clause-sent c = record {
  added = c.in_ok-made.made.items;
  grown = rw (← c.room.ensures.kept) c.append.ensures;
  holds = c.in_ok-made.ensures.ok;
  lawful = made_lawful 1 c.in_ok-made.made.items c.in_ok-made.ensures.good (omega (arith, c.in_ok-made.ensures.few));
}
