-- A live node that handled a frame as its frozen node does and then learned has received it.
use Rattle.std.proofs.Common.{◌≡◌, List, Option, ap, ◌∙◌}
use Rattle.ddp.specs.Datagram.{Datagram}
use Rattle.end_node.specs.Answers.{Hears}
use Rattle.end_node.specs.Holding.{NodeHolding}
use Rattle.end_node.specs.Taking.{taken}
use Rattle.station.specs.Hearing.{Hearing}
use Rattle.station.specs.Lawful.{PutsOut}
use Rattle.station.specs.declared.output.Output.{Output}
use Rattle.live_node.specs.Living.{LiveHears, LivingNode, taught}

pub heard : (old : LivingNode) (x : Hearing) (before after : List Output) (answered : NodeHolding) (new : LivingNode)
    (d : Option Datagram) → PutsOut 1 before after (λ added. Hears old.node x added answered) → d ≡ taken old.node x
    → new ≡ taught (record old { node = answered }) d → PutsOut 1 before after (λ added. LiveHears old x added new)
heard old x before after answered new d put is learned = record {
  added = put.added;
  grown = put.grown;
  holds = record {
    answered = answered;
    answers = put.holds;
    learns = learned ∙ ap (λ (t : Option Datagram). taught (record old { node = answered }) t) is;
  };
  lawful = put.lawful;
}
