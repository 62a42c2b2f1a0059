use Rattle.std.proofs.Common.{Some, arith}
use Rattle.std.proofs.lemmas.Result.{on_ok_weaker}
use Rattle.station.specs.Made.{IsWayIn}
use Rattle.live_node.proofs.live.LiveNode.ask_from.Goals as goal

pub returns-clause-good : goal.returns-clause-good
returns-clause-good c =
    let inside : IsWayIn 1 (Some c.way_from.result) = rw c.way_from.ensures (omega arith, tt) in
    on_ok_weaker c.put.result (λ _. c.put.ensures.good 1 inside) c.put.ensures.puts.put
