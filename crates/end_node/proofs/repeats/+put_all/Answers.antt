use Rattle.std.proofs.Common.{Some, arith}
use Rattle.std.proofs.lemmas.Result.{on_ok_weaker}
use Rattle.station.specs.Made.{IsWayIn}
use Rattle.end_node.proofs.repeats.+put_all.Goals as goal

pub returns-in_ok-put-in-len1-up-clause-good : goal.returns-in_ok-put-in-len1-up-clause-good
returns-in_ok-put-in-len1-up-clause-good t c =
    let inside : IsWayIn 1 (Some c.request_way-way.result) = rw c.request_way-way.ensures (omega arith, tt) in
    on_ok_weaker c.put_all.result (λ good old. good (c.in_ok-put-in-len1-up.ensures.good 1 inside old)) c.put_all.ensures.good
