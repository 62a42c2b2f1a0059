use Rattle.std.proofs.Common.{◌-◌, drop, length, take}
use Rattle.std.proofs.lemmas.Result.{on_ok_weaker}
use Rattle.freeze.proofs.Valid.{StayValid, one_by_one}
use Rattle.freeze.proofs.tables.+put_routers.Goals as goal

pub returns-in_ok-put_router-in-len1-up-stations-clause-valid : goal.returns-in_ok-put_router-in-len1-up-stations-clause-valid
returns-in_ok-put_router-in-len1-up-stations-clause-valid g t c =
    let v = c.args.version in
    let rs = c.args.planned.now in
    let ms = c.args.stations.now in
    let seats = c.args.mappers.now in
    let more = c.after-mappers.result.now in
    let old = c.args.frozen.now.items in
    let mid = c.put_router.new.frozen.items in
    let new = c.put_routers.new.frozen.items in
    on_ok_weaker {P = StayValid v (take (length rs - 1) (drop 1 rs)) (take (length ms - 1) (drop 1 ms)) more mid new}
    {Q = StayValid v rs ms seats old new} c.put_routers.result
    (λ rest. one_by_one v rs c.router-item.result ms c.station-item.result seats more old mid new c.in-len1-up.len_at_least c.router-item.is
    c.in-len1-up-stations.len_at_least c.station-item.is c.after-mappers.ensures.few
    (c.in_ok-put_router-in-len1-up-stations.ensures {u = tt}).valid rest)
    c.put_routers.ensures.valid
