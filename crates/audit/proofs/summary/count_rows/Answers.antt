use Rattle.std.proofs.Common.{rules, length}
use Rattle.std.proofs.lemmas.Iterator.Consumers.{sum_by_from_yields_List}
use Rattle.std.proofs.lemmas.Iterator.{YieldsList-from_map, YieldsList-from_slice}
use Rattle.audit.proofs.summary.count_rows.Goals as goal

pub returns : goal.returns
returns c =
    sum_by_from_yields_List _ c.args.routers.now c.map.result _ c.sum.ensures.ran
    (YieldsList-from_map _ (λ router. length router.rows) (YieldsList-from_slice c.args.routers.now cc) c.map.ensures.closure
    (λ x r q k. search rules))
