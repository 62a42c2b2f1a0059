use Rattle.std.proofs.Common.{◌∙◌, ap, length, max, fold, sum_by, arith}
use Rattle.table_image.specs.declared.router.Router.{Router}
use Rattle.audit.proofs.Summaries.{few_rows, greatest_is, same_summary}
use Rattle.audit.proofs.summary.summarize.Goals as goal

pub count_rows-requires : goal.count_rows-requires
count_rows-requires c = few_rows c.args.image.now _ c.routers-routers.ensures.value c.routers-routers.ensures.bounded

pub overflow_cast-result-4 : goal.overflow_cast-result-4
overflow_cast-result-4 c =
    let few = few_rows c.args.image.now _ c.routers-routers.ensures.value c.routers-routers.ensures.bounded in
    let rows = c.count_rows.ensures in
    omega (arith, few, rows)

pub returns : goal.returns
returns c =
    let routers = c.routers-routers.ensures.value in
    let rows = c.count_rows.ensures ∙ ap (sum_by (λ (router : Router). length router.rows)) routers in
    let greatest = c.greatest_distance.ensures
    ∙ (ap (fold (λ g (router : Router). max g (fold (λ g row. max g row.distance) 0 router.rows)) 0) routers
    ∙ greatest_is c.args.image.now) in
    same_summary (ap length c.cables.ensures.value) (ap length routers) (ap length c.nodes.ensures.value) rows greatest
