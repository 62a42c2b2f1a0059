use Rattle.drawing.proofs.Parts.{goes_each_from}
use Rattle.drawing.specs.Shapes.{router_lines}
use Rattle.text.proofs.Going.{on_ok}
use Rattle.drawing.proofs.printing.+print_routers.Goals as goal

pub returns-in_ok-print_router-in-len1-up-clause-gone : goal.returns-in_ok-print_router-in-len1-up-clause-gone
returns-in_ok-print_router-in-len1-up-clause-gone g t c =
    on_ok c.print_routers.result c.print_routers.ensures.gone
    (λ others.
    goes_each_from (router_lines c.args.image.now c.args.mark c.args.to) c.args.r c.args.routers.now c.first-item.result _ _ _ _ _ _
    c.in-len1-up.len_at_least c.first-item.is c.in_ok-print_router-in-len1-up.ensures.gone others)
