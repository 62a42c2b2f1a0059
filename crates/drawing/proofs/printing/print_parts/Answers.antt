use Rattle.text.proofs.Going.{goes_on}
use Rattle.text.proofs.Going.{on_ok}
use Rattle.drawing.proofs.printing.print_parts.Goals as goal

pub returns-clause-gone : goal.returns-clause-gone
returns-clause-gone g c =
    let t1 = goes_on c.in_ok-print_all_cables.ensures.gone c.in_ok-print_all_routers.ensures.gone in
    on_ok c.print_all_nodes.result c.print_all_nodes.ensures.gone (λ last. goes_on t1 last)
