use Rattle.text.proofs.Going.{goes_on}
use Rattle.text.proofs.Going.{on_ok}
use Rattle.drawing.proofs.printing.print_router.Goals as goal

pub returns-clause-gone : goal.returns-clause-gone
returns-clause-gone g c =
    on_ok c.print_all_ports.result c.print_all_ports.ensures.gone (λ last. goes_on c.in_ok-print_router_line.ensures.gone last)
