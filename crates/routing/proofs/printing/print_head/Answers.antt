use Rattle.text.proofs.Going.{goes_on, on_ok}
use Rattle.routing.proofs.printing.print_head.Goals as goal

pub returns-clause-gone : goal.returns-clause-gone
returns-clause-gone g c =
    on_ok c.print_cables.result c.print_cables.ensures.gone (λ p. goes_on c.in_ok-print_section.ensures.gone p)
