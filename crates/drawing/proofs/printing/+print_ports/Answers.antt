use Rattle.drawing.proofs.Parts.{goes_each_from}
use Rattle.drawing.specs.Shapes.{port_line}
use Rattle.text.proofs.Going.{on_ok}
use Rattle.drawing.proofs.printing.+print_ports.Goals as goal

pub returns-in_ok-print_port-in-len1-up-clause-gone : goal.returns-in_ok-print_port-in-len1-up-clause-gone
returns-in_ok-print_port-in-len1-up-clause-gone g t c =
    on_ok c.print_ports.result c.print_ports.ensures.gone
    (λ others.
    goes_each_from (port_line c.args.mark c.args.r) c.args.p c.args.ports.now c.first-item.result _ _ _ _ _ _
    c.in-len1-up.len_at_least c.first-item.is c.in_ok-print_port-in-len1-up.ensures.gone others)
