use Rattle.drawing.proofs.Parts.{goes_each_from}
use Rattle.drawing.specs.Shapes.{cable_line}
use Rattle.text.proofs.Going.{on_ok}
use Rattle.drawing.proofs.printing.+print_cables.Goals as goal

pub returns-in_ok-print_cable-in-len1-up-clause-gone : goal.returns-in_ok-print_cable-in-len1-up-clause-gone
returns-in_ok-print_cable-in-len1-up-clause-gone g t c =
    on_ok c.print_cables.result c.print_cables.ensures.gone
    (λ others. goes_each_from (cable_line c.args.mark) c.args.k c.args.cables.now c.first-item.result _ _ _ _ _ _ c.in-len1-up.len_at_least
    c.first-item.is c.in_ok-print_cable-in-len1-up.ensures.gone others)
