use Rattle.drawing.proofs.Parts.{goes_each_from}
use Rattle.drawing.specs.Shapes.{node_lines}
use Rattle.text.proofs.Going.{on_ok}
use Rattle.drawing.proofs.printing.+print_nodes.Goals as goal

pub returns-in_ok-print_node-in-len1-up-clause-gone : goal.returns-in_ok-print_node-in-len1-up-clause-gone
returns-in_ok-print_node-in-len1-up-clause-gone g t c =
    on_ok c.print_nodes.result c.print_nodes.ensures.gone
    (λ others. goes_each_from (node_lines c.args.mark) c.args.k c.args.nodes.now c.first-item.result _ _ _ _ _ _ c.in-len1-up.len_at_least
    c.first-item.is c.in_ok-print_node-in-len1-up.ensures.gone others)
