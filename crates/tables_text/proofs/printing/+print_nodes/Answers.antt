use Rattle.text.proofs.Going.{goes_each}
use Rattle.text.proofs.Going.{on_ok}
use Rattle.tables_text.specs.Tables.{node_entry}
use Rattle.tables_text.proofs.printing.+print_nodes.Goals as goal

pub returns-in_ok-print_node-in-len1-up-clause-gone :
    goal.returns-in_ok-print_node-in-len1-up-clause-gone
returns-in_ok-print_node-in-len1-up-clause-gone g t c =
    on_ok c.print_nodes.result c.print_nodes.ensures.gone
    (λ others. goes_each node_entry c.args.nodes.now c.first-item.result _ _ _ _ _ _ c.in-len1-up.len_at_least c.first-item.is
    c.in_ok-print_node-in-len1-up.ensures.gone others)
