use Rattle.std.proofs.Common.{subst}
use Rattle.std.specs.List.{flat_map}
use Rattle.tables_text.specs.Tables.{node_entry}
use Rattle.text.proofs.Going.{on_ok}
use Rattle.text.specs.Going.{Goes}
use Rattle.tables_text.proofs.printing.print_all_nodes.Goals as goal

pub returns-clause-gone : goal.returns-clause-gone
returns-clause-gone g c =
    on_ok c.print_nodes.result c.print_nodes.ensures.gone
    (λ last. subst (λ xs. Goes (g.W.Write.contents c.args.output.now.writer) c.args.output.now.text.items (flat_map node_entry xs)
    (g.W.Write.contents c.print_nodes.new.output.writer) c.print_nodes.new.output.text.items) c.nodes.ensures.value last)
