use Rattle.text.proofs.Going.{goes_then, on_ok}
use Rattle.tables_text.proofs.printing.print_node.Goals as goal

pub returns-clause-gone : goal.returns-clause-gone
returns-clause-gone g c =
    let t1 = goes_then (g.W.Write.contents c.args.output.now.writer) (g.W.Write.contents c.print_node_head.new.output.writer) (g.W.Write.contents c.print_lines.new.output.writer) c.args.output.now.text.items c.print_node_head.new.output.text.items c.print_lines.new.output.text.items _ _ c.in_ok-print_node_head.ensures.gone c.in_ok-print_lines.ensures.gone in
    on_ok c.print_mappings.result c.print_mappings.ensures.gone
    (λ last. goes_then (g.W.Write.contents c.args.output.now.writer) (g.W.Write.contents c.print_lines.new.output.writer) (g.W.Write.contents c.print_mappings.new.output.writer) c.args.output.now.text.items c.print_lines.new.output.text.items c.print_mappings.new.output.text.items _ _ t1 last)
