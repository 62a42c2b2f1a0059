use Rattle.text.proofs.Going.{goes_then, on_ok}
use Rattle.tables_text.proofs.printing.print_tables.Goals as goal

pub returns-clause-gone : goal.returns-clause-gone
returns-clause-gone g c =
    let t1 = goes_then (g.W.Write.contents c.args.output.now.writer) (g.W.Write.contents c.print_version.new.output.writer) (g.W.Write.contents c.print_cables.new.output.writer) c.args.output.now.text.items c.print_version.new.output.text.items c.print_cables.new.output.text.items _ _ c.in_ok-print_version.ensures.gone c.in_ok-print_cables.ensures.gone in
    let t2 = goes_then (g.W.Write.contents c.args.output.now.writer) (g.W.Write.contents c.print_cables.new.output.writer) (g.W.Write.contents c.print_all_routers.new.output.writer) c.args.output.now.text.items c.print_cables.new.output.text.items c.print_all_routers.new.output.text.items _ _ t1 c.in_ok-print_all_routers.ensures.gone in
    on_ok c.print_all_nodes.result c.print_all_nodes.ensures.gone
    (λ last. goes_then (g.W.Write.contents c.args.output.now.writer) (g.W.Write.contents c.print_all_routers.new.output.writer) (g.W.Write.contents c.print_all_nodes.new.output.writer) c.args.output.now.text.items c.print_all_routers.new.output.text.items c.print_all_nodes.new.output.text.items _ _ t2 last)
