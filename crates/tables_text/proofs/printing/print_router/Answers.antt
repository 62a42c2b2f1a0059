use Rattle.text.proofs.Going.{goes_then, on_ok}
use Rattle.tables_text.proofs.printing.print_router.Goals as goal

pub returns-clause-gone : goal.returns-clause-gone
returns-clause-gone g c =
    let t1 = goes_then (g.W.Write.contents c.args.output.now.writer) (g.W.Write.contents c.print_text.new.output.writer) (g.W.Write.contents c.print_lines.new.output.writer) c.args.output.now.text.items c.print_text.new.output.text.items c.print_lines.new.output.text.items _ _ c.in_ok-print_text.ensures.gone c.in_ok-print_lines.ensures.gone in
    let t2 = goes_then (g.W.Write.contents c.args.output.now.writer) (g.W.Write.contents c.print_lines.new.output.writer) (g.W.Write.contents c.print_lines-2.new.output.writer) c.args.output.now.text.items c.print_lines.new.output.text.items c.print_lines-2.new.output.text.items _ _ t1 c.in_ok-print_lines-2.ensures.gone in
    on_ok c.print_lines-3.result c.print_lines-3.ensures.gone
    (λ last. goes_then (g.W.Write.contents c.args.output.now.writer) (g.W.Write.contents c.print_lines-2.new.output.writer) (g.W.Write.contents c.print_lines-3.new.output.writer) c.args.output.now.text.items c.print_lines-2.new.output.text.items c.print_lines-3.new.output.text.items _ _ t2 last)
