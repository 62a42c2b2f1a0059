use Rattle.std.proofs.Common.{subst}
use Rattle.tables_text.specs.Tables.{lines_of}
use Rattle.text.specs.Going.{Goes}
use Rattle.text.proofs.Going.{goes_then, on_ok}
use Rattle.tables_text.proofs.printing.print_lines.Goals as goal

pub returns-clause-gone : goal.returns-clause-gone
returns-clause-gone g c =
    on_ok c.print_array.result c.print_array.ensures.gone
    (λ last. subst (λ xs. Goes (g.W.Write.contents c.args.output.now.writer) c.args.output.now.text.items
    (lines_of c.args.key.now g.T.Shown.shown xs) (g.W.Write.contents c.print_array.new.output.writer) c.print_array.new.output.text.items) c.as_slice.ensures
    (goes_then (g.W.Write.contents c.args.output.now.writer) (g.W.Write.contents c.print_text.new.output.writer) (g.W.Write.contents c.print_array.new.output.writer) c.args.output.now.text.items c.print_text.new.output.text.items c.print_array.new.output.text.items _ _ c.in_ok-print_text.ensures.gone last))
