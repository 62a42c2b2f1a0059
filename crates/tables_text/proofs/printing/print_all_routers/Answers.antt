use Rattle.std.proofs.Common.{subst}
use Rattle.std.specs.List.{flat_map}
use Rattle.tables_text.specs.Tables.{router_entry}
use Rattle.text.proofs.Going.{on_ok}
use Rattle.text.specs.Going.{Goes}
use Rattle.tables_text.proofs.printing.print_all_routers.Goals as goal

pub returns-clause-gone : goal.returns-clause-gone
returns-clause-gone g c =
    on_ok c.print_routers.result c.print_routers.ensures.gone
    (λ last. subst (λ xs. Goes (g.W.Write.contents c.args.output.now.writer) c.args.output.now.text.items (flat_map router_entry xs)
    (g.W.Write.contents c.print_routers.new.output.writer) c.print_routers.new.output.text.items) c.routers.ensures.value last)
