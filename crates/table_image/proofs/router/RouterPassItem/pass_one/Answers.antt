use Rattle.std.proofs.Common.{refl}
use Rattle.table_image.specs.Spelling.{router_spelling}
use Rattle.table_image.proofs.router.RouterPassItem.pass_one.Goals as goal

pub returns : goal.returns
unfolding router_spelling
returns c =
    let ports = c.in_ok-ports.ensures in
    let rows = rw c.with_ports-of_ports.ensures at c.in_ok-_rows.ensures in
    let lists = c.in_ok-_lists.ensures in
    (record { ports = ports.0; rows = rows.0; lists = lists.0 }, rw (ports.1, ports.2, rows.1, lists.1) refl, refl)
