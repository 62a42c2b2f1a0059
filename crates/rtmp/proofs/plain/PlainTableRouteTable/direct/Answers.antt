use Rattle.std.proofs.Common.{arith, length, ◌<◌, ◌≡◌}
use Rattle.rtmp.specs.Routes.{beside}
use Rattle.rtmp.proofs.Maps.{beside_apart, directed_map}
use Rattle.rtmp.proofs.plain.PlainTableRouteTable.direct.Goals as goal

pub put_row-requires-clause-map : goal.put_row-requires-clause-map
put_row-requires-clause-map c =
    let same = (c.in_ok-reserve.ensures {u = tt}).items in
    rw (c.remove_rows.ensures.kept, same) (beside_apart c.args.range c.self.inside.rows.items c.self.invariant)

pub invariant_of-self-2 : goal.invariant_of-self-2
invariant_of-self-2 c =
    let same = (c.in_ok-reserve.ensures {u = tt}).items in
    let counted : c.count_beside.result ≡ length (beside c.args.range c.self.inside.rows.items) =
    rw c.as_slice.ensures.value at c.count_beside.ensures in
    let room : length (beside c.args.range c.self.inside.rows.items) < 200 = omega arith in
    rw (c.put_row.ensures, c.direct_row.ensures, c.remove_rows.ensures.kept, same)
    (directed_map c.args.range c.args.port c.self.inside.rows.items c.recall_valid.ensures room c.self.invariant)
