use Rattle.std.proofs.Common.{arith, ap, inl, length, sym, ◌∙◌}
use Rattle.rtmp.specs.Routes.{IsRouteMap}
use Rattle.rtmp.proofs.Maps.{each_row}
use Rattle.rtmp.proofs.indexed.IndexedTableRouteTable.load.Goals as goal

pub invariant_of-self : goal.invariant_of-self
invariant_of-self c =
    let same = (c.in_ok-rows.ensures {u = tt}).items in
    let all_apart = c.if-not-rows_are_apart.false in
    let h : IsRouteMap c.args.given.now = record {
      apart = sym c.rows_are_apart.ensures.value ∙ all_apart;
      each = each_row c.args.given.now (c.rows_are_apart.ensures.valid all_apart) c.requires.near;
      few = omega arith;
    } in
    record {
      map = rw same h;
      index = inl ((c.in_ok-by_next.ensures {u = tt}).items);
      room = omega (arith, ap length same, (c.in_ok-by_next.ensures {u = tt}).capacity);
    }
