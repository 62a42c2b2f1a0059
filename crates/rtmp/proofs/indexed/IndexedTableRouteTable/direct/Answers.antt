use Rattle.std.proofs.Common.{arith, ap, not, length, ◌<◌, ◌≡◌, inl}
use Rattle.at_base.specs.Range.{overlaps}
use Rattle.at_base.proofs.Lists.{few_filter}
use Rattle.at_base.proofs.Spans.{length_with}
use Rattle.rtmp.specs.Routes.{beside}
use Rattle.rtmp.proofs.Maps.{beside_apart, directed_map}
use Rattle.rtmp.proofs.indexed.IndexedTableRouteTable.direct.Goals as goal

pub put-requires-clause-map : goal.put-requires-clause-map
put-requires-clause-map c =
    rw (c.remove_rows.ensures.kept, c.make_room.ensures.rows) (beside_apart c.args.range c.self.inside.rows.items c.self.invariant.map)

pub invariant_of-self-2 : goal.invariant_of-self-2
invariant_of-self-2 c =
    let rows = c.self.inside.rows.items in
    let counted : c.count_beside.result ≡ length (beside c.args.range rows) = rw c.as_slice.ensures.value at c.count_beside.ensures in
    let room : length (beside c.args.range rows) < 200 = omega arith in
    record {
      map = rw (c.put.ensures, c.direct_row.ensures, c.remove_rows.ensures.kept, c.make_room.ensures.rows)
          (directed_map c.args.range c.args.port rows c.recall_valid.ensures room c.self.invariant.map);
      index = inl c.make_room.ensures.numbers;
      room = rw c.put.ensures (omega (
        arith,
        length_with (λ r. r.range) c.direct_row.result c.remove_rows.new.rows.items,
        ap length c.remove_rows.ensures.kept,
        few_filter (λ r. not (overlaps r.range c.args.range)) c.make_room.new.rows.items,
        (c.in_ok-make_room.ensures {u = tt}).place,
      ));
    }
