use Rattle.table_image.specs.Counts.{size_of}
use Rattle.table_image.proofs.Writing.{counted_written}
use Rattle.table_image.proofs.item.put_counted.Goals as goal

pub returns : goal.returns
returns g c =
    counted_written g.T.Item.spelling g.T.Item.next c.written_alike.ensures (size_of c.args.size) c.args._limit c.args.context c.args.items.now
    c.args.out.now.items c.put_count.new.out.items c.put_list.new.out.items
    (rw (← c.len.ensures) c.in_ok-put_count.ensures) (rw (← c.as_slice.ensures) c.in_ok-put_list.ensures)
