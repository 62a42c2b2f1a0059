use Rattle.std.proofs.Common.{◌+◌, ◌*◌, ◌≤◌}
use Rattle.table_image.proofs.CheckLoop.{Standing}
use Rattle.table_image.proofs.checking.check_list.Given as goal

abbrev pub invariant-loop-item : goal.invariant-loop-item
invariant-loop-item g l = record {
  standing : Standing (g.T.Item.spelling l.context) g.T.Item.next l.items l.at l.item-index l.low l.end;
  near : l.end ≤ l.at + l.item-index * g.T.CheckItem.max_size;
}
