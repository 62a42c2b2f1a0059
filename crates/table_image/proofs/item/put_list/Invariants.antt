use Rattle.std.proofs.Common.{◌≡◌, ◌++◌, take}
use Rattle.std.specs.List.{flat_map}
use Rattle.at_base.specs.Spelling.{bytes_of}
use Rattle.table_image.specs.Contexts.{nothing}
use Rattle.table_image.proofs.item.put_list.Given as goal

abbrev pub invariant-loop-item : goal.invariant-loop-item
invariant-loop-item g l = l.out.items ≡ l.initial.out.items ++ flat_map (bytes_of (g.T.Item.spelling (nothing l.version) 0)) (take l.item-index l.items)
